-- The rows of a layer's own.
use Rattle.std.specs.Prelude.{List, map}
use Rattle.kb.specs.declared.axioms.Inclusion.{Inclusion}
use Rattle.kb.specs.declared.axioms.Key.{Key}
use Rattle.kb.specs.declared.axioms.Key.TheVariants.{Link}
use Rattle.layers.specs.declared.rules.LinkKey.{LinkKey}
use Rattle.layers.specs.declared.rules.Rules.{Rules}

-- The key that a layer keeps in parts.
abbrev pub link_of : LinkKey → Key
link_of k = Link k.first k.second k.pairs

module _ {B : Type 0} where
  -- The inclusions that were added to a layer of rules, first to last.
  abbrev pub own_inclusions : Rules B → List Inclusion
  own_inclusions l = l.inclusions.items

  -- The keys that were added, as they have grown.
  abbrev pub own_keys : Rules B → List Key
  own_keys l = map link_of l.keys.items
