-- When a row is in range: it is of a listed kind, and names only what the base has.
use Rattle.std.specs.Prelude.{ℕ, Bool, false, not, ◌&&◌, ◌==◌, nat_lt}
use Rattle.std.specs.List.{list_all}
use Rattle.kb.specs.declared.axioms.Assertion.{Assertion}
use Rattle.kb.specs.declared.axioms.Assertion.TheVariants.{Is, Joins, Same, Different, Unlisted as UnlistedAssertion}
use Rattle.kb.specs.declared.axioms.Inclusion.{Inclusion}
use Rattle.kb.specs.declared.axioms.Key.{Key}
use Rattle.kb.specs.declared.axioms.Key.TheVariants.{Link, Unlisted as UnlistedKey}
use Rattle.kb.specs.declared.axioms.RolePair.{RolePair}
use Rattle.kb.specs.declared.axioms.RolePairs.{RolePairs}
use Rattle.kb.specs.declared.counts.Counts.{Counts}
use Rattle.kb.specs.declared.lexicon.Entry.{Entry}
use Rattle.kb.specs.declared.lexicon.Entry.TheVariants.{Top, Name, Both, Some, Unlisted}
use Rattle.kb.specs.declared.names.Concept.{Concept}
use Rattle.kb.specs.declared.names.Individual.{Individual}
use Rattle.kb.specs.declared.names.Role.{Role}
use Rattle.kb.specs.Names.{entry_number}
use Rattle.kb.specs.Numbers.{pair_list}

-- The concepts of a base are those of its entries, its roles and individuals those below their counts.
abbrev pub concept_in_range : Counts → Concept → Bool
concept_in_range n c = nat_lt (entry_number c) n.entries

abbrev pub role_in_range : Counts → Role → Bool
role_in_range n r = nat_lt r.0 n.roles

abbrev pub individual_in_range : Counts → Individual → Bool
individual_in_range n x = nat_lt x.0 n.individuals

-- Entry k: TOP stands at 0 and nowhere else, roles exist, and parts are concepts of entries before k.
abbrev pub entry_in_range : Counts → ℕ → Entry → Bool
entry_in_range n k Top = k == 0
entry_in_range n k Name = not (k == 0)
entry_in_range n k (Both c d) = nat_lt (entry_number c) k && nat_lt (entry_number d) k
entry_in_range n k (Some r c) = role_in_range n r && nat_lt (entry_number c) k
entry_in_range n k (Unlisted kind) = false

-- An assertion names a concept, roles and individuals that the base has.
abbrev pub assertion_in_range : Counts → Assertion → Bool
assertion_in_range n (Is c x) = concept_in_range n c && individual_in_range n x
assertion_in_range n (Joins r x y) = role_in_range n r && (individual_in_range n x && individual_in_range n y)
assertion_in_range n (Same x y) = individual_in_range n x && individual_in_range n y
assertion_in_range n (Different x y) = individual_in_range n x && individual_in_range n y
assertion_in_range n (UnlistedAssertion kind) = false

-- An inclusion names two concepts that the base has.
abbrev pub inclusion_in_range : Counts → Inclusion → Bool
inclusion_in_range n i = concept_in_range n i.sub && concept_in_range n i.sup

-- Both roles of a pair exist.
abbrev pub pair_in_range : Counts → RolePair → Bool
pair_in_range n p = role_in_range n p.left && role_in_range n p.right

-- Each of one to four pairs is in range.
abbrev pub pairs_in_range : Counts → RolePairs → Bool
pairs_in_range n pairs = list_all (pair_in_range n) (pair_list pairs)

-- A key has one to four pairs of roles, and its classes are concepts of the base.
abbrev pub key_in_range : Counts → Key → Bool
key_in_range n (Link c d pairs) = concept_in_range n c && (concept_in_range n d && pairs_in_range n pairs)
key_in_range n (UnlistedKey count) = false
