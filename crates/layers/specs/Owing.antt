-- What each layer owes of its meaning follows from what is owed of what it stands on. Implementations name these proofs.
use Rattle.std.specs.Prelude.{List}
use Rattle.std.proofs.Common.{arith}
use Rattle.kb.specs.declared.axioms.Inclusion.{Inclusion}
use Rattle.kb.specs.declared.axioms.Key.{Key}
use Rattle.kb.specs.declared.statement.Statement.{Statement}
use Rattle.kb.specs.Meanings.{Meaning, Owed}
use Rattle.kb.specs.Numbers.{assertion_numbers, inclusion_numbers, key_numbers}
use Rattle.kb.specs.Questions.{asking, denial}
use Rattle.kb.specs.Telling.{tell_assertion, tell_inclusion, tell_key, assertion_tellable, inclusion_tellable, key_tellable, behind_tellable, each-told}
use Rattle.layers.specs.Layers.{rules_meaning}

pub asking_owed : (m : Meaning) (s : Statement) → Owed m → Owed (asking m s)
asking_owed m s o =
    record {
      entries = o.entries;
      roles = o.roles;
      individuals = omega arith;
      assertions = behind_tellable assertion_numbers m.assertions _ o.assertions (each-told assertion_numbers tell_assertion assertion_tellable (denial m.individuals s));
      inclusions = o.inclusions;
      keys = o.keys;
    }

pub rules_owed : (m : Meaning) (is : List Inclusion) (ks : List Key) → Owed m → Owed (rules_meaning m is ks)
rules_owed m is ks o =
    record {
      entries = o.entries;
      roles = o.roles;
      individuals = o.individuals;
      assertions = o.assertions;
      inclusions = behind_tellable inclusion_numbers m.inclusions _ o.inclusions (each-told inclusion_numbers tell_inclusion inclusion_tellable is);
      keys = behind_tellable key_numbers m.keys _ o.keys (each-told key_numbers tell_key key_tellable ks);
    }
