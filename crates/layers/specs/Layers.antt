-- What each layer lists, from what it stands on.
use Rattle.std.specs.Prelude.{ℕ, cond, List, map, Ok, Err, Result, nat_lt}
use Rattle.rows.specs.declared.fault.RowFault.{RowFault}
use Rattle.kb.specs.declared.axioms.Inclusion.{Inclusion}
use Rattle.kb.specs.declared.axioms.Key.{Key}
use Rattle.kb.specs.Meanings.{Meaning}
use Rattle.kb.specs.Telling.{tell_inclusion, tell_key, behind}

-- Row n of two lists of which one stands behind the other, from an answer of each: the first's row, or else the second's
-- where n is not past the cut.
abbrev pub of_two : {X : Type 0} → ℕ → Result X RowFault → Result X RowFault → Result X RowFault
of_two n (Ok x) second = Ok x
of_two n (Err f) second = cond (nat_lt n 65535) second (Err f)

-- Rules: the inclusions and keys of the layer stand behind those below.
abbrev pub rules_meaning : Meaning → List Inclusion → List Key → Meaning
rules_meaning m inclusions keys =
    record {
      entries = m.entries;
      roles = m.roles;
      individuals = m.individuals;
      assertions = m.assertions;
      inclusions = behind m.inclusions (map tell_inclusion inclusions);
      keys = behind m.keys (map tell_key keys);
    }
