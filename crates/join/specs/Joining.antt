-- What a join lists, from what the two bases list.
use Rattle.std.specs.Prelude.{ℕ, ◌+◌, List, [], ◌∷◌, map}
use Rattle.std.proofs.Common.{arith}
use Rattle.std.specs.List.{AllByRecursion}
use Rattle.kb.specs.declared.axioms.Assertion.{Assertion}
use Rattle.kb.specs.declared.axioms.Assertion.TheVariants.{Is, Joins, Same, Different, Unlisted}
use Rattle.kb.specs.declared.names.Individual.{Individual}
use Rattle.kb.specs.Meanings.{Meaning, Owed, Tellable}
use Rattle.kb.specs.Numbers.{assertion_numbers, inclusion_numbers, key_numbers}
use Rattle.kb.specs.Telling.{tell, behind, behind_tellable}

-- An individual of the right base of a join comes behind the n individuals of the left.
abbrev pub raised_individual : ℕ → Individual → Individual
raised_individual n x = record { 0 = tell (n + x.0) }

-- So do the individuals of an assertion; one of an unlisted kind names none.
abbrev pub raised : ℕ → Assertion → Assertion
raised n (Is c x) = Is c (raised_individual n x)
raised n (Joins r x y) = Joins r (raised_individual n x) (raised_individual n y)
raised n (Same x y) = Same (raised_individual n x) (raised_individual n y)
raised n (Different x y) = Different (raised_individual n x) (raised_individual n y)
raised n (Unlisted kind) = Unlisted kind

-- A join: the rows of the left base, then those of the right; the lexicon and the roles are the left's.
abbrev pub join_meaning : Meaning → Meaning → Meaning
join_meaning left right =
    record {
      entries = left.entries;
      roles = left.roles;
      individuals = tell (left.individuals + right.individuals);
      assertions = behind left.assertions (map (raised left.individuals) right.assertions);
      inclusions = behind left.inclusions right.inclusions;
      keys = behind left.keys right.keys;
    }

-- What is owed of a join follows from what is owed of the two bases. The implementation names this proof.
-- An assertion that can be told can be told raised.
raised_tellable : (n : ℕ) (a : Assertion) → AllByRecursion Tellable (assertion_numbers a) → AllByRecursion Tellable (assertion_numbers (raised n a))
raised_tellable n (Is c x) (k, (t, _)) = (k, (t, (omega arith, (omega arith, tt))))
raised_tellable n (Joins r x y) (k, (t, _)) = (k, (t, (omega arith, (omega arith, tt))))
raised_tellable n (Same x y) (k, _) = (k, (omega arith, (omega arith, (omega arith, tt))))
raised_tellable n (Different x y) (k, _) = (k, (omega arith, (omega arith, (omega arith, tt))))
raised_tellable n (Unlisted kind) h = h

each-raised : (n : ℕ) (as' : List Assertion) → AllByRecursion (λ a. AllByRecursion Tellable (assertion_numbers a)) as' → AllByRecursion (λ a. AllByRecursion Tellable (assertion_numbers a)) (map (raised n) as')
each-raised n [] h = tt
each-raised n (a ∷ as') (h, hs) = (raised_tellable n a h, each-raised n as' hs)

pub join_owed : (m n : Meaning) → Owed m → Owed n → Owed (join_meaning m n)
join_owed m n o p =
    record {
      entries = o.entries;
      roles = o.roles;
      individuals = omega arith;
      assertions = behind_tellable assertion_numbers m.assertions _ o.assertions (each-raised m.individuals n.assertions p.assertions.small);
      inclusions = behind_tellable inclusion_numbers m.inclusions n.inclusions o.inclusions p.inclusions.small;
      keys = behind_tellable key_numbers m.keys n.keys o.keys p.keys.small;
    }
