-- A base of equal rows.
use Rattle.std.specs.Prelude.{ℕ, zero, suc, List, replicate}
use Rattle.std.proofs.Common.{arith}
use Rattle.std.proofs.lemmas.List.{length-replicate}
use Rattle.std.specs.List.{AllByRecursion}
use Rattle.kb.specs.declared.axioms.Assertion.TheVariants.{Same}
use Rattle.kb.specs.declared.axioms.Key.TheVariants.{Unlisted}
use Rattle.kb.specs.declared.lexicon.Entry.TheVariants.{Name}
use Rattle.kb.specs.Meanings.{Meaning, Owed, Tellable, TellableList}
use Rattle.kb.specs.Numbers.{entry_numbers, assertion_numbers, inclusion_numbers, key_numbers}
use Rattle.kb.specs.Telling.{tell, entry_tellable, assertion_tellable, inclusion_tellable, key_tellable}

-- So many individuals, and so many equal rows in each list.
abbrev pub many_meaning : ℕ → ℕ → Meaning
many_meaning individuals rows =
    record {
      entries = replicate (tell rows) Name;
      roles = 1;
      individuals = tell individuals;
      assertions = replicate (tell rows) (Same (record { 0 = 1 }) (record { 0 = 2 }));
      inclusions = replicate (tell rows) (record { sub = record { 0 = 1 }; sup = record { 0 = 2 } });
      keys = replicate (tell rows) (Unlisted 9);
    }

module _ {X : Type 0} (numbers : X → List ℕ) (x : X) (h : AllByRecursion Tellable (numbers x)) where
  each-equal : (n : ℕ) → AllByRecursion (λ y. AllByRecursion Tellable (numbers y)) (replicate n x)
  each-equal zero = tt
  each-equal (suc n) = (h, each-equal n)

  equal_tellable : (n : ℕ) → TellableList numbers (replicate (tell n) x)
  equal_tellable n = record { short = omega (arith, length-replicate (tell n) x); small = each-equal (tell n) }

pub many_owed : (individuals rows : ℕ) → Owed (many_meaning individuals rows)
many_owed individuals rows =
    record {
      entries = equal_tellable entry_numbers Name (entry_tellable Name) rows;
      roles = omega arith;
      individuals = omega arith;
      assertions = equal_tellable assertion_numbers (Same (record { 0 = 1 }) (record { 0 = 2 })) (assertion_tellable (Same (record { 0 = 1 }) (record { 0 = 2 }))) rows;
      inclusions = equal_tellable inclusion_numbers (record { sub = record { 0 = 1 }; sup = record { 0 = 2 } }) (inclusion_tellable (record { sub = record { 0 = 1 }; sup = record { 0 = 2 } })) rows;
      keys = equal_tellable key_numbers (Unlisted 9) (key_tellable (Unlisted 9)) rows;
    }
