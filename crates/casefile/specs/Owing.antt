-- What a case file owes as a base: every number and every list that it tells can be told. An implementation names its
-- proof, so it stands among the definitions.
use Rattle.std.specs.Prelude.{◌≡◌, ℕ, zero, suc, Bool, true, false, cond, List, [], ◌∷◌, length, drop, ◌==◌, slice_index, refl}
use Rattle.std.proofs.Common.{ap, arith}
use Rattle.std.specs.List.{AllByRecursion}
use Rattle.std.proofs.ByRecursion.{All-drop}
use Rattle.std.proofs.lemmas.Bool.{cond_both}
use Rattle.kb.specs.Meanings.{Tellable, TellableList, Owed}
use Rattle.kb.specs.Numbers.{entry_numbers, assertion_numbers, inclusion_numbers, key_numbers}
use Rattle.kb.specs.declared.counts.Counts.{Counts}
use Rattle.casefile.specs.Numbers.{numbers}
use Rattle.casefile.specs.Layout.{header_counts, entries_at, assertions_at, inclusions_at, keys_at}
use Rattle.casefile.specs.Records.{read_entry, read_assertion, read_inclusion, read_key}
use Rattle.casefile.specs.Files.{rows_from, file_counts, file_meaning, no_counts, whole_file}

pub length-rows_from : {X : Type 0} (width : ℕ) (read : List ℕ → X) (k : ℕ) (ns : List ℕ) → length (rows_from width read k ns) ≡ k
length-rows_from width read zero ns = refl
length-rows_from width read (suc k) ns = ap suc (length-rows_from width read k (drop width ns))

numbers-small : (bytes : List ℕ) → AllByRecursion Tellable (numbers bytes)
numbers-small [] = tt
numbers-small (b ∷ []) = tt
numbers-small (a ∷ b ∷ bytes) = (omega arith, numbers-small bytes)

small_at : (ns : List ℕ) (i : ℕ) → AllByRecursion Tellable ns → Tellable (slice_index ns i)
small_at [] i a = omega arith
small_at (n ∷ ns) zero a = a.0
small_at (n ∷ ns) (suc i) a = small_at ns i a.1

-- a test that chooses between two rows chooses between their numbers
small-cond : {X : Type 0} (numbers_of : X → List ℕ) (b : Bool) (x y : X) → AllByRecursion Tellable (numbers_of x) → AllByRecursion Tellable (numbers_of y) → AllByRecursion Tellable (numbers_of (cond b x y))
small-cond numbers_of true x y p q = p
small-cond numbers_of false x y p q = q

module _ (ns : List ℕ) (a : AllByRecursion Tellable ns) where
  z : Tellable 0
  z = omega arith

  s : (i : ℕ) → Tellable (slice_index ns i)
  s i = small_at ns i a

  entry_small : AllByRecursion Tellable (entry_numbers (read_entry ns))
  entry_small =
      small-cond entry_numbers (slice_index ns 0 == 0) _ _ (z, (z, (z, tt)))
      (small-cond entry_numbers (slice_index ns 0 == 1) _ _ (omega arith, (z, (z, tt)))
      (small-cond entry_numbers (slice_index ns 0 == 2) _ _ (omega arith, (s 1, (s 2, tt)))
      (small-cond entry_numbers (slice_index ns 0 == 3) _ _ (omega arith, (s 1, (s 2, tt))) (s 0, (z, (z, tt))))))

  assertion_small : AllByRecursion Tellable (assertion_numbers (read_assertion ns))
  assertion_small =
      small-cond assertion_numbers (slice_index ns 0 == 0) _ _ (z, (s 1, (s 2, (z, tt))))
      (small-cond assertion_numbers (slice_index ns 0 == 1) _ _ (omega arith, (s 1, (s 2, (s 3, tt))))
      (small-cond assertion_numbers (slice_index ns 0 == 2) _ _ (omega arith, (s 1, (s 2, (z, tt))))
      (small-cond assertion_numbers (slice_index ns 0 == 3) _ _ (omega arith, (s 1, (s 2, (z, tt)))) (s 0, (z, (z, (z, tt)))))))

  inclusion_small : AllByRecursion Tellable (inclusion_numbers (read_inclusion ns))
  inclusion_small = (s 0, (s 1, tt))

  key_small : AllByRecursion Tellable (key_numbers (read_key ns))
  key_small =
      small-cond key_numbers (slice_index ns 2 == 1) _ _ (s 0, (s 1, (omega arith, (s 3, (s 4, (z, (z, (z, (z, (z, (z, tt)))))))))))
      (small-cond key_numbers (slice_index ns 2 == 2) _ _ (s 0, (s 1, (omega arith, (s 3, (s 4, (s 5, (s 6, (z, (z, (z, (z, tt)))))))))))
      (small-cond key_numbers (slice_index ns 2 == 3) _ _ (s 0, (s 1, (omega arith, (s 3, (s 4, (s 5, (s 6, (s 7, (s 8, (z, (z, tt)))))))))))
      (small-cond key_numbers (slice_index ns 2 == 4) _ _ (s 0, (s 1, (omega arith, (s 3, (s 4, (s 5, (s 6, (s 7, (s 8, (s 9, (s 10, tt)))))))))))
      (z, (z, (s 2, (z, (z, (z, (z, (z, (z, (z, (z, tt))))))))))))))

-- rows read from small numbers are small, and there are no more than can be told
rows_from_tellable : {X : Type 0} (numbers_of : X → List ℕ) (width : ℕ) (read : List ℕ → X) → ((ns : List ℕ) → AllByRecursion Tellable ns → AllByRecursion Tellable (numbers_of (read ns))) → (k : ℕ) → Tellable k → (ns : List ℕ) → AllByRecursion Tellable ns → TellableList numbers_of (rows_from width read k ns)
rows_from_tellable numbers_of width read each k h ns a =
    record { short = omega (arith, length-rows_from width read k ns); small = rows k ns a }
  where
    rows : (k : ℕ) (ns : List ℕ) → AllByRecursion Tellable ns → AllByRecursion (λ x. AllByRecursion Tellable (numbers_of x)) (rows_from width read k ns)
    rows zero ns a = tt
    rows (suc k) ns a = (each ns a, rows k (drop width ns) (All-drop Tellable width ns a))

-- every count of a file can be told
pub record SmallCounts (n : Counts) : Type 0 where
  pub entries : Tellable n.entries
  pub roles : Tellable n.roles
  pub individuals : Tellable n.individuals
  pub assertions : Tellable n.assertions
  pub inclusions : Tellable n.inclusions
  pub keys : Tellable n.keys

counts_small : (bytes : List ℕ) → SmallCounts (file_counts bytes)
counts_small bytes =
    cond_both (whole_file bytes) (header_counts (numbers bytes)) no_counts SmallCounts
    (λ _. record { entries = s 2; roles = s 1; individuals = s 0; assertions = s 3; inclusions = s 4; keys = s 5 })
    (λ _. record { entries = omega arith; roles = omega arith; individuals = omega arith; assertions = omega arith; inclusions = omega arith; keys = omega arith })
  where
    s : (i : ℕ) → Tellable (slice_index (numbers bytes) i)
    s i = small_at (numbers bytes) i (numbers-small bytes)

-- what a case file owes as a base
pub file_owed : (bytes : List ℕ) → Owed (file_meaning bytes)
file_owed bytes =
    let n = counts_small bytes in
    record {
      entries = rows_from_tellable entry_numbers 3 read_entry entry_small _ n.entries _ (from entries_at);
      roles = n.roles;
      individuals = n.individuals;
      assertions = rows_from_tellable assertion_numbers 4 read_assertion assertion_small _ n.assertions _ (from (assertions_at (file_counts bytes)));
      inclusions = rows_from_tellable inclusion_numbers 2 read_inclusion inclusion_small _ n.inclusions _ (from (inclusions_at (file_counts bytes)));
      keys = rows_from_tellable key_numbers 11 read_key key_small _ n.keys _ (from (keys_at (file_counts bytes)));
    }
  where
    from : (k : ℕ) → AllByRecursion Tellable (drop k (numbers bytes))
    from k = All-drop Tellable k (numbers bytes) (numbers-small bytes)
