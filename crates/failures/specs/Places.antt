-- The first failure in words: where a condition fails, and which place comes before another.
use Rattle.std.specs.Prelude.{◌≡◌, ℕ, ◌+◌, ◌*◌, ◌<◌, ◌⊎◌, ◌↔◌, List, [], ◌∷◌, length, Some, None, Ok}
use Rattle.rows.specs.Rows.{row_at}
use Rattle.kb.specs.declared.axioms.Assertion.{Assertion as AssertionRow}
use Rattle.kb.specs.declared.axioms.Assertion.TheVariants.{Is, Joins, Different}
use Rattle.kb.specs.declared.axioms.Inclusion.{Inclusion as InclusionRow}
use Rattle.kb.specs.declared.axioms.Key.TheVariants.{Link}
use Rattle.kb.specs.declared.axioms.RolePairs.{RolePairs}
use Rattle.kb.specs.declared.lexicon.Entry.TheVariants.{Both as BothEntry, Some as SomeEntry}
use Rattle.kb.specs.declared.names.Concept.{Concept}
use Rattle.kb.specs.declared.names.Individual.{Individual}
use Rattle.kb.specs.declared.names.Role.{Role}
use Rattle.kb.specs.Meanings.{Meaning}
use Rattle.kb.specs.Names.{complement}
use Rattle.calculus.specs.Branches.{Branch, Equal}
use Rattle.calculus.specs.Conditions.{Conditions, LowestFailing, NotBlocked, OnSheet, ValuesShared}
use Rattle.calculus.specs.Faults.{condition_number}
use Rattle.calculus.specs.Holding.{Held}
use Rattle.calculus.specs.Review.{concept}
use Rattle.failures.specs.declared.failure.Failure.{Failure}
use Rattle.failures.specs.declared.failure.Failure.TheVariants.{Clash, Apart, Assertion, Both, All, Inclusion, Key, Either, Some as SomeFailure}
use Rattle.failures.specs.Failures.{condition_of, first_failure}

-- The numbers of a place within its condition. Of condition 1, a clash comes before two that are different and equal.
abbrev pub numbers_within : Failure → List ℕ
numbers_within (Clash c x) = 0 ∷ c.0 ∷ x.0 ∷ []
numbers_within (Apart x y) = 1 ∷ x.0 ∷ y.0 ∷ []
numbers_within (Assertion n) = n ∷ []
numbers_within (Both c x) = c.0 ∷ x.0 ∷ []
numbers_within (All c x y) = c.0 ∷ x.0 ∷ y.0 ∷ []
numbers_within (Inclusion n x) = n ∷ x.0 ∷ []
numbers_within (Key n x y) = n ∷ x.0 ∷ y.0 ∷ []
numbers_within (Either c x) = c.0 ∷ x.0 ∷ []
numbers_within (SomeFailure c x) = c.0 ∷ x.0 ∷ []

-- The numbers of a failure: its condition's, then its place's.
abbrev pub failure_numbers : Failure → List ℕ
failure_numbers f = condition_number (condition_of f) ∷ numbers_within f

-- One list of numbers comes before another, as words do in a dictionary.
abbrev pub Before : List ℕ → List ℕ → Type 0
Before [] [] = ⊥
Before [] (y ∷ ys) = Unit {0}
Before (x ∷ xs) [] = ⊥
Before (x ∷ xs) (y ∷ ys) = (x < y) ⊎ ((x ≡ y) × Before xs ys)

module _ (m : Meaning) (b : Branch) where
  -- A condition fails at a place. Concept 2k is that of entry k, and 2k+1 its complement.
  abbrev pub FailsAt : Failure → Type 0
  -- 1. c, the concept of an entry, and ~c are held of x; or x and y are different, and equal.
  FailsAt (Clash c x) =
      (k : ℕ) × (k < length m.entries) × (c ≡ concept (2 * k)) × OnSheet m b x × Held m b (Is c x) × Held m b (Is (complement c) x)
  FailsAt (Apart x y) = OnSheet m b x × OnSheet m b y × Held m b (Different x y) × Equal b.pairs x y
  -- 2. The assertion is not held.
  FailsAt (Assertion n) = (a : AssertionRow) × (row_at m.assertions n ≡ Ok a) × (Held m b a → ⊥)
  -- 3. BOTH(d, e) is held of x, which is not blocked; d and e are not both held of x.
  FailsAt (Both c x) =
      (k : ℕ) × (d : Concept) × (e : Concept) × (c ≡ concept (2 * k)) × (row_at m.entries k ≡ Ok (BothEntry d e))
      × OnSheet m b x × NotBlocked m b x × Held m b (Is c x) × (Held m b (Is d x) × Held m b (Is e x) → ⊥)
  -- 4. ~SOME(r, d) is held of x, which is not blocked, and r from x to y; ~d is not held of y.
  FailsAt (All c x y) =
      (k : ℕ) × (r : Role) × (d : Concept) × (c ≡ concept (2 * k + 1)) × (row_at m.entries k ≡ Ok (SomeEntry r d))
      × OnSheet m b x × NotBlocked m b x × OnSheet m b y
      × Held m b (Is c x) × Held m b (Joins r x y) × (Held m b (Is (complement d) y) → ⊥)
  -- 5. By the inclusion (c, d), neither ~c nor d is held of x, which is not blocked.
  FailsAt (Inclusion n x) =
      (i : InclusionRow) × (row_at m.inclusions n ≡ Ok i) × OnSheet m b x × NotBlocked m b x
      × (Held m b (Is (complement i.sub) x) → ⊥) × (Held m b (Is i.sup x) → ⊥)
  -- 6. By the key with classes c and d, individuals x and y of the base share a value for each pair; ~c is not held of x, nor
  -- ~d of y, and they are not equal.
  FailsAt (Key n x y) =
      (c : Concept) × (d : Concept) × (pairs : RolePairs) × (row_at m.keys n ≡ Ok (Link c d pairs))
      × (x.0 < m.individuals) × (y.0 < m.individuals) × ValuesShared m b pairs x y
      × (Held m b (Is (complement c) x) → ⊥) × (Held m b (Is (complement d) y) → ⊥) × (Equal b.pairs x y → ⊥)
  -- 7. ~BOTH(d, e) is held of x, which is not blocked; neither ~d nor ~e is held of x.
  FailsAt (Either c x) =
      (k : ℕ) × (d : Concept) × (e : Concept) × (c ≡ concept (2 * k + 1)) × (row_at m.entries k ≡ Ok (BothEntry d e))
      × OnSheet m b x × NotBlocked m b x
      × Held m b (Is c x) × (Held m b (Is (complement d) x) → ⊥) × (Held m b (Is (complement e) x) → ⊥)
  -- 8. SOME(r, d) is held of x, which is not blocked; d is held of no y to which r goes from x.
  FailsAt (SomeFailure c x) =
      (k : ℕ) × (r : Role) × (d : Concept) × (c ≡ concept (2 * k)) × (row_at m.entries k ≡ Ok (SomeEntry r d))
      × OnSheet m b x × NotBlocked m b x
      × Held m b (Is c x) × ((y : Individual) → OnSheet m b y → Held m b (Joins r x y) → Held m b (Is d y) → ⊥)

  -- A condition fails at a place, and none fails at a place whose numbers come before.
  abbrev pub FailsFirst : Failure → Type 0
  FailsFirst f = FailsAt f × ((g : Failure) → FailsAt g → Before (failure_numbers g) (failure_numbers f) → ⊥)

  -- The first failure: there is none exactly where the eight conditions hold; it is f exactly where f fails first; and its
  -- condition is then the lowest that fails.
  pub record FirstFailure : Type 0 where
    pub none : (first_failure m b ≡ None) ↔ Conditions m b
    pub first : (f : Failure) → (first_failure m b ≡ Some f) ↔ FailsFirst f
    pub lowest : (f : Failure) → first_failure m b ≡ Some f → LowestFailing m b (condition_of f)
