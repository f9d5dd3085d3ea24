-- The eight conditions of review in words: what is held of individuals of the sheet, and which are equal.
use Rattle.std.specs.Prelude.{◌≡◌, ℕ, ◌+◌, ◌*◌, ◌<◌, true, false, ◌⊎◌, ◌↔◌, length, Some, None, Ok}
use Rattle.rows.specs.Rows.{row_at}
use Rattle.kb.specs.declared.axioms.Assertion.{Assertion}
use Rattle.kb.specs.declared.axioms.Assertion.TheVariants.{Is, Joins, Different}
use Rattle.kb.specs.declared.axioms.Inclusion.{Inclusion}
use Rattle.kb.specs.declared.axioms.Key.TheVariants.{Link}
use Rattle.kb.specs.declared.axioms.RolePair.{RolePair}
use Rattle.kb.specs.declared.axioms.RolePairs.{RolePairs}
use Rattle.kb.specs.declared.lexicon.Entry.TheVariants.{Both as BothEntry, Some as SomeEntry}
use Rattle.kb.specs.declared.names.Concept.{Concept}
use Rattle.kb.specs.declared.names.Individual.{Individual}
use Rattle.kb.specs.declared.names.Role.{Role}
use Rattle.kb.specs.Meanings.{Meaning}
use Rattle.kb.specs.Names.{complement}
use Rattle.kb.specs.Numbers.{pair_list}
use Rattle.calculus.specs.declared.review.Condition.{Condition}
use Rattle.calculus.specs.declared.review.Condition.TheVariants.{NoContradiction, Assertions, BothParts, AllReached, Inclusions, Keys, EitherPart, SomeReached}
use Rattle.calculus.specs.Branches.{Branch, Equal}
use Rattle.calculus.specs.Faults.{condition_number}
use Rattle.calculus.specs.Holding.{Held}
use Rattle.calculus.specs.Review.{concept, blocked, condition1, condition2, condition3, condition4, condition5, condition6, condition7, condition8, lowest_failing}

module _ (m : Meaning) (b : Branch) where
  -- An individual of the sheet, and one that is not blocked.
  abbrev pub OnSheet : Individual → Type 0
  OnSheet x = x.0 < b.individuals

  abbrev pub NotBlocked : Individual → Type 0
  NotBlocked x = blocked m b x.0 ≡ false

  -- 1. No concept of the lexicon and its complement are held of one individual, and no two that are different are equal.
  abbrev pub NoClash : Type 0
  NoClash =
      (c : Concept) (x : Individual) → c.0 < 2 * length m.entries → OnSheet x → Held m b (Is c x) → Held m b (Is (complement c) x) → ⊥

  abbrev pub NoneDifferentAndEqual : Type 0
  NoneDifferentAndEqual =
      (x y : Individual) → OnSheet x → OnSheet y → Held m b (Different x y) → Equal b.pairs x y → ⊥

  -- 2. Every assertion of the base is held.
  abbrev pub AssertionsHeld : Type 0
  AssertionsHeld = (n : ℕ) (a : Assertion) → row_at m.assertions n ≡ Ok a → Held m b a

  -- 3. Where entry k is BOTH(d, e) and 2k is held of x, d and e are held of x.
  abbrev pub BothPartsHeld : Type 0
  BothPartsHeld =
      (k : ℕ) (d e : Concept) (x : Individual) → row_at m.entries k ≡ Ok (BothEntry d e) → OnSheet x → NotBlocked x
      → Held m b (Is (concept (2 * k)) x) → Held m b (Is d x) × Held m b (Is e x)

  -- 4. Where entry k is SOME(r, d) and ~2k is held of x, ~d is held of every y to which r goes from x.
  abbrev pub AllReachedHeld : Type 0
  AllReachedHeld =
      (k : ℕ) (r : Role) (d : Concept) (x : Individual) → row_at m.entries k ≡ Ok (SomeEntry r d) → OnSheet x → NotBlocked x
      → Held m b (Is (concept (2 * k + 1)) x) → (y : Individual) → OnSheet y → Held m b (Joins r x y) → Held m b (Is (complement d) y)

  -- 5. For each inclusion (c, d), ~c or d is held of x.
  abbrev pub InclusionsDecided : Type 0
  InclusionsDecided =
      (n : ℕ) (i : Inclusion) (x : Individual) → row_at m.inclusions n ≡ Ok i → OnSheet x → NotBlocked x
      → Held m b (Is (complement i.sub) x) ⊎ Held m b (Is i.sup x)

  -- The roles of each pair go from x and from y to one individual of the sheet.
  abbrev pub ValuesShared : RolePairs → Individual → Individual → Type 0
  ValuesShared pairs x y =
      (j : ℕ) (p : RolePair) → row_at (pair_list pairs) j ≡ Ok p
      → (z : Individual) × OnSheet z × Held m b (Joins p.left x z) × Held m b (Joins p.right y z)

  -- 6. For each key with classes c and d, of individuals x and y of the base that share a value for each pair: ~c is held of x,
  -- or ~d is held of y, or x and y are equal.
  abbrev pub KeysDecided : Type 0
  KeysDecided =
      (n : ℕ) (c d : Concept) (pairs : RolePairs) (x y : Individual) → row_at m.keys n ≡ Ok (Link c d pairs)
      → x.0 < m.individuals → y.0 < m.individuals → ValuesShared pairs x y
      → Held m b (Is (complement c) x) ⊎ (Held m b (Is (complement d) y) ⊎ Equal b.pairs x y)

  -- 7. Where entry k is BOTH(d, e) and ~2k is held of x, ~d or ~e is held of x.
  abbrev pub EitherPartHeld : Type 0
  EitherPartHeld =
      (k : ℕ) (d e : Concept) (x : Individual) → row_at m.entries k ≡ Ok (BothEntry d e) → OnSheet x → NotBlocked x
      → Held m b (Is (concept (2 * k + 1)) x) → Held m b (Is (complement d) x) ⊎ Held m b (Is (complement e) x)

  -- 8. Where entry k is SOME(r, d) and 2k is held of x, d is held of some y to which r goes from x.
  abbrev pub SomeReachedHeld : Type 0
  SomeReachedHeld =
      (k : ℕ) (r : Role) (d : Concept) (x : Individual) → row_at m.entries k ≡ Ok (SomeEntry r d) → OnSheet x → NotBlocked x
      → Held m b (Is (concept (2 * k)) x) → (y : Individual) × OnSheet y × Held m b (Joins r x y) × Held m b (Is d y)

  -- What each condition says.
  abbrev pub ConditionHolds : Condition → Type 0
  ConditionHolds NoContradiction = NoClash × NoneDifferentAndEqual
  ConditionHolds Assertions = AssertionsHeld
  ConditionHolds BothParts = BothPartsHeld
  ConditionHolds AllReached = AllReachedHeld
  ConditionHolds Inclusions = InclusionsDecided
  ConditionHolds Keys = KeysDecided
  ConditionHolds EitherPart = EitherPartHeld
  ConditionHolds SomeReached = SomeReachedHeld

-- The eight conditions.
pub record Conditions (m : Meaning) (b : Branch) : Type 0 where
  -- No concept of the lexicon and its complement are held of one individual.
  pub clash_free : NoClash m b
  -- No two individuals that are different are equal.
  pub none_different_and_equal : NoneDifferentAndEqual m b
  -- Every assertion is held.
  pub assertions_held : AssertionsHeld m b
  -- A held BOTH has both parts held.
  pub both_parts_held : BothPartsHeld m b
  -- A held ~SOME has the complement of its concept held of all that its role reaches.
  pub all_reached_held : AllReachedHeld m b
  -- Each inclusion is decided: the complement of its first concept is held, or its second.
  pub inclusions_decided : InclusionsDecided m b
  -- Each key is decided on individuals of the base that share its values.
  pub keys_decided : KeysDecided m b
  -- A held ~BOTH has the complement of a part held.
  pub either_part_held : EitherPartHeld m b
  -- A held SOME has its concept held of some individual that its role reaches.
  pub some_reached_held : SomeReachedHeld m b

-- Condition k fails, and those with lower numbers hold.
pub record LowestFailing (m : Meaning) (b : Branch) (k : Condition) : Type 0 where
  pub fails : ConditionHolds m b k → ⊥
  pub lower_hold : (j : Condition) → condition_number j < condition_number k → ConditionHolds m b j

-- Each test of review passes exactly where its condition holds, and review names the lowest that fails.
pub record ConditionsTested (m : Meaning) (b : Branch) : Type 0 where
  pub first : (condition1 m b ≡ true) ↔ (NoClash m b × NoneDifferentAndEqual m b)
  pub second : (condition2 m b ≡ true) ↔ AssertionsHeld m b
  pub third : (condition3 m b ≡ true) ↔ BothPartsHeld m b
  pub fourth : (condition4 m b ≡ true) ↔ AllReachedHeld m b
  pub fifth : (condition5 m b ≡ true) ↔ InclusionsDecided m b
  pub sixth : (condition6 m b ≡ true) ↔ KeysDecided m b
  pub seventh : (condition7 m b ≡ true) ↔ EitherPartHeld m b
  pub eighth : (condition8 m b ≡ true) ↔ SomeReachedHeld m b
  -- No condition fails exactly where all eight hold.
  pub none_failing : (lowest_failing m b ≡ None) ↔ Conditions m b
  -- Condition k is the lowest that fails exactly where it fails and those before it hold.
  pub lowest_fails : (k : Condition) → (lowest_failing m b ≡ Some k) ↔ LowestFailing m b k

-- Review is exact, for every base and branch.
abbrev pub ReviewedExactly : Type 0
ReviewedExactly = (m : Meaning) (b : Branch) → ConditionsTested m b
