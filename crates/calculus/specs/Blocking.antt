-- Blocking in words: which individuals are blocked, and what the blocker of a blocked individual is.
use Rattle.std.specs.Prelude.{◌≡◌, ℕ, ◌<◌, ◌≤◌, true, false, ◌↔◌}
use Rattle.kb.specs.declared.axioms.Assertion.TheVariants.{Is}
use Rattle.kb.specs.declared.names.Concept.{Concept}
use Rattle.kb.specs.Meanings.{Meaning}
use Rattle.calculus.specs.Branches.{Branch, held}
use Rattle.calculus.specs.Review.{individual, covers, blocked, blocker}

-- What the blocker t of an individual s is.
pub record BlockerOf (m : Meaning) (b : Branch) (s t : ℕ) : Type 0 where
  -- It is new.
  pub is_new : m.individuals ≤ t
  -- It comes before the individual that it blocks.
  pub before : t < s
  -- It holds every concept that the blocked individual holds.
  pub covering : covers m b t s ≡ true
  -- No new individual before it does.
  pub least : (u : ℕ) → m.individuals ≤ u → u < t → covers m b u s ≡ false
  -- It is not blocked itself.
  pub not_blocked : blocked m b t ≡ false

-- Blocking, for every base and branch.
pub record BlockerStands : Type 0 where
  -- An individual covers another exactly if every concept that is held of the other is held of it.
  pub covers_exactly : (m : Meaning) (b : Branch) (t s : ℕ) →
      (covers m b t s ≡ true) ↔ ((c : Concept) → held m b (Is c (individual s)) ≡ true → held m b (Is c (individual t)) ≡ true)
  -- An individual is blocked exactly if it is new and a new individual before it covers it.
  pub blocked_exactly : (m : Meaning) (b : Branch) (s : ℕ) →
      (blocked m b s ≡ true) ↔ ((m.individuals ≤ s) × (t : ℕ) × (t < s) × (m.individuals ≤ t) × (covers m b t s ≡ true))
  -- The blocker of a blocked individual is the least new individual that covers it, and is not blocked.
  pub blocker_of_blocked : (m : Meaning) (b : Branch) (s : ℕ) → blocked m b s ≡ true → BlockerOf m b s (blocker m b s)
  -- A new individual that is not blocked is its own blocker.
  pub blocker_of_unblocked : (m : Meaning) (b : Branch) (s : ℕ) → blocked m b s ≡ false → m.individuals ≤ s → blocker m b s ≡ s
