-- The main theorem: what review says of a sheet, when it says so, and what that means of the base.
use Rattle.std.specs.Prelude.{◌≡◌, ℕ, ◌≤◌, true, false, ◌↔◌, Ok}
use Rattle.kb.specs.declared.statement.Statement.{Statement}
use Rattle.kb.specs.Check.{InRange}
use Rattle.kb.specs.Interpretations.{Interpretation, Lawful, Satisfies, SatisfiesStatement}
use Rattle.kb.specs.Meanings.{Meaning}
use Rattle.kb.specs.Questions.{asking}
use Rattle.calculus.specs.declared.review.Finding.{Finding}
use Rattle.calculus.specs.declared.review.Finding.TheVariants.{Closed, Open}
use Rattle.calculus.specs.Conditions.{Conditions}
use Rattle.calculus.specs.Review.{review}
use Rattle.calculus.specs.Runs.{Run}
use Rattle.calculus.specs.States.{State, branch, fits}
use Rattle.calculus.specs.Walks.{walks}
use Rattle.theorem.specs.Asking.{Entails, Unsatisfiable}

-- An interpretation of a base satisfies it.
abbrev pub Models : Interpretation → Meaning → Type 0
Models I m = Lawful I m.entries × Satisfies I m

-- What a finding says of the base of a sheet. Closed: no interpretation satisfies it. Open: the sheet's walks are an
-- interpretation that does.
abbrev pub SaysOfBase : Meaning → State → Finding → Type 0
SaysOfBase m s Closed = Unsatisfiable m
SaysOfBase m s Open = Models (walks m (branch s)) m

-- What it says of a statement that was asked of a base below. Closed: every interpretation that satisfies the base below
-- satisfies the statement. Open: the sheet's walks satisfy the base below and break the statement.
abbrev pub SaysOfStatement : Meaning → Statement → Meaning → State → Finding → Type 0
SaysOfStatement lower st m s Closed = Entails lower st
SaysOfStatement lower st m s Open = Models (walks m (branch s)) lower × (SatisfiesStatement (walks m (branch s)) st → ⊥)

-- A finding holds of a sheet over a base, and, where the base asks a statement of a base below whose every row is in range
-- by its own numbers, of that statement. The base below may have no individuals.
pub record FindingHolds (m : Meaning) (s : State) (f : Finding) : Type 0 where
  pub of_base : SaysOfBase m s f
  pub of_statement : (lower : Meaning) (st : Statement) → InRange lower → m ≡ asking lower st → SaysOfStatement lower st m s f

-- When review finds closed and when it finds open, in words: the scratch suffices, and the sheet is closed; or it is not,
-- and the eight conditions hold. Base and ledgers are the sheet's, so that nothing is refused with 5.
pub record FoundExactly (m : Meaning) (scratch : ℕ) (s : State) : Type 0 where
  pub own : fits m s ≡ true
  pub closed : (review m scratch s ≡ Ok Closed) ↔ ((1024 ≤ scratch) × (s.numbers.closed ≡ true))
  pub open_sheet : (review m scratch s ≡ Ok Open) ↔ ((1024 ≤ scratch) × (s.numbers.closed ≡ false) × Conditions m (branch s))

-- Over every base and on every sheet that is reached by a run, review finds closed or open exactly where it should, and
-- whatever it finds holds.
abbrev pub MainTheorem : Type 0
MainTheorem =
    (m : Meaning) (s : State) → Run m s → (scratch : ℕ)
    → FoundExactly m scratch s × ((f : Finding) → review m scratch s ≡ Ok f → FindingHolds m s f)
