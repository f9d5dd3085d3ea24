-- What holds of an answer of review, and of what an ending tells.
use Rattle.std.specs.Prelude.{◌≡◌, ℕ, Ok, Result}
use Rattle.kb.specs.Meanings.{Meaning}
use Rattle.calculus.specs.declared.review.Finding.{Finding}
use Rattle.calculus.specs.declared.review.ReviewFault.{ReviewFault}
use Rattle.calculus.specs.Endings.{Ending, accepted_steps}
use Rattle.calculus.specs.Review.{review}
use Rattle.calculus.specs.Runs.{Run}
use Rattle.calculus.specs.States.{State}
use Rattle.theorem.specs.MainTheorem.{FindingHolds, FoundExactly}

-- An answer holds of a sheet: it is review's, which is closed or open exactly where it should be, and whatever it finds holds.
pub record AnswerHolds (m : Meaning) (scratch : ℕ) (s : State) (answer : Result Finding ReviewFault) : Type 0 where
  pub reviewed : answer ≡ review m scratch s
  pub exactly : FoundExactly m scratch s
  pub holds : (f : Finding) → answer ≡ Ok f → FindingHolds m s f

-- An ending holds if the finding that it tells does, and it tells the number of steps that its run accepted.
pub record EndingHolds {m : Meaning} {s : State} (run : Run m s) (scratch : ℕ) (told : Ending) : Type 0 where
  pub finding : AnswerHolds m scratch s told.finding
  pub steps : told.steps ≡ accepted_steps run
