-- What review promises.
use Rattle.std.specs.Prelude.{◌≡◌, ℕ, Result}
use Rattle.kb.specs.Meanings.{Meaning}
use Rattle.calculus.specs.declared.review.Finding.{Finding}
use Rattle.calculus.specs.declared.review.ReviewFault.{ReviewFault}
use Rattle.calculus.specs.Review.{review}
use Rattle.calculus.specs.Runs.{Run}
use Rattle.calculus.specs.States.{State}
use Rattle.theorem.specs.Answers.{AnswerHolds}

-- A review of a sheet s over a base, with a scratch of a given length: its answer r is the calculus', and where the sheet comes
-- from a run the answer holds of every interpretation, and the run goes on.
pub record Reviewed (m : Meaning) (scratch : ℕ) (s : State) (r : Result Finding ReviewFault) (t : State) : Type 0 where
  pub value : r ≡ review m scratch s
  pub holds : Run m s → AnswerHolds m scratch s r
  pub goes_on : Run m s → Run m t
