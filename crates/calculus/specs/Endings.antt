-- How a run ends: with a verdict, after which there is no call. And how many steps it has accepted.
use Rattle.std.specs.Prelude.{◌≡◌, ℕ, ◌+◌, Ok, Err, Result}
use Rattle.kb.specs.Meanings.{Meaning}
use Rattle.calculus.specs.declared.fault.StepFault.{StepFault}
use Rattle.calculus.specs.declared.review.Finding.{Finding}
use Rattle.calculus.specs.declared.review.ReviewFault.{ReviewFault}
use Rattle.calculus.specs.Playing.{Played, play}
use Rattle.calculus.specs.Review.{review}
use Rattle.calculus.specs.Runs.{Run}
use Rattle.calculus.specs.Runs.Run.{start, step}
use Rattle.calculus.specs.States.{State}

-- How many steps a run has accepted: one more exactly where the step that is played is accepted.
abbrev pub one_if_accepted : Result Played StepFault → ℕ
one_if_accepted (Ok p) = 1
one_if_accepted (Err f) = 0

unfoldable pub accepted_steps : {m : Meaning} {s : State} → Run m s → ℕ
accepted_steps (start l e) = 0
accepted_steps {m = m} (step {s = s} run scratch t) = accepted_steps run + one_if_accepted (play m scratch t s)

-- What an ending tells: review's answer, and the steps accepted since opening.
pub record Ending : Type 0 where
  pub finding : Result Finding ReviewFault
  pub steps : ℕ

-- The ending of a sheet, with a scratch of a given length.
abbrev pub ending : Meaning → ℕ → State → Ending
ending m scratch s = record { finding = review m scratch s; steps = s.numbers.steps }

-- A run that has ended, on a sheet and with what its ending told. An ending comes last: nothing goes on from here.
pub data Ended (m : Meaning) : State → Ending → Type 0 where
  end : {s : State} → Run m s → (scratch : ℕ) → Ended m s (ending m scratch s)

-- The run before its ending, and the scratch that the ending was given.
abbrev pub run_of : {m : Meaning} {s : State} {told : Ending} → Ended m s told → Run m s
run_of (end run scratch) = run

abbrev pub scratch_of : {m : Meaning} {s : State} {told : Ending} → Ended m s told → ℕ
scratch_of (end run scratch) = scratch

-- Along a run the sheet's number of steps is the number of steps accepted since opening, and an ending tells that number.
pub record StepsAreCounted : Type 0 where
  pub along : (m : Meaning) (s : State) (run : Run m s) → s.numbers.steps ≡ accepted_steps run
  pub told : (m : Meaning) (s : State) (told : Ending) (ended : Ended m s told) → told.steps ≡ accepted_steps (run_of ended)
