-- A list of calls on a sheet: what each answers, and which sheet they leave.
use Rattle.std.specs.Prelude.{ℕ, List, [], ◌∷◌}
use Rattle.kb.specs.Meanings.{Meaning}
use Rattle.calculus.specs.Playing.{answer, left, play}
use Rattle.calculus.specs.Review.{review}
use Rattle.calculus.specs.States.{State}
use Rattle.runs.specs.declared.call.Answer.{Answer}
use Rattle.runs.specs.declared.call.Answer.TheVariants.{Step as StepAnswer, Review as ReviewAnswer}
use Rattle.runs.specs.declared.call.Call.{Call}
use Rattle.runs.specs.declared.call.Call.TheVariants.{Step as StepCall, Review as ReviewCall}

module _ (m : Meaning) (scratch : ℕ) where
  -- One call: a step that is refused, and a review, leave the sheet as it is.
  abbrev pub answer_of : Call → State → Answer
  answer_of (StepCall t) s = StepAnswer (answer (play m scratch t s))
  answer_of ReviewCall s = ReviewAnswer (review m scratch s)

  abbrev pub after_call : Call → State → State
  after_call (StepCall t) s = left s (play m scratch t s)
  after_call ReviewCall s = s

  -- Calls one after the other.
  abbrev pub answers_of : List Call → State → List Answer
  answers_of [] s = []
  answers_of (c ∷ cs) s = answer_of c s ∷ answers_of cs (after_call c s)

  abbrev pub after_calls : List Call → State → State
  after_calls [] s = s
  after_calls (c ∷ cs) s = after_calls cs (after_call c s)
