-- What holds of a whole run: of every review in it, and of its ending.
use Rattle.std.specs.Prelude.{◌≡◌, ℕ, List, take, Some, Ok, Option, Result}
use Rattle.rows.specs.Rows.{row_at}
use Rattle.kb.specs.Meanings.{Meaning}
use Rattle.calculus.specs.declared.review.Finding.{Finding}
use Rattle.calculus.specs.declared.review.ReviewFault.{ReviewFault}
use Rattle.calculus.specs.Endings.{Ending}
use Rattle.calculus.specs.Runs.{Run}
use Rattle.calculus.specs.States.{State}
use Rattle.theorem.specs.Answers.{AnswerHolds, EndingHolds}
use Rattle.runs.specs.declared.call.Answer.{Answer}
use Rattle.runs.specs.declared.call.Answer.TheVariants.{Review as ReviewAnswer}
use Rattle.runs.specs.declared.call.Call.{Call}
use Rattle.runs.specs.Calls.{after_calls}

-- Calls made over a base on a sheet that was opened as s, each with a scratch of a given length; their answers; and what an
-- ending told, if there was one.
pub record RunHolds (m : Meaning) (scratch : ℕ) (s : State) (calls : List Call) (answers : List Answer) (told : Option Ending) : Type 0 where
  -- The first n calls make a run.
  pub runs : (n : ℕ) → Run m (after_calls m scratch (take n calls) s)
  -- Every review among the answers holds of the sheet that the calls before it left.
  pub reviews :
      (n : ℕ) (r : Result Finding ReviewFault) → row_at answers n ≡ Ok (ReviewAnswer r)
      → AnswerHolds m scratch (after_calls m scratch (take n calls) s) r
  -- The ending holds of the sheet that all calls left.
  pub ending : (e : Ending) → told ≡ Some e → (run : Run m (after_calls m scratch calls s)) → EndingHolds run scratch e
