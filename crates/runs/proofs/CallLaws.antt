-- Calls make a run, and what they answer holds.
use Rattle.std.proofs.Common.{◌≡◌, ℕ, zero, suc, List, [], ◌∷◌, take, Some, Ok, Option, Result, arith}
use Rattle.rows.specs.Rows.{row_at}
use Rattle.kb.specs.Meanings.{Meaning}
use Rattle.calculus.specs.declared.review.Finding.{Finding}
use Rattle.calculus.specs.declared.review.ReviewFault.{ReviewFault}
use Rattle.calculus.specs.Endings.{Ending, ending}
use Rattle.calculus.specs.Review.{review}
use Rattle.calculus.specs.Runs.{Run}
use Rattle.calculus.specs.Runs.Run.{step}
use Rattle.calculus.specs.States.{State}
use Rattle.theorem.proofs.AnswerLaws.{answer_holds, ending_holds}
use Rattle.runs.specs.declared.call.Answer.TheVariants.{Review as ReviewAnswer}
use Rattle.runs.specs.declared.call.Call.{Call}
use Rattle.runs.specs.declared.call.Call.TheVariants.{Step as StepCall, Review as ReviewCall}
use Rattle.runs.specs.Calls.{after_call, after_calls, answers_of}
use Rattle.runs.specs.Holding.{RunHolds}

module _ (m : Meaning) (scratch : ℕ) where
  call_runs : (c : Call) (s : State) → Run m s → Run m (after_call m scratch c s)
  call_runs (StepCall t) s run = step run scratch t
  call_runs ReviewCall s run = run

  calls_run : (cs : List Call) (s : State) → Run m s → Run m (after_calls m scratch cs s)
  calls_run [] s run = run
  calls_run (c ∷ cs) s run = calls_run cs (after_call m scratch c s) (call_runs c s run)

  -- a review among the answers is the calculus' review of the sheet that the calls before it left
  review-answered :
      (cs : List Call) (s : State) (n : ℕ) (r : Result Finding ReviewFault) → row_at (answers_of m scratch cs s) n ≡ Ok (ReviewAnswer r)
      → r ≡ review m scratch (after_calls m scratch (take n cs) s)
  review-answered [] s n r e = let z : ◌≡◌ {A = ℕ} 0 1 = cc in absurd (omega arith)
  review-answered (StepCall t ∷ cs) s zero r e = let z : ◌≡◌ {A = ℕ} 0 1 = cc in absurd (omega arith)
  review-answered (ReviewCall ∷ cs) s zero r e = cc
  review-answered (c ∷ cs) s (suc n) r e = review-answered cs (after_call m scratch c s) n r e

  pub run_holds :
      (s : State) (calls : List Call) (told : Option Ending) → Run m s
      → ((e : Ending) → told ≡ Some e → e ≡ ending m scratch (after_calls m scratch calls s))
      → RunHolds m scratch s calls (answers_of m scratch calls s) told
  run_holds s calls told run ends =
      record {
        runs = λ n. calls_run (take n calls) s run;
        reviews = λ n r e.
            let t = after_calls m scratch (take n calls) s in
            answer_holds m t (calls_run (take n calls) s run) scratch r (review-answered calls s n r e);
        ending = λ e q last.
            let t = after_calls m scratch calls s in
            ending_holds m t last scratch e (ends e q);
      }
