-- On a run, an answer that is review's holds, and so does an ending that is the calculus'.
use Rattle.std.proofs.Common.{◌≡◌, ℕ, ap, ◌∙◌, sym, Result}
use Rattle.kb.specs.Meanings.{Meaning}
use Rattle.calculus.specs.declared.review.Finding.{Finding}
use Rattle.calculus.specs.declared.review.ReviewFault.{ReviewFault}
use Rattle.calculus.specs.Endings.{Ending, ending}
use Rattle.calculus.specs.Review.{review}
use Rattle.calculus.specs.Runs.{Run}
use Rattle.calculus.specs.States.{State}
use Rattle.calculus.proofs.RunLaws.{run_counted}
use Rattle.theorem.specs.Answers.{AnswerHolds, EndingHolds}
use Rattle.theorem.proofs.MainLaws.{main_theorem}

module _ (m : Meaning) (s : State) (run : Run m s) (scratch : ℕ) where
  pub answer_holds : (answer : Result Finding ReviewFault) → answer ≡ review m scratch s → AnswerHolds m scratch s answer
  answer_holds answer e =
      let found = main_theorem m s run scratch in
      record { reviewed = e; exactly = found.0; holds = λ f h. found.1 f (sym e ∙ h) }

  pub ending_holds : (told : Ending) → told ≡ ending m scratch s → EndingHolds run scratch told
  ending_holds told e =
      record {
        finding = answer_holds told.finding (ap (λ (t : Ending). t.finding) e);
        steps = ap (λ (t : Ending). t.steps) e ∙ run_counted m s run;
      }
