-- What is found at the first failure is what review finds, and on a run it holds.
use Rattle.std.proofs.Common.{◌≡◌, ℕ, ◌<◌, ◌≤◌, true, false, leb, Ok, Err, Option, Result, sym, ap, ◌∙◌}
use Rattle.std.proofs.lemmas.Bool.{le-leb, lt-leb}
use Rattle.std.specs.Option.{option_map}
use Rattle.kb.specs.Meanings.{Meaning}
use Rattle.calculus.specs.declared.review.Finding.{Finding}
use Rattle.calculus.specs.declared.review.Finding.TheVariants.{Closed}
use Rattle.calculus.specs.declared.review.ReviewFault.{ReviewFault}
use Rattle.calculus.specs.declared.review.ReviewFault.TheVariants.{Changed, Full}
use Rattle.calculus.specs.Branches.{Branch}
use Rattle.calculus.specs.Review.{found, lowest_failing, review}
use Rattle.calculus.specs.States.{State, branch, branch_of, fits}
use Rattle.failures.specs.declared.failure.Failure.{Failure}
use Rattle.failures.specs.Failures.{condition_of, first_failure}
use Rattle.failures.proofs.FailureLaws.{first_of_lowest}
use Rattle.sheet.specs.Writing.{rows_shown}
use Rattle.sheet.proofs.FitLaws.{fit-shown}
use Rattle.theorem.proofs.AnswerLaws.{answer_holds}
use Rattle.review.specs.Verdicts.{Reviewed}

-- the first failure on the branch that is shown, or none, tells what review finds
pub found_first :
    (m shows : Meaning) (b shown : Branch) (first : Option Failure) → shows ≡ m → shown ≡ b → first ≡ first_failure shows shown
    → found (option_map condition_of first) ≡ found (lowest_failing m b)
found_first m shows b shown first over same e =
    ap (λ (o : Option Failure). found (option_map condition_of o)) (e ∙ ap (λ (k : Meaning). first_failure k shown) over ∙ ap (first_failure m) same) ∙ ap found (first_of_lowest m b)

module _ (m : Meaning) (scratch : ℕ) (s : State) where
  -- an answer that is the calculus' holds on a run
  reviewed_as : (r : Result Finding ReviewFault) → r ≡ review m scratch s → Reviewed m scratch s r s
  reviewed_as r e =
      record {
        value = e;
        holds = λ run. answer_holds m s run scratch r e;
        goes_on = λ run. run;
      }

  -- a base or ledgers that are not the sheet's are told before all else
  pub reviewed-changed : false ≡ fits m s → Reviewed m scratch s (Err Changed) s
  reviewed-changed other = reviewed_as (Err Changed) (rw (← other))

  -- a scratch that is too short is told before it is asked whether the sheet is closed
  pub reviewed-full : true ≡ fits m s → scratch < 1024 → Reviewed m scratch s (Err Full) s
  reviewed-full own l = let short : leb 1024 scratch ≡ false = lt-leb 1024 scratch l in reviewed_as (Err Full) (rw (← own, short))

  -- a closed sheet of its own base and ledgers is told as closed
  pub reviewed-closed : true ≡ fits m s → 1024 ≤ scratch → true ≡ s.numbers.closed → Reviewed m scratch s (Ok Closed) s
  reviewed-closed own l closed =
      let long : leb 1024 scratch ≡ true = le-leb 1024 scratch l in reviewed_as (Ok Closed) (rw (← own, long, ← closed))

  -- a sheet of its own base and ledgers that is not closed is found by its conditions
  pub reviewed-found :
      (r : Result Finding ReviewFault) (n : ℕ) → true ≡ fits m s → 1024 ≤ scratch → false ≡ s.numbers.closed → n ≡ s.numbers.individuals
      → s.numbers.individuals ≤ 1024 → r ≡ found (lowest_failing m (rows_shown n s.ledgers)) → Reviewed m scratch s r s
  reviewed-found r n own l unclosed is few e =
      let long : leb 1024 scratch ≡ true = le-leb 1024 scratch l in
      let shown : rows_shown n s.ledgers ≡ branch s = fit-shown m s (sym own) n is few ∙ ap (branch_of s.ledgers) is in
      reviewed_as r (rw (← own, long, ← unclosed) (e ∙ ap (λ b. found (lowest_failing m b)) shown))
