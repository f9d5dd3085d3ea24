-- What holds along every run: the base was accepted, and steps are counted.
use Rattle.std.proofs.Common.{◌≡◌, ℕ, ◌+◌, true, ◌&&◌, Ok, Err, Result, sym, refl, ap, ◌∙◌, arith}
use Rattle.std.proofs.lemmas.Bool.{and_parts, cond-true}
use Rattle.kb.specs.declared.fault.BaseFault.TheVariants.{Size}
use Rattle.kb.specs.Check.{InRange, checked_base, checked_rows, sizes_accepted}
use Rattle.kb.specs.Meanings.{Meaning, counts_of}
use Rattle.kb.proofs.CheckLaws.{checked_means}
use Rattle.calculus.specs.declared.fault.StepFault.{StepFault}
use Rattle.calculus.specs.declared.step.Step.{Step}
use Rattle.calculus.specs.Endings.{Ended, Ending, StepsAreCounted, accepted_steps, end, one_if_accepted, run_of}
use Rattle.calculus.specs.Playing.{Played, left, opened, play}
use Rattle.calculus.specs.Runs.{Run, lengths_accepted, opening, start, step}
use Rattle.calculus.specs.States.{Ledgers, State, sizes_of}
use Rattle.calculus.specs.Table.{and_then}
use Rattle.calculus.proofs.AcceptedLaws.{step-law}
use Rattle.calculus.proofs.Accepting.{Ok_injective, and_then_Ok, cond_Ok}
use Rattle.calculus.proofs.HeldLaws.{held_stays}

-- What an accepted opening says of the base and the sheet.
pub record Opened (m : Meaning) (l : Ledgers) (s : State) : Type 0 where
  pub sizes : sizes_accepted (counts_of m) ≡ true
  pub range : InRange m
  pub sheet : opened m l ≡ s

pub opening_Ok : (m : Meaning) (l : Ledgers) (s : State) → opening m l ≡ Ok s → Opened m l s
opening_Ok m l s e =
    let sizes = sizes_accepted (counts_of m) && lengths_accepted (sizes_of l) in
    let opens = and_then (checked_rows (counts_of m) m) (λ _. Ok (opened m l)) in
    let q = cond_Ok sizes opens Size s e in
    let p = and_parts (sizes_accepted (counts_of m)) (lengths_accepted (sizes_of l)) q.0 in
    let u = and_then_Ok (checked_rows (counts_of m) m) (λ _. Ok (opened m l)) s q.1 in
    let checked : checked_base m ≡ Ok u.0 = cond-true (sizes_accepted (counts_of m)) (checked_rows (counts_of m) m) (Err Size) p.0 ∙ u.1 in
    record { sizes = p.0; range = ((checked_means m (checked_base m) refl).accepts u.0 checked).2; sheet = Ok_injective u.2 }

-- a run begins with an accepted opening
run_opened : (m : Meaning) (s : State) → Run m s → (l : Ledgers) × (first : State) × Opened m l first
run_opened m s (start l e) = (l, s, opening_Ok m l s e)
run_opened m s (step {s = before} run scratch t) = run_opened m before run

-- so its base is in range, and has sizes that are accepted
pub run_in_range : (m : Meaning) (s : State) → Run m s → InRange m
run_in_range m s run = (run_opened m s run).2.range

pub run_sizes : (m : Meaning) (s : State) → Run m s → sizes_accepted (counts_of m) ≡ true
run_sizes m s run = (run_opened m s run).2.sizes

-- a step that is accepted is counted, and one that is refused is not
left-counted :
    (m : Meaning) (scratch : ℕ) (t : Step) (s : State) (r : Result Played StepFault) → play m scratch t s ≡ r
    → (left s r).numbers.steps ≡ s.numbers.steps + one_if_accepted r
left-counted m scratch t s (Ok p) e = ((step-law m scratch t s held_stays).accepted.counted p e).steps
left-counted m scratch t s (Err f) e = omega arith

pub run_counted : (m : Meaning) (s : State) (run : Run m s) → s.numbers.steps ≡ accepted_steps run
unfolding accepted_steps
run_counted m s (start l e) = ap (λ (x : State). x.numbers.steps) (sym (opening_Ok m l s e).sheet)
run_counted m s (step {s = before} run scratch t) =
    left-counted m scratch t before (play m scratch t before) refl
    ∙ ap (λ n. n + one_if_accepted (play m scratch t before)) (run_counted m before run)

ended_counted : (m : Meaning) (s : State) (told : Ending) (ended : Ended m s told) → told.steps ≡ accepted_steps (run_of ended)
ended_counted m s told (end run scratch) = run_counted m s run

pub steps_are_counted : StepsAreCounted
steps_are_counted = record { along = run_counted; told = ended_counted }
