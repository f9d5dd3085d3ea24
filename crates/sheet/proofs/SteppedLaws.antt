-- What a call answered and left, by equal definitions, and as a step of a run.
use Rattle.std.proofs.Common.{◌≡◌, ℕ, Ok, Result, sym, ap, ◌∙◌, subst}
use Rattle.kb.specs.Meanings.{Meaning}
use Rattle.calculus.specs.declared.fault.StepFault.{StepFault}
use Rattle.calculus.specs.declared.step.Step.{Step}
use Rattle.calculus.specs.Playing.{Played, accepted, answer, left, perform, play, ready}
use Rattle.calculus.specs.Runs.{Run}
use Rattle.calculus.specs.Runs.Run.{step}
use Rattle.calculus.specs.States.{Ledgers, State}
use Rattle.calculus.specs.Table.{Rule, rule}
use Rattle.sheet.specs.States.{StepPlayed, Stepped}
use Rattle.sheet.specs.Turns.{Carried}
use Rattle.sheet.specs.declared.turns.Done.{Done}

pub stepped_as : {p q : Result Played StepFault} {s t : State} {r : Result ℕ StepFault} → p ≡ q → Stepped p s r t → Stepped q s r t
stepped_as {s = s} {t = t} {r = r} e = subst (λ p. Stepped p s r t) e

pub stepped_done :
    {p : Result Played StepFault} {s : State} {d : Done} {l : Ledgers} {t : State}
    → Carried p s (Ok d) l → t ≡ (accepted s.numbers d.individuals d.closed (record { ledgers = l; rows = d.rows })).state → Stepped p s (Ok d.rows) t
stepped_done {s = s} c e = record { value = ap answer c.value; state = e ∙ ap (left s) c.value }

module _ (m : Meaning) (scratch : ℕ) (t : Step) (s : State) where
  pub play_performs : (q : Rule) → ready m scratch s ≡ Ok tt → rule m s.numbers.individuals t ≡ Ok q → play m scratch t s ≡ perform m s q
  play_performs q ready_ok line = rw (ready_ok, line)

  pub stepped-played : {r : Result ℕ StepFault} {s' : State} → Stepped (play m scratch t s) s r s' → StepPlayed m scratch t s r s'
  stepped-played done = record { stepped = done; goes_on = λ run. subst (Run m) (sym done.state) (step run scratch t) }
