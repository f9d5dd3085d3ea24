-- A sheet and its ledgers as a state of the calculus, and what the calls on a sheet promise.
use Rattle.std.specs.Prelude.{◌≡◌, ℕ, Ok, Err, Result}
use Rattle.kb.specs.declared.fault.BaseFault.{BaseFault}
use Rattle.kb.specs.Meanings.{Meaning}
use Rattle.calculus.specs.declared.fault.StepFault.{StepFault}
use Rattle.calculus.specs.declared.step.Step.{Step}
use Rattle.calculus.specs.Playing.{Played, answer, left, play}
use Rattle.calculus.specs.Runs.{Run, opening}
use Rattle.calculus.specs.States.{Ledgers, Numbers, State}
use Rattle.sheet.specs.declared.state.Sheet.{Sheet}

-- What a sheet remembers.
abbrev pub numbers_of : Sheet → Numbers
numbers_of s =
    record { base = s.base; sizes = s.sizes; rows = s.rows; individuals = s.individuals; steps = s.steps; closed = s.closed }

-- A sheet with what its ledgers hold.
abbrev pub state_of : Sheet → Ledgers → State
state_of s l = record { ledgers = l; numbers = numbers_of s }

-- An opened sheet with what its ledgers hold, or the refusal.
abbrev pub opened_as : Result Sheet BaseFault → Ledgers → Result State BaseFault
opened_as (Ok s) l = Ok (state_of s l)
opened_as (Err f) l = Err f

-- What opening over a base makes of ledgers that hold l: the sheet and the ledgers l' that it leaves are the calculus'
-- opening; a refusal leaves the ledgers as they were; and a run begins.
pub record Opened (m : Meaning) (l : Ledgers) (r : Result Sheet BaseFault) (l' : Ledgers) : Type 0 where
  pub value : opened_as r l' ≡ opening m l
  pub refused : (f : BaseFault) → r ≡ Err f → l' ≡ l
  pub begins : (s : Sheet) → r ≡ Ok s → Run m (state_of s l')

-- What playing a step makes of a state s: p is what the calculus says, r the answer, and t the state that is left.
pub record Stepped (p : Result Played StepFault) (s : State) (r : Result ℕ StepFault) (t : State) : Type 0 where
  pub value : r ≡ answer p
  pub state : t ≡ left s p

-- The same for the public call, over a base and with a scratch of a given length; and a run goes on.
pub record StepPlayed (m : Meaning) (scratch : ℕ) (step : Step) (s : State) (r : Result ℕ StepFault) (t : State) : Type 0 where
  pub stepped : Stepped (play m scratch step s) s r t
  pub goes_on : Run m s → Run m t
