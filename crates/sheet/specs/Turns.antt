-- What an allowed step does, and what it leaves.
use Rattle.std.specs.Prelude.{◌≡◌, true, cond, Ok, Err, Result, OnErr, nat_lt}
use Rattle.calculus.specs.declared.fault.StepFault.{StepFault}
use Rattle.calculus.specs.declared.fault.StepFault.TheVariants.{Full}
use Rattle.calculus.specs.Playing.{Played, accepted}
use Rattle.calculus.specs.States.{Ledgers, State}
use Rattle.sheet.specs.declared.turns.Done.{Done}
use Rattle.sheet.specs.declared.turns.Turn.{Turn}
use Rattle.sheet.specs.declared.turns.Turn.TheVariants.{Extends, TakesUp, Closes}
use Rattle.sheet.specs.Writing.{extend_to, take_up_by}

-- A step that is known to do this: it is accepted, or refused for want of a place.
abbrev pub turn_by : State → Turn → Result Played StepFault
turn_by s (Extends after split new) = extend_to s after split new
turn_by s (TakesUp side) = take_up_by s side.row side.is_held
turn_by s Closes = Ok (accepted s.numbers s.numbers.individuals true (record { ledgers = s.ledgers; rows = 0 }))

-- A rule that was looked up: refused, or played unless 1,000,000 steps were made.
abbrev pub performed : State → Result Turn StepFault → Result Played StepFault
performed s (Ok t) = cond (nat_lt s.numbers.steps 1000000) (turn_by s t) (Err Full)
performed s (Err f) = Err f

-- What is accepted of a step that left ledgers l, or its refusal.
abbrev pub done_as : State → Result Done StepFault → Ledgers → Result Played StepFault
done_as s (Ok d) l = Ok (accepted s.numbers d.individuals d.closed (record { ledgers = l; rows = d.rows }))
done_as s (Err f) l = Err f

-- The ledgers of a state s are carried over to l by a step that the calculus says is p: a refusal leaves them as they were.
pub record Carried (p : Result Played StepFault) (s : State) (r : Result Done StepFault) (l : Ledgers) : Type 0 where
  pub value : done_as s r l ≡ p
  pub refused : OnErr r (l ≡ s.ledgers)
