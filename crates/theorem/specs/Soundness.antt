-- What a closed sheet says of its base.
use Rattle.std.specs.Prelude.{◌≡◌, true}
use Rattle.kb.specs.Meanings.{Meaning}
use Rattle.calculus.specs.Runs.{Run}
use Rattle.calculus.specs.States.{State}
use Rattle.theorem.specs.Asking.{Unsatisfiable}

-- A closed sheet that is reached by a run means that no interpretation, finite or endless, satisfies the base.
abbrev pub ClosedIsSound : Type 0
ClosedIsSound = (m : Meaning) (s : State) → Run m s → s.numbers.closed ≡ true → Unsatisfiable m
