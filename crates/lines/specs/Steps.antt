-- Steps apart from where what they borrow lies.
use Rattle.std.specs.Prelude.{List}
use Rattle.std.specs.Borrow.{Bor}
use Rattle.kb.specs.declared.names.Individual.{Individual}
use Rattle.calculus.specs.declared.step.Step.{Step}
use Rattle.calculus.specs.declared.step.Step.TheVariants.{Take, Both, All, Some as SomeStep, Include, Key, Either, Cut, Clash, Apart}
use Rattle.lines.specs.declared.line.Line.{Line}
use Rattle.lines.specs.declared.line.Line.TheVariants as line

-- A lent list of individuals, lying nowhere in particular.
abbrev pub lent : List Individual → Bor (List Individual)
lent xs = record { ref_ptr = (0, 0); now = xs }

-- The same step, whose shared values lie nowhere in particular. Two steps that name the same are then equal.
abbrev pub unplaced : Step → Step
unplaced (Take n) = Take n
unplaced (Both c x) = Both c x
unplaced (All c x y) = All c x y
unplaced (SomeStep c x) = SomeStep c x
unplaced (Include n x) = Include n x
unplaced (Key n x y zs) = Key n x y (lent zs.now)
unplaced (Either c x) = Either c x
unplaced (Cut c x) = Cut c x
unplaced (Clash c x) = Clash c x
unplaced (Apart x y) = Apart x y

-- The step of a line.
abbrev pub line_step : Line → Step
line_step (line.Take n) = Take n
line_step (line.Both c x) = Both c x
line_step (line.All c x y) = All c x y
line_step (line.Some c x) = SomeStep c x
line_step (line.Include n x) = Include n x
line_step (line.Key n x y zs) = Key n x y (lent zs.items)
line_step (line.Either c x) = Either c x
line_step (line.Cut c x) = Cut c x
line_step (line.Clash c x) = Clash c x
line_step (line.Apart x y) = Apart x y
