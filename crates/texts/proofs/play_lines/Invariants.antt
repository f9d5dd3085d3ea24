use Rattle.std.proofs.Common.{◌-◌, length}
use Rattle.ledgers.specs.Contents.{ledgers_of}
use Rattle.sheet.specs.States.{state_of}
use Rattle.texts.specs.Playing.{play_lines}
use Rattle.texts.proofs.LoopLaws.{Going}
use Rattle.texts.proofs.play_lines.Given as goal

abbrev pub invariant-loop-from : goal.invariant-loop-from
invariant-loop-from g l =
    let m = g.B.Base.meaning l.base in
    Going m (length l.fn.scratch) l.text l.line l.from (state_of l.sheet (ledgers_of l.ledgers))
    (play_lines m (length l.fn.scratch) l.text (length l.text) 0 0 (state_of l.fn.sheet (ledgers_of l.fn.ledgers)))

abbrev pub decreases-loop-from : goal.decreases-loop-from
decreases-loop-from g l = length l.text - l.from
