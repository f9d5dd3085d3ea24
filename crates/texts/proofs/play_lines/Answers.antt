use Rattle.std.proofs.Common.{length, Ok, Err, subst}
use Rattle.ledgers.specs.Contents.{ledgers_of}
use Rattle.sheet.specs.States.{state_of}
use Rattle.texts.specs.Playing.{LineDone, play_line, play_lines}
use Rattle.texts.proofs.LoopLaws.{going_on, going-over, going-refused}
use Rattle.texts.proofs.play_lines.Goals as goal

pub returns-in-Err : goal.returns-in-Err
returns-in-Err g c =
    let m = g.B.Base.meaning c.args.base.now in
    let text = c.args.text.now in
    let k = length c.args.scratch.now in
    let s = state_of c.loop-from.sheet (ledgers_of c.loop-from.ledgers) in
    let t = state_of c.play_line.new.sheet (ledgers_of c.play_line.new.ledgers) in
    let whole = play_lines m k text (length text) 0 0 (state_of c.args.sheet.now (ledgers_of c.args.ledgers.now)) in
    going-refused m k text c.loop-from.line c.loop-from.from s whole c.loop-from.invariant c.loop-from-test.true c.in-Err.fault t
    (subst (λ k. LineDone (play_line m k text c.loop-from.from s) s (Err c.in-Err.fault) t) c.loop-from.auto.scratch c.in-Err.ensures.done)

pub loop-from-preserved : goal.loop-from-preserved
loop-from-preserved g c =
    let m = g.B.Base.meaning c.args.base.now in
    let text = c.args.text.now in
    let k = length c.args.scratch.now in
    let s = state_of c.loop-from.sheet (ledgers_of c.loop-from.ledgers) in
    let t = state_of c.play_line.new.sheet (ledgers_of c.play_line.new.ledgers) in
    let whole = play_lines m k text (length text) 0 0 (state_of c.args.sheet.now (ledgers_of c.args.ledgers.now)) in
    going_on m k text c.loop-from.line c.loop-from.from s whole c.loop-from.invariant c.loop-from-test.true c.in-Ok.end t
    (subst (λ k. LineDone (play_line m k text c.loop-from.from s) s (Ok c.in-Ok.end) t) c.loop-from.auto.scratch c.in-Ok.ensures.done)
    c.in-Ok.ensures.further

pub returns : goal.returns
returns g c =
    let m = g.B.Base.meaning c.args.base.now in
    let text = c.args.text.now in
    let k = length c.args.scratch.now in
    let whole = play_lines m k text (length text) 0 0 (state_of c.args.sheet.now (ledgers_of c.args.ledgers.now)) in
    going-over m k text c.loop-from.line c.loop-from.from (state_of c.loop-from.sheet (ledgers_of c.loop-from.ledgers)) whole
    c.loop-from.invariant c.loop-from-test.false
