use Rattle.std.proofs.Common.{length, Ok}
use Rattle.std.proofs.lemmas.Result.{err_from_is_err_and}
use Rattle.ledgers.specs.Contents.{ledgers_of}
use Rattle.lines.specs.Reading.{seen_line}
use Rattle.sheet.specs.States.{state_of}
use Rattle.texts.proofs.LineLaws.{line-done}
use Rattle.texts.proofs.play_line.Goals as goal

pub returns-in_err-play-clause-done : goal.returns-in_err-play-clause-done
returns-in_err-play-clause-done g c =
    let m = g.B.Base.meaning c.args.base.now in
    let s = state_of c.args.sheet.now (ledgers_of c.args.ledgers.now) in
    let p = err_from_is_err_and c.from_residual-in_err-play.result c.from_residual-in_err-play.ensures.1 in
    rw (p.1, p.2)
    (line-done m (length c.args.scratch.now) c.args.text.now c.args.from s (seen_line c.in_ok-read.read) c.step.result _ _
    c.in_ok-read.ensures.value c.step.ensures c.in_err-play.ensures.stepped)

pub returns-clause-done : goal.returns-clause-done
returns-clause-done g c =
    let m = g.B.Base.meaning c.args.base.now in
    let s = state_of c.args.sheet.now (ledgers_of c.args.ledgers.now) in
    line-done m (length c.args.scratch.now) c.args.text.now c.args.from s (seen_line c.in_ok-read.read) c.step.result (Ok c.in_ok-play.field-0) _
    c.in_ok-read.ensures.value c.step.ensures c.in_ok-play.ensures.stepped
