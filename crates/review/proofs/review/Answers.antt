-- Each way out is the calculus' review.
use Rattle.std.proofs.Common.{◌≡◌, length, take, ◌-◌, arith}
use Rattle.std.proofs.lemmas.List.{length-take}
use Rattle.ledgers.specs.Contents.{ledgers_of}
use Rattle.sheet.specs.States.{state_of}
use Rattle.review.proofs.ReviewLaws.{reviewed-changed, reviewed-closed, reviewed-found}
use Rattle.review.proofs.review.Goals as goal

pub returns-then-not-fits : goal.returns-then-not-fits
returns-then-not-fits g c =
    reviewed-changed (g.B.Base.meaning c.args.base.now) (length c.args.scratch.now)
    (state_of c.args.sheet.now (ledgers_of c.args.ledgers.now))
    c.if-not-fits.ensures

pub returns-then-is_closed : goal.returns-then-is_closed
returns-then-is_closed g c =
    reviewed-closed (g.B.Base.meaning c.args.base.now) (length c.args.scratch.now)
    (state_of c.args.sheet.now (ledgers_of c.args.ledgers.now))
    c.if-not-fits.ensures c.if-scratch-lt1024.false c.if-is_closed.ensures

pub returns : goal.returns
returns g c =
    let m = g.B.Base.meaning c.args.base.now in
    let l = ledgers_of c.args.ledgers.now in
    let all : length (take (c.from-individuals.result - 0) c.args.scratch.now) ≡ c.args.sheet.now.individuals =
    simp length-take (omega arith) in
    reviewed-found m (length c.args.scratch.now) (state_of c.args.sheet.now l) c.find.result
    (length (take (c.from-individuals.result - 0) c.args.scratch.now))
    c.if-not-fits.ensures c.if-scratch-lt1024.false c.if-is_closed.ensures all c.args.sheet.now.few c.find.ensures
