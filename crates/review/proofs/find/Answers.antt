-- No failure on the rows is none of the eight conditions failing; the first failure is of the lowest that fails.
use Rattle.std.proofs.Common.{length, None, Some, ap, ◌∙◌}
use Rattle.ledgers.specs.Contents.{ledgers_of}
use Rattle.lookup.specs.Views.{branch_in}
use Rattle.sheet.specs.Writing.{rows_shown}
use Rattle.review.proofs.ReviewLaws.{found_first}
use Rattle.review.proofs.find.Goals as goal

pub returns-in-None : goal.returns-in-None
returns-in-None g c =
    let l = ledgers_of c.args.ledgers.now in
    let n = length c.args.heads.now in
    found_first (g.B.Base.meaning c.args.base.now) (g.B.Base.meaning c.over-view.result.base.now) (rows_shown n l) (branch_in c.over-view.result) None
    (ap g.B.Base.meaning c.over-view.ensures.base)
    (c.over-view.ensures.branch ∙ cc (c.rows.ensures, c.rows-2.ensures, c.rows-3.ensures))
    c.in-None.ensures

pub returns-in-Some : goal.returns-in-Some
returns-in-Some g c =
    let l = ledgers_of c.args.ledgers.now in
    let n = length c.args.heads.now in
    rw c.condition.ensures
    (found_first (g.B.Base.meaning c.args.base.now) (g.B.Base.meaning c.over-view.result.base.now) (rows_shown n l) (branch_in c.over-view.result) (Some c.in-Some.failure)
    (ap g.B.Base.meaning c.over-view.ensures.base)
    (c.over-view.ensures.branch ∙ cc (c.rows.ensures, c.rows-2.ensures, c.rows-3.ensures))
    c.in-Some.ensures)
