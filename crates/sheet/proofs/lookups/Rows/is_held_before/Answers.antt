-- The view shows the fronts of the rows: those to which the side cuts back.
use Rattle.std.proofs.Common.{◌≡◌, length, ap, ◌∙◌}
use Rattle.calculus.specs.Branches.{held}
use Rattle.calculus.specs.StepLaws.{side_of}
use Rattle.calculus.specs.Playing.{cut_to}
use Rattle.ledgers.specs.Contents.{ledgers_of}
use Rattle.lookup.specs.Views.{branch_in}
use Rattle.sheet.specs.Writing.{rows_shown}
use Rattle.sheet.proofs.lookups.Rows.is_held_before.Goals as goal

pub returns : goal.returns
returns g c =
    let p = c.args.side.now in
    let shows : branch_in c.over-view.result ≡ rows_shown (length c.args.heads.now) (cut_to p (ledgers_of c.args.self.now.ledgers.now)) =
    c.over-view.ensures.branch
    ∙ cc (c.front-concepts.ensures, c.front-roles.ensures, c.front-pairs.ensures, c.rows.ensures, c.rows-2.ensures, c.rows-3.ensures) in
    c.held.ensures
    ∙ ap (λ k. held (g.B.Base.meaning k) (branch_in c.over-view.result) (side_of p)) c.over-view.ensures.base
    ∙ ap (λ b. held (g.B.Base.meaning c.args.self.now.base.now) b (side_of p)) shows
