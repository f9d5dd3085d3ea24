-- Individuals beyond the heads are their own heads, so only those to which a row goes are reached.
use Rattle.std.proofs.Common.{rules, ◌∙◌}
use Rattle.std.proofs.lemmas.Iterator.{YieldsList-from_slice}
use Rattle.std.proofs.lemmas.Iterator.Search.{any_from_yields_List}
use Rattle.std.proofs.lemmas.List.{get_or_past}
use Rattle.lookup.specs.Views.{branch_in}
use Rattle.places.proofs.ReachLaws.{row_reaches, rows_reach}
use Rattle.places.proofs.reaching.reaches.Goals as goal

pub returns : goal.returns
returns g c test computes alike =
    let view = c.args.view.now in
    let m = g.B.Base.meaning c.args.view.now.base.now in
    any_from_yields_List (row_reaches m (branch_in view) c.args.role c.args.from test) _ _ _ c.any.ensures.ran
    (YieldsList-from_slice view.roles.now (cc)) (λ row b q k. search (rules, computes))
    ∙ rows_reach m (branch_in view) (λ y le. view.known y ∙ get_or_past view.heads.now y y le) c.args.role c.args.from test alike
