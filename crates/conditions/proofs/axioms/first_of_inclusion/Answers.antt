use Rattle.std.proofs.Common.{rules}
use Rattle.failures.specs.Failures.{inclusion_at}
use Rattle.lookup.specs.Views.{branch_in}
use Rattle.conditions.proofs.axioms.first_of_inclusion.Goals as goal

pub returns : goal.returns
returns g c =
    c.first_unblocked.ensures (inclusion_at (g.B.Base.meaning c.args.view.now.base.now) (branch_in c.args.view.now) c.args.n c.args.row) (λ x failure k. search rules)
