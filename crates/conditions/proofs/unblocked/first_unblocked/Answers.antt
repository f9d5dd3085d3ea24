use Rattle.std.proofs.Common.{rules, refl}
use Rattle.failures.specs.Failures.{unless_blocked}
use Rattle.lookup.specs.Views.{branch_in}
use Rattle.conditions.proofs.FirstLaws.{first_under-find_map}
use Rattle.conditions.proofs.unblocked.first_unblocked.Goals as goal

pub returns : goal.returns
returns g c at finds =
    let m = g.B.Base.meaning c.args.view.now.base.now in
    let b = branch_in c.args.view.now in
    first_under-find_map (λ x. unless_blocked m b x (at x)) c.find_map.ensures.runs refl (c.individuals.ensures) (λ x r q k. search (rules, finds))
