use Rattle.std.proofs.Common.{rules, refl}
use Rattle.failures.specs.Failures.{clash_at}
use Rattle.lookup.specs.Views.{branch_in}
use Rattle.conditions.proofs.FirstLaws.{first_under-find_map}
use Rattle.conditions.proofs.contradictions.first_clash_between.Goals as goal

pub returns : goal.returns
returns g c =
    let m = g.B.Base.meaning c.args.view.now.base.now in
    let b = branch_in c.args.view.now in
    first_under-find_map (clash_at m b c.args.c c.args.d) c.find_map.ensures.runs refl (c.individuals.ensures) (λ x r q k. search rules)
