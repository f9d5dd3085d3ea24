use Rattle.std.proofs.Common.{rules, refl, ap}
use Rattle.kb.specs.declared.counts.Counts.{Counts}
use Rattle.failures.specs.Failures.{key_at}
use Rattle.lookup.specs.Views.{branch_in}
use Rattle.conditions.proofs.FirstLaws.{first_under-find_map}
use Rattle.conditions.proofs.keys.first_with.Goals as goal

pub returns : goal.returns
returns g c =
    let m = g.B.Base.meaning c.args.view.now.base.now in
    let b = branch_in c.args.view.now in
    first_under-find_map (key_at m b c.args.n c.args.key c.args.x.0) c.find_map.ensures.runs refl (ap (λ (n : Counts). n.individuals) c.counts.ensures) (λ y r q k. search rules)
