use Rattle.std.proofs.Common.{rules, ◌+◌, ◌*◌, refl, ap}
use Rattle.kb.specs.declared.counts.Counts.{Counts}
use Rattle.calculus.specs.Review.{concept}
use Rattle.failures.specs.Failures.{clash_at, first_on_sheet}
use Rattle.lookup.specs.Views.{branch_in}
use Rattle.conditions.proofs.FirstLaws.{first_under-find_map}
use Rattle.conditions.proofs.contradictions.first_clash.Goals as goal

pub returns : goal.returns
returns g c =
    let m = g.B.Base.meaning c.args.view.now.base.now in
    let b = branch_in c.args.view.now in
    first_under-find_map (λ k. first_on_sheet m b (clash_at m b (concept (2 * k)) (concept (2 * k + 1)))) c.find_map.ensures.runs refl (ap (λ (n : Counts). n.entries) c.counts.ensures) (λ n r q k. search rules)
