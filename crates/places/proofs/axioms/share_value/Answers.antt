use Rattle.std.proofs.Common.{rules}
use Rattle.kb.specs.declared.axioms.Assertion.TheVariants.{Joins}
use Rattle.calculus.specs.Branches.{held}
use Rattle.lookup.specs.Views.{branch_in}
use Rattle.places.proofs.ReachLaws.{joins_alike}
use Rattle.places.proofs.axioms.share_value.Goals as goal

pub returns : goal.returns
returns g c =
    let m = g.B.Base.meaning c.args.view.now.base.now in
    let b = branch_in c.args.view.now in
    c.reaches.ensures (λ z. held m b (Joins c.args.pair.right c.args.y z)) (λ z t k. search rules) (joins_alike m b c.args.pair.right c.args.y)
