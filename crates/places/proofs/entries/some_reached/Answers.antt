use Rattle.std.proofs.Common.{rules}
use Rattle.kb.specs.declared.axioms.Assertion.TheVariants.{Is}
use Rattle.calculus.specs.Branches.{held}
use Rattle.lookup.specs.Views.{branch_in}
use Rattle.places.proofs.ReachLaws.{is_alike}
use Rattle.places.proofs.entries.some_reached.Goals as goal

pub returns : goal.returns
returns g c =
    let m = g.B.Base.meaning c.args.view.now.base.now in
    let b = branch_in c.args.view.now in
    c.reaches.ensures (λ y. held m b (Is c.args.d y)) (λ y t k. search rules) (is_alike m b c.args.d)
