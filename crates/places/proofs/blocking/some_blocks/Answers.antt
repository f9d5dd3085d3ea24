use Rattle.std.proofs.Common.{rules, ◌∙◌, refl, arith}
use Rattle.std.proofs.lemmas.Iterator.{YieldsList-from_range}
use Rattle.std.proofs.lemmas.Iterator.Search.{any_from_yields_List}
use Rattle.calculus.specs.Review.{blocks}
use Rattle.lookup.specs.Views.{branch_in}
use Rattle.places.proofs.UnderLaws.{any-range}
use Rattle.places.proofs.blocking.some_blocks.Goals as goal

pub returns : goal.returns
returns g c =
    let test = blocks (g.B.Base.meaning c.args.view.now.base.now) (branch_in c.args.view.now) c.args.s.0 in
    any_from_yields_List test _ _ _ c.any.ensures.ran (YieldsList-from_range 0 c.args.s.0 c.args.s.0 refl (omega arith)) (λ x b q k. search rules)
    ∙ any-range test c.args.s.0
