use Rattle.std.proofs.Common.{rules, ◌∙◌}
use Rattle.std.proofs.lemmas.Iterator.{YieldsList-from_slice}
use Rattle.std.proofs.lemmas.Iterator.Search.{all_from_yields_List}
use Rattle.calculus.specs.Table.{below}
use Rattle.table.proofs.BelowLaws.{list_all-below}
use Rattle.table.proofs.lines.Lines.has_all.Goals as goal

pub returns : goal.returns
returns g c =
    let n = c.args.self.now.individuals in
    all_from_yields_List (below n) _ _ c.all.result c.all.ensures.ran (YieldsList-from_slice c.args.zs.now cc) (λ x b q k. search rules)
    ∙ list_all-below n c.args.zs.now
