use Rattle.std.proofs.Common.{rules, ◌≡◌, true, false, ap, ◌∙◌}
use Rattle.std.proofs.lemmas.Iterator.{first_from_Range}
use Rattle.kb.specs.Check.{row_in_range}
use Rattle.kb.specs.First.{first_failing}
use Rattle.kb.proofs.FirstLaws.{first_failing-found}
use Rattle.kb.proofs.check.Measured.first_out_of_range.Goals as goal

pub returns : goal.returns
returns g c =
    let test = row_in_range c.args.self.now.counts (g.B.Base.meaning c.args.self.now.base.now) c.args.list in
    first_failing-found test c.of.result c.find.result
    (first_from_Range _ _ _ c.find.result (λ k. test k ≡ false) (λ k. test k ≡ true) c.find.ensures.ran
    (λ x q k. search rules) (λ x q k. search rules))
    ∙ ap (first_failing test) c.of.ensures
