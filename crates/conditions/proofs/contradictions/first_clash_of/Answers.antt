-- A concept that no row has clashes with nothing.
use Rattle.std.proofs.Common.{ℕ, ◌+◌, ◌*◌, ap, ◌∙◌}
use Rattle.calculus.specs.Review.{concept}
use Rattle.lookup.specs.Views.{branch_in}
use Rattle.conditions.specs.Named.{concept_named}
use Rattle.conditions.proofs.NamedLaws.{clash_unnamed, clash_with_unnamed}
use Rattle.conditions.proofs.contradictions.first_clash_of.Goals as goal

pub returns-in_err-c : goal.returns-in_err-c
returns-in_err-c g c =
    let b = branch_in c.args.view.now in
    let none = c.in_err-c.ensures ∙ ap (λ (j : ℕ). concept_named b (2 * j)) c.from.ensures in
    c.from_residual.ensures ∙ clash_unnamed (g.B.Base.meaning c.args.view.now.base.now) b (2 * c.args.k) none (concept (2 * c.args.k + 1))

pub returns-in_err-d : goal.returns-in_err-d
returns-in_err-d g c =
    let b = branch_in c.args.view.now in
    let none = c.in_err-d.ensures ∙ ap (λ (j : ℕ). concept_named b (2 * j + 1)) c.from-2.ensures in
    c.from_residual-in_err-d.ensures ∙ clash_with_unnamed (g.B.Base.meaning c.args.view.now.base.now) b (2 * c.args.k + 1) none (concept (2 * c.args.k))
