-- A concept that no row has is asked about in vain.
use Rattle.std.proofs.Common.{rules, ◌≡◌, ap, ◌∙◌}
use Rattle.failures.specs.Failures.{asked_of, entry_at, first_of_entry}
use Rattle.calculus.specs.Review.{concept}
use Rattle.lookup.specs.Views.{branch_in}
use Rattle.conditions.specs.Named.{concept_named}
use Rattle.conditions.proofs.NamedLaws.{first-unnamed}
use Rattle.conditions.proofs.entries.first_of_entry.Goals as goal

pub returns-in_err-c : goal.returns-in_err-c
returns-in_err-c g c =
    let b = branch_in c.args.view.now in
    let none = c.in_err-c.ensures ∙ ap (concept_named b) c.asked_of.ensures in
    c.from_residual.ensures
    ∙ first-unnamed (g.B.Base.meaning c.args.view.now.base.now) b (asked_of c.args.which c.args.k) none c.args.which c.args.row

pub returns : goal.returns
returns g c =
    let m = g.B.Base.meaning c.args.view.now.base.now in
    let b = branch_in c.args.view.now in
    let e : c.in_ok-c.c.0 ≡ asked_of c.args.which c.args.k = search rules in
    c.first_unblocked.ensures (entry_at m b c.args.which (concept c.in_ok-c.c.0) c.args.row) (λ x failure k. search rules)
    ∙ ap (λ n. first_of_entry m b c.args.which n c.args.row) e
