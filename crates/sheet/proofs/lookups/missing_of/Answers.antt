-- The second part is held once the first is written if it was held before or is the same concept.
use Rattle.std.proofs.Common.{rules, ◌≡◌, ◌||◌, ◌++◌, eqb, sym, ap, ◌∙◌}
use Rattle.std.specs.Option.{option_to_list}
use Rattle.lookup.specs.Views.{branch_in}
use Rattle.table.specs.FactLists.{adds_of}
use Rattle.calculus.specs.Branches.{held}
use Rattle.kb.specs.declared.axioms.Assertion.TheVariants.{Is}
use Rattle.table.specs.declared.adds.Adds.TheVariants.{Parts, Reached}
use Rattle.calculus.specs.StepLaws.{missing}
use Rattle.sheet.proofs.MissingLaws.{missing-parts, missing-reached}
use Rattle.sheet.proofs.lookups.missing_of.Goals.{then-eq, else-eq}
use Rattle.sheet.proofs.lookups.missing_of.Goals as goal

pub returns-after-eq : goal.returns-after-eq
returns-after-eq g c =
    let m = g.B.Base.meaning c.args.view.now.base.now in
    let b = branch_in c.args.view.now in
    let a = c.in-Parts in
    let k : c.if-eq.second_held ≡ eqb a.d.0 a.e.0 || held m b (Is a.e a.x) = elim c.if-eq.branch [ then-eq w ↦ search rules | else-eq w ↦ search rules ] in
    let is : Parts a.d a.e a.x ≡ c.args.adds = sym a.is in
    c.missing_ones.ensures
    ∙ (λ i. option_to_list (c.then_some-first_missing.ensures i) ++ option_to_list (c.then_some.ensures i))
    ∙ missing-parts m b a.d a.e a.x _ _ c.held-first_held.ensures k
    ∙ ap (λ l. missing m b (adds_of l)) is

pub returns-in-Reached : goal.returns-in-Reached
returns-in-Reached g c =
    let m = g.B.Base.meaning c.args.view.now.base.now in
    let b = branch_in c.args.view.now in
    let a = c.in-Reached in
    let is : Reached a.r a.x a.y a.d ≡ c.args.adds = sym a.is in
    c.missing_ones-in-Reached.ensures
    ∙ (λ i. option_to_list (c.then_some-first_missing-in-Reached.ensures i) ++ option_to_list (c.then_some-in-Reached.ensures i))
    ∙ missing-reached m b a.r a.x a.y a.d _ _ c.held-first_held-in-Reached.ensures c.held-second_held-in-Reached.ensures
    ∙ ap (λ l. missing m b (adds_of l)) is
