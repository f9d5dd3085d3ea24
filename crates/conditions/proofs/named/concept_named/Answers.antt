-- Where no row is found, none has the concept.
use Rattle.std.proofs.Common.{rules, tests, sym, ap, ◌∙◌}
use Rattle.std.proofs.lemmas.Iterator.{YieldsList-from_slice}
use Rattle.std.proofs.lemmas.Iterator.Search.{find_from_yields_List}
use Rattle.std.specs.Option.{option_map}
use Rattle.lookup.specs.Views.{branch_in}
use Rattle.conditions.specs.Named.{row_names}
use Rattle.conditions.proofs.NamedLaws.{named_other, none_passes}
use Rattle.conditions.proofs.named.concept_named.Goals as goal

pub returns-in_err-row : goal.returns-in_err-row
returns-in_err-row g c =
    let b = branch_in c.args.view.now in
    let found = find_from_yields_List (row_names c.args.n) _ _ c.find.result c.find.ensures.ran (YieldsList-from_slice b.concepts (cc)) (λ row t q k. search (rules, tests)) in
    c.from_residual.ensures
    ∙ named_other b c.args.n c.if-n-eq0.false (none_passes (row_names c.args.n) b.concepts (sym found ∙ ap (option_map _) c.in_err-row.was))
