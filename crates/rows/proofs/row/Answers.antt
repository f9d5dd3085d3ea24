use Rattle.std.proofs.Common.{ap, ◌∙◌}
use Rattle.std.specs.Option.{ok_or}
use Rattle.rows.specs.declared.fault.RowFault.TheVariants.{NoSuchRow}
use Rattle.rows.proofs.RowLaws.{row_at-lent, answers_means}
use Rattle.rows.proofs.row.Goals as goal

pub returns : goal.returns
returns g c =
    let xs = c.args.rows.now in
    let lent = row_at-lent xs c.args.n c.get.result c.get.ensures.lookup in
    let e = c.ok_or.ensures.value ∙ ap (λ o. ok_or o NoSuchRow) c.copied.ensures ∙ lent in
    record { value = e; means = answers_means xs c.args.n _ e }
