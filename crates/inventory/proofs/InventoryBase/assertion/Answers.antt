use Rattle.std.proofs.Common.{length, Err, sym, ap, ◌∙◌}
use Rattle.std.proofs.lemmas.Result.{err_from_is_err_and}
use Rattle.kb.specs.Telling.{tell_assertion}
use Rattle.inventory.proofs.RecordLaws.{row-found, row-missing}
use Rattle.inventory.proofs.InventoryBase.assertion.Goals as goal

pub returns-in_err-x : goal.returns-in_err-x
returns-in_err-x c =
    let s = c.args.self.now in
    let xs = s.records.now in
    let p = err_from_is_err_and c.from_residual.result c.from_residual.ensures.1 in
    p.1 ∙ ap Err p.2 ∙ sym (row-missing tell_assertion s.columns (length xs) xs c.args.n c.in_err-x.field-0.0 (sym c.in_err-x.ensures.value))

pub returns : goal.returns
returns c =
    let s = c.args.self.now in
    let xs = s.records.now in
    c.row-2.ensures ∙ sym (row-found tell_assertion s.columns (length xs) xs c.args.n c.in_ok-x.x (sym c.in_ok-x.ensures.value))
