use Rattle.std.proofs.Common.{◌<◌, ◌≤◌, length, replicate, Ok, sym, ap, ◌∙◌, arith}
use lib.ListN.{length-replicate}
use Rattle.std.proofs.lemmas.List.{get_or-replicate}
use Rattle.rows.proofs.RowLaws.{row_at-inside, row_at-beyond}
use Rattle.kb.specs.Telling.{tell}
use Rattle.layers_tests.proofs.many.equal_row.Goals as goal

pub returns-then-n-from : goal.returns-then-n-from
returns-then-n-from g c =
    let xs = replicate (tell c.args.rows) c.args.row in
    let k : c.args.n < tell c.args.rows = omega arith in
    let h : c.args.n < length xs = omega (arith, length-replicate (tell c.args.rows) c.args.row) in
    sym (row_at-inside xs c.args.n c.args.row h ∙ ap Ok (get_or-replicate (tell c.args.rows) c.args.n c.args.row c.args.row k))

pub returns-else-n-from : goal.returns-else-n-from
returns-else-n-from g c =
    let xs = replicate (tell c.args.rows) c.args.row in
    let h : length xs ≤ c.args.n = omega (arith, length-replicate (tell c.args.rows) c.args.row) in
    sym (row_at-beyond xs c.args.n h)
