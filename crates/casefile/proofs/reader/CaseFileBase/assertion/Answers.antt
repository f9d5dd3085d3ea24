use Rattle.std.proofs.Common.{ap, ◌∙◌}
use Rattle.kb.specs.declared.counts.Counts.{Counts}
use Rattle.casefile.specs.Files.{file_counts}
use Rattle.casefile.specs.Layout.{assertions_at}
use Rattle.casefile.specs.Numbers.{numbers}
use Rattle.casefile.specs.Records.{read_assertion}
use Rattle.casefile.proofs.FileLaws.{assertion_alike, row_found}
use Rattle.casefile.proofs.reader.CaseFileBase.assertion.Goals as goal

pub returns : goal.returns
returns c =
    let bytes = c.args.self.now.bytes.now in
    let n = file_counts bytes in
    let count = c.assertions.ensures.rows ∙ ap (λ (k : Counts). k.assertions) c.header.ensures in
    row_found 4 read_assertion assertion_alike (assertions_at n) n.assertions _ _ c.args.n (numbers bytes) (c.assertions.ensures.at ∙ ap assertions_at c.header.ensures) count c.row.result c.row.ensures.found c.row.ensures.absent
