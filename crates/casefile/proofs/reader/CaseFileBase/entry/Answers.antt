use Rattle.std.proofs.Common.{ap, ◌∙◌}
use Rattle.kb.specs.declared.counts.Counts.{Counts}
use Rattle.casefile.specs.Files.{file_counts}
use Rattle.casefile.specs.Layout.{entries_at}
use Rattle.casefile.specs.Numbers.{numbers}
use Rattle.casefile.specs.Records.{read_entry}
use Rattle.casefile.proofs.FileLaws.{entry_alike, row_found}
use Rattle.casefile.proofs.reader.CaseFileBase.entry.Goals as goal

pub returns : goal.returns
returns c =
    let bytes = c.args.self.now.bytes.now in
    let n = file_counts bytes in
    let count = c.entries.ensures.rows ∙ ap (λ (k : Counts). k.entries) c.header.ensures in
    row_found 3 read_entry entry_alike entries_at n.entries _ _ c.args.n (numbers bytes) c.entries.ensures.at count c.row.result c.row.ensures.found c.row.ensures.absent
