use Rattle.std.proofs.Common.{ap, ◌∙◌}
use Rattle.kb.specs.declared.counts.Counts.{Counts}
use Rattle.casefile.specs.Files.{file_counts}
use Rattle.casefile.specs.Layout.{inclusions_at}
use Rattle.casefile.specs.Numbers.{numbers}
use Rattle.casefile.specs.Records.{read_inclusion}
use Rattle.casefile.proofs.FileLaws.{inclusion_alike, row_found}
use Rattle.casefile.proofs.reader.CaseFileBase.inclusion.Goals as goal

pub returns : goal.returns
returns c =
    let bytes = c.args.self.now.bytes.now in
    let n = file_counts bytes in
    let count = c.inclusions.ensures.rows ∙ ap (λ (k : Counts). k.inclusions) c.header.ensures in
    row_found 2 read_inclusion inclusion_alike (inclusions_at n) n.inclusions _ _ c.args.n (numbers bytes) (c.inclusions.ensures.at ∙ ap inclusions_at c.header.ensures) count c.row.result c.row.ensures.found c.row.ensures.absent
