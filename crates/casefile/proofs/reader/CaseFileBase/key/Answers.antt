use Rattle.std.proofs.Common.{ap, ◌∙◌}
use Rattle.kb.specs.declared.counts.Counts.{Counts}
use Rattle.casefile.specs.Files.{file_counts}
use Rattle.casefile.specs.Layout.{keys_at}
use Rattle.casefile.specs.Numbers.{numbers}
use Rattle.casefile.specs.Records.{read_key}
use Rattle.casefile.proofs.FileLaws.{key_alike, row_found}
use Rattle.casefile.proofs.reader.CaseFileBase.key.Goals as goal

pub returns : goal.returns
returns c =
    let bytes = c.args.self.now.bytes.now in
    let n = file_counts bytes in
    let count = c.keys.ensures.rows ∙ ap (λ (k : Counts). k.keys) c.header.ensures in
    row_found 11 read_key key_alike (keys_at n) n.keys _ _ c.args.n (numbers bytes) (c.keys.ensures.at ∙ ap keys_at c.header.ensures) count c.row.result c.row.ensures.found c.row.ensures.absent
