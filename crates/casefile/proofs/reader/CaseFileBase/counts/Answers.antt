use Rattle.std.proofs.Common.{sym, ◌∙◌}
use Rattle.casefile.specs.Files.{file_counts}
use Rattle.casefile.specs.Numbers.{numbers}
use Rattle.casefile.proofs.FileLaws.{counts_listed}
use Rattle.casefile.proofs.reader.CaseFileBase.counts.Goals as goal

pub returns : goal.returns
returns c =
    let bytes = c.args.self.now.bytes.now in
    c.header.ensures ∙ sym (counts_listed (file_counts bytes) (numbers bytes))
