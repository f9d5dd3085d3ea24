use Rattle.std.proofs.Common.{rules, arith}
use Rattle.casefile.proofs.NumberLaws.{number_read}
use Rattle.casefile.proofs.file.CaseFile.number.Goals as goal

pub returns : goal.returns
returns c =
    number_read c.args.self.now.bytes.now c.args.i c.map_or.result _ c.get.result _ (omega arith) c.as_chunks.ensures.front c.as_chunks.ensures.front_len c.get.ensures.lookup (λ x told. search rules) c.map_or.ensures
