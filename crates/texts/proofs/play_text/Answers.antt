use Rattle.std.proofs.Common.{length, arith}
use Rattle.ledgers.specs.Contents.{ledgers_of}
use Rattle.sheet.specs.States.{state_of}
use Rattle.texts.proofs.MeaningLaws.{text-played}
use Rattle.texts.proofs.play_text.Goals as goal

pub returns-clause-means : goal.returns-clause-means
returns-clause-means g c =
    text-played (g.B.Base.meaning c.args.base.now) (length c.args.scratch.now) c.args.text.now (state_of c.args.sheet.now (ledgers_of c.args.ledgers.now)) _ _
    (omega arith) c.play_lines.ensures
