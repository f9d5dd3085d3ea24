use Rattle.std.proofs.Common.{rules}
use Rattle.std.proofs.lemmas.List.{length-map}
use Rattle.layers.proofs.BehindLaws.{length-behind}
use Rattle.layers.proofs.question.QuestionBase.counts.Goals as goal

pub returns : goal.returns
returns g c =
    let e = c.denial_length.ensures (g.B.Base.meaning c.args.self.now.below).individuals in
    simp (length-behind, length-map) (search rules)
