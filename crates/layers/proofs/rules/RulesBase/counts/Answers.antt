use Rattle.std.proofs.Common.{rules}
use Rattle.std.proofs.lemmas.List.{length-map}
use Rattle.layers.proofs.BehindLaws.{length-behind}
use Rattle.layers.proofs.rules.RulesBase.counts.Goals as goal

pub returns : goal.returns
returns g c = simp (length-behind, length-map) (search rules)
