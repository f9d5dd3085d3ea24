use Rattle.std.proofs.Common.{rules}
use lib.ListN.{length-replicate}
use Rattle.layers_tests.proofs.many.ManyBase.counts.Goals as goal

pub returns : goal.returns
returns c = simp length-replicate (search rules)
