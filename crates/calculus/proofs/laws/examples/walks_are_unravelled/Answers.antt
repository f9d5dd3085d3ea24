use Rattle.std.proofs.Common.{refl}
use Rattle.calculus.specs.Branches.{head_of}
use Rattle.calculus.specs.Review.{blocker}
use Rattle.calculus.specs.Walks.{joins_walks, walk}
use Rattle.calculus.proofs.laws.examples.walks_are_unravelled.Goals as goal

pub returns : goal.returns
unfolding head_of blocker joins_walks walk
returns c = record { bent = (refl, refl); first = refl; on = refl; not_back = refl; walk_on = refl }
