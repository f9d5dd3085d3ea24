use Rattle.std.proofs.Common.{refl}
use Rattle.calculus.specs.Branches.{head_of}
use Rattle.calculus.specs.Review.{blocker}
use Rattle.calculus.proofs.laws.examples.examples_are_worked.Goals as goal

pub returns : goal.returns
unfolding head_of blocker
returns c = refl
