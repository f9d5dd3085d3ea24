use Rattle.theorem.proofs.WalksSatisfy.{open_walks_satisfy}
use Rattle.theorem.proofs.opening.open_walks_satisfy.Goals as goal

pub returns : goal.returns
returns c = open_walks_satisfy
