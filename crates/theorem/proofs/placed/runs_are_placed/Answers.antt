use Rattle.theorem.proofs.RunPlaced.{run_placed}
use Rattle.theorem.proofs.placed.runs_are_placed.Goals as goal

pub returns : goal.returns
returns c = run_placed
