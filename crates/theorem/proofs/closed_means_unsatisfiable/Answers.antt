use Rattle.theorem.proofs.RunSound.{closed_is_sound}
use Rattle.theorem.proofs.closed_means_unsatisfiable.Goals as goal

pub returns : goal.returns
returns c = closed_is_sound
