use Rattle.calculus.proofs.AcceptedLaws.{step-law}
use Rattle.calculus.proofs.HeldLaws.{held_stays}
use Rattle.calculus.proofs.laws.playing.steps_are_played.Goals as goal

pub returns : goal.returns
returns c = λ m scratch t s. step-law m scratch t s held_stays
