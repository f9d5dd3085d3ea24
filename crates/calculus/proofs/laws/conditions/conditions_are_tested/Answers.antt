use Rattle.calculus.proofs.ConditionLaws.{reviewed-exactly}
use Rattle.calculus.proofs.laws.conditions.conditions_are_tested.Goals as goal

pub returns : goal.returns
returns c = reviewed-exactly
