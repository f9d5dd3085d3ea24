use Rattle.failures.proofs.FailureLaws.{first_of_lowest}
use Rattle.failures.proofs.laws.first_failure_is_of_the_lowest.Goals as goal

pub returns : goal.returns
returns c = first_of_lowest
