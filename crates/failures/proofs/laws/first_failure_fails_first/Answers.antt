use Rattle.failures.proofs.FailureLaws.{first_failure_lem}
use Rattle.failures.proofs.laws.first_failure_fails_first.Goals as goal

pub returns : goal.returns
returns c = first_failure_lem
