use Rattle.std.proofs.Common.{rules}
use Rattle.inspect.proofs.words.NumberedAssertionDisplay.fmt.Goals as goal

pub returns-in-Same-clause-writes : goal.returns-in-Same-clause-writes
returns-in-Same-clause-writes g c = rw c.in-Same.is (search rules)

pub returns-in-Different-clause-writes : goal.returns-in-Different-clause-writes
returns-in-Different-clause-writes g c = rw c.in-Different.is (search rules)
