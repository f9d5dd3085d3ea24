use Rattle.std.proofs.Common.{rules}
use Rattle.inspect.proofs.words.NumberedEntryDisplay.fmt.Goals as goal

pub returns-in-Some-clause-writes : goal.returns-in-Some-clause-writes
returns-in-Some-clause-writes g c = rw c.in-Some.is (search rules)
