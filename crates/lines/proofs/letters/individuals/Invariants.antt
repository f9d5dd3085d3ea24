use Rattle.std.proofs.Common.{◌≡◌, take}
use Rattle.lines.specs.Letters.{individuals}
use Rattle.lines.proofs.letters.individuals.Given as goal

abbrev pub invariant-loop-n : goal.invariant-loop-n
invariant-loop-n l = l.values.items ≡ individuals (take l.n-index l.numbers)
