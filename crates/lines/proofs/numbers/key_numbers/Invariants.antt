use Rattle.std.proofs.Common.{◌≡◌, ◌∷◌, take}
use Rattle.lines.specs.Letters.{individual_numbers}
use Rattle.lines.proofs.numbers.key_numbers.Given as goal

abbrev pub invariant-loop-z : goal.invariant-loop-z
invariant-loop-z l = l.numbers.items ≡ l.n ∷ l.fn.x.0 ∷ l.fn.y.0 ∷ individual_numbers (take l.z-index l.shared)
