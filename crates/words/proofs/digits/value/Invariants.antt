use Rattle.std.proofs.Common.{◌≡◌, ◌≤◌, drop}
use Rattle.words.specs.Numerals.{value_within}
use Rattle.words.proofs.digits.value.Given as goal

abbrev pub invariant-loop-b : goal.invariant-loop-b
invariant-loop-b l = (l.n ≤ 65535) × (value_within l.n (drop l.b-index l.digits) ≡ value_within 0 l.digits)
