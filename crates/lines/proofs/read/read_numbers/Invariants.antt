use Rattle.std.proofs.Common.{◌≡◌, ◌-◌, ◌≤◌, [], length, drop}
use Rattle.lines.specs.Reading.{read_numbers}
use Rattle.lines.proofs.read.read_numbers.Given as goal

abbrev pub invariant-loop-numbers : goal.invariant-loop-numbers
invariant-loop-numbers l = record {
  fit : length l.numbers.items ≤ 7;
  left : read_numbers (7 - length l.numbers.items) l.numbers.items (drop l.end l.text) ≡ read_numbers 7 [] (drop l.from l.text);
}

abbrev pub decreases-loop-numbers : goal.decreases-loop-numbers
decreases-loop-numbers l = 7 - length l.numbers.items
