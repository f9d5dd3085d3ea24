use Rattle.std.proofs.Common.{◌≡◌, ◌∷◌, take}
use Rattle.std.specs.List.{flat_map}
use Rattle.lines.specs.Spelling.{number_text}
use Rattle.lines.proofs.spelling.spell.Given as goal

abbrev pub invariant-loop-n : goal.invariant-loop-n
invariant-loop-n l = l.text.bytes ≡ l.fn.letter ∷ flat_map number_text (take l.n-index l.numbers)
