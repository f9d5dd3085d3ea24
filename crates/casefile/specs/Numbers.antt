-- Bytes as numbers.
use Rattle.std.specs.Prelude.{ℕ, ◌+◌, ◌*◌, min, List, [], ◌∷◌}

-- Two bytes are a number, the higher first. None passes 65,535, and a last byte that stands alone is passed over.
abbrev pub numbers : List ℕ → List ℕ
numbers [] = []
numbers (last ∷ []) = []
numbers (high ∷ low ∷ bytes) = min (256 * high + low) 65535 ∷ numbers bytes
