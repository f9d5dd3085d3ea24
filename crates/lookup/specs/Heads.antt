-- Heads as a list of numbers, one for each individual.
use Rattle.std.specs.Prelude.{ℕ, Bool, ◌&&◌, List, map, slice_index_or}
use Rattle.kb.specs.declared.names.Individual.{Individual}
use Rattle.calculus.specs.declared.row_kinds.PairRow.{PairRow}
use Rattle.calculus.specs.declared.row_kinds.PairRow.TheVariants.{Same as SameRow, Different as DifferentRow}
use Rattle.calculus.specs.Branches.{merged}
use Rattle.calculus.specs.Table.{below}

-- A same or different row names only individuals below n.
abbrev pub names_below : ℕ → PairRow → Bool
names_below n (SameRow x y) = below n x && below n y
names_below n (DifferentRow x y) = below n x && below n y

-- The head of x; a number beyond the list is its own.
abbrev pub head_in : List ℕ → ℕ → ℕ
head_in heads x = slice_index_or heads x x

-- All whose head is that of x or that of y get the smaller of the two.
abbrev pub joined : List ℕ → Individual → Individual → List ℕ
joined heads x y = map (merged (head_in heads x.0) (head_in heads y.0)) heads

-- The same for a row: a different row changes nothing.
abbrev pub joined_by : List ℕ → PairRow → List ℕ
joined_by heads (SameRow x y) = joined heads x y
joined_by heads (DifferentRow x y) = heads
