-- The computed heads and the computed equality are those of the least equivalence.
use Rattle.std.specs.Prelude.{◌≡◌, ◌≤◌, true, ◌↔◌, List}
use Rattle.kb.specs.declared.names.Individual.{Individual}
use Rattle.calculus.specs.declared.row_kinds.PairRow.{PairRow}
use Rattle.calculus.specs.Branches.{Equal, equal, head_of}

-- An individual is equal to its head; no individual equal to it is smaller than the head; and two individuals are found
-- equal exactly if they are equal by the least equivalence that contains the same rows.
pub record HeadsAreLeast : Type 0 where
  pub reached : (pairs : List PairRow) (x : Individual) → Equal pairs x (record { 0 = head_of pairs x.0 })
  pub least : (pairs : List PairRow) (x y : Individual) → Equal pairs x y → head_of pairs x.0 ≤ y.0
  pub same : (pairs : List PairRow) (x y : Individual) → (equal pairs x y ≡ true) ↔ Equal pairs x y
