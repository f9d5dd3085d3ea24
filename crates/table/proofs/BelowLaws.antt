-- All of some individuals are below a number where each of them is.
use Rattle.std.proofs.Common.{◌≡◌, ℕ, ◌&&◌, List, [], ◌∷◌, refl, ap}
use Rattle.std.specs.List.{list_all}
use Rattle.kb.specs.declared.names.Individual.{Individual}
use Rattle.calculus.specs.Table.{all_below, below}

pub list_all-below : (n : ℕ) (zs : List Individual) → list_all (below n) zs ≡ all_below n zs
list_all-below n [] = refl
list_all-below n (z ∷ zs) = ap (λ b. below n z && b) (list_all-below n zs)
