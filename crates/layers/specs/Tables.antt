-- What one row more makes of a list of at most so many rows.
use Rattle.std.specs.Prelude.{◌≡◌, ℕ, ◌<◌, ◌≤◌, List, [], ◌∷◌, ◌++◌, length, Ok, Result}
use Rattle.rows.specs.Rows.{refusal}
use Rattle.layers.specs.declared.fault.LayerFault.{LayerFault}
use Rattle.layers.specs.Growing.{layer_fault_numbers}

-- What one row more makes of a list that may have at most `most` rows, in words. Where there are fewer, the row stands behind
-- those before and the answer is its number; else 3 comes back and nothing changes.
pub record OneMore {X : Type 0} (most : ℕ) (x : X) (before : List X) (r : Result ℕ LayerFault) (after : List X) : Type 0 where
  pub put : length before < most → (r ≡ Ok (length before)) × (after ≡ before ++ x ∷ [])
  pub full : most ≤ length before → (refusal layer_fault_numbers r ≡ 3 ∷ []) × (after ≡ before)
