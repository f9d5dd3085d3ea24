-- What row n of a list is, and the number that a refusal has.
use Rattle.std.specs.Prelude.{◌≡◌, ℕ, zero, suc, ◌<◌, ◌≤◌, List, [], ◌∷◌, length, Ok, Err, Result, slice_index_or}
use Rattle.rows.specs.declared.fault.RowFault.{RowFault}
use Rattle.rows.specs.declared.fault.RowFault.TheVariants.{NoSuchRow}

-- The numbers that a refused question returns: 1, no such row.
abbrev pub row_fault_numbers : RowFault → List ℕ
row_fault_numbers NoSuchRow = 1 ∷ []

-- The row at a number, counted from 0, or that there is none.
abbrev pub row_at : {X : Type 0} → List X → ℕ → Result X RowFault
row_at [] n = Err NoSuchRow
row_at (x ∷ xs) zero = Ok x
row_at (x ∷ xs) (suc n) = row_at xs n

-- The numbers that an answer refuses with: none if it does not refuse.
abbrev pub refusal : {X E : Type 0} → (E → List ℕ) → Result X E → List ℕ
refusal numbers (Ok x) = []
refusal numbers (Err e) = numbers e

-- An answer to "row n", in words: below the length it is the element there, and 1 comes back exactly when n is not below it.
pub record RowAt {X : Type 0} (xs : List X) (n : ℕ) (r : Result X RowFault) : Type 0 where
  pub inside : (d : X) → n < length xs → r ≡ Ok (slice_index_or xs n d)
  pub beyond : length xs ≤ n → refusal row_fault_numbers r ≡ 1 ∷ []
  pub refused : refusal row_fault_numbers r ≡ 1 ∷ [] → length xs ≤ n
