-- Where the numbers of a file stand among its bytes.
use Rattle.std.proofs.Common.{◌≡◌, ℕ, zero, suc, ◌/◌, ◌<◌, ◌≤◌, min, List, [], ◌∷◌, length, slice_index, Some, None, Option, MatchOption, Bor, get_or, refl, sym, ap, ◌∙◌, arith}
use Rattle.std.specs.Int.{from_be_bytes, w16}
use Rattle.std.specs.Simd.{first_chunks}
use Rattle.std.specs.Slice.{IsItemAt}
use Rattle.casefile.specs.Numbers.{numbers}

-- number i is that of chunk i of two bytes each
number_within : (k : ℕ) (bytes : List ℕ) (i : ℕ) (d : List ℕ) → k ≡ length bytes / 2 → i < k → slice_index (numbers bytes) i ≡ min (from_be_bytes w16 (get_or (first_chunks 2 k bytes) i d)) 65535
number_within zero bytes i d e h = absurd (omega arith)
number_within (suc k) [] i d e h = absurd (omega arith)
number_within (suc k) (last ∷ []) i d e h = absurd (omega arith)
number_within (suc k) (high ∷ low ∷ bytes) zero d e h = omega arith
number_within (suc k) (high ∷ low ∷ bytes) (suc i) d e h = number_within k bytes i d (omega arith) (omega arith)

number_beyond : (bytes : List ℕ) (i : ℕ) → length bytes / 2 ≤ i → slice_index (numbers bytes) i ≡ 0
number_beyond [] i h = refl
number_beyond (b ∷ []) i h = refl
number_beyond (a ∷ b ∷ bytes) zero h = absurd (omega arith)
number_beyond (a ∷ b ∷ bytes) (suc i) h = number_beyond bytes i (omega arith)

-- what is read of a chunk, if it is there, is the number
pub number_read : (bytes : List ℕ) (i r : ℕ) (chunks : List (List ℕ)) (chunk : Option (Bor (List ℕ))) (Told : Bor (List ℕ) → Type 0) → r < 65536 → chunks ≡ first_chunks 2 (length bytes / 2) bytes → length chunks ≡ length bytes / 2 → IsItemAt chunks i chunk → ((x : Bor (List ℕ)) → Told x → r ≡ from_be_bytes w16 x.now) → MatchOption chunk (r ≡ 0) Told → r ≡ slice_index (numbers bytes) i
number_read bytes i r chunks None Told b e long at told m = m ∙ sym (number_beyond bytes i (omega (arith, at.3)))
number_read bytes i r chunks (Some x) Told b e long at told m =
    let there : i < length bytes / 2 = omega (arith, at.3.0) in
    let is : x.now ≡ get_or (first_chunks 2 (length bytes / 2) bytes) i [] = at.4 (omega arith) [] ∙ ap (λ (xs : List (List ℕ)). get_or xs i []) e in
    let read : r ≡ from_be_bytes w16 (get_or (first_chunks 2 (length bytes / 2) bytes) i []) = told x m ∙ ap (from_be_bytes w16) is in
    omega (arith, number_within _ bytes i [] refl there)
