-- Two lists with the same rows are the same.
use Rattle.std.proofs.Common.{◌≡◌, ℕ, suc, ◌+◌, ◌<◌, ◌≤◌, Bool, true, false, List, [], ◌∷◌, length, MatchBool, Decides, sym, refl, subst, ◌∙◌, ⊎_elim, arith}
use Rattle.std.specs.List.{AllWithin, HoldsAt, range_with_len}
use Rattle.std.proofs.lemmas.List.FromFn.{length-range_with_len, get_or-range_with_len}
use Rattle.std.proofs.lemmas.Bool.{cases_lt}
use Rattle.rows.specs.Rows.{row_at}
use Rattle.rows.proofs.RowLaws.{row_at-beyond}

pub row_at_ext : {X : Type 0} (xs ys : List X) → ((n : ℕ) → row_at xs n ≡ row_at ys n) → xs ≡ ys
row_at_ext [] [] h = refl
row_at_ext [] (y ∷ ys) h = let e = h 0 in let z : ◌≡◌ {A = ℕ} 0 1 = cc in absurd (omega arith)
row_at_ext (x ∷ xs) [] h = let e = h 0 in let z : ◌≡◌ {A = ℕ} 0 1 = cc in absurd (omega arith)
row_at_ext (x ∷ xs) (y ∷ ys) h = let e = h 0 in let t = row_at_ext xs ys (λ n. h (suc n)) in cc

pub row_at_ext_below : {X : Type 0} (xs ys : List X) (k : ℕ) → length xs ≤ k → length ys ≤ k → ((n : ℕ) → n < k → row_at xs n ≡ row_at ys n) → xs ≡ ys
row_at_ext_below xs ys k s t h =
    row_at_ext xs ys (λ n. ⊎_elim (h n) (λ l. row_at-beyond xs n (omega arith) ∙ sym (row_at-beyond ys n (omega arith))) (cases_lt n k))

-- what `all` answers over the row numbers below n, of two lists with no row from n on
pub same_from_all_rows : {X : Type 0} (xs ys : List X) (n : ℕ) (r : Bool) → length xs ≤ n → length ys ≤ n → MatchBool r (AllWithin (λ k. row_at xs k ≡ row_at ys k) (range_with_len 0 n) 0 (length (range_with_len 0 n))) ((k : ℕ) × (k < length (range_with_len 0 n)) × HoldsAt (λ k. row_at xs k ≡ row_at ys k → ⊥) (range_with_len 0 n) k) → Decides r (xs ≡ ys)
same_from_all_rows xs ys n true s t a =
    (λ _. row_at_ext_below xs ys n s t (λ k h. let z : 0 + k ≡ k = omega arith in subst (λ (j : ℕ). row_at xs j ≡ row_at ys j) (get_or-range_with_len 0 n k 0 h ∙ z) (a k 0 (omega arith) (omega (arith, length-range_with_len 0 n)))), λ _. refl)
same_from_all_rows xs ys n false s t (k, _, d) = (λ e. let z : ◌≡◌ {A = ℕ} 0 1 = cc in absurd (omega arith), λ e. absurd (d 0 (rw e refl)))
