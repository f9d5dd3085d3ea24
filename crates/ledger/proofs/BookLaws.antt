-- What becomes of the two parts of a slice when a slot is written or the place of division moves.
use Rattle.std.proofs.Common.{◌≡◌, ℕ, ◌≤◌, List, [], ◌∷◌, ◌++◌, length, take, drop, Ok, sym, refl, ap, ◌∙◌}
use Rattle.std.proofs.lemmas.List.{drop-append-le, take-append-drop, take-append-le}
use Rattle.rows.specs.Rows.{row_at}
use Rattle.ledger.specs.Books.{Book, cut}

module _ {A : Type 0} where
  -- a list divided at a place
  abbrev pub divided : List A → ℕ → Book A
  divided xs n = record { rows = take n xs; free = drop n xs }

  pub row_at-push : (xs : List A) (x : A) → row_at (xs ++ x ∷ []) (length xs) ≡ Ok x
  row_at-push [] x = refl
  row_at-push (y ∷ ys) x = row_at-push ys x

  pub cut_below : (xs : List A) (m n : ℕ) → n ≤ length (take m xs) → divided xs n ≡ cut n (divided xs m)
  cut_below xs m n h =
      ap (λ ys. divided ys n) (sym (take-append-drop m xs))
      ∙ (λ i. record { rows = take-append-le n (take m xs) (drop m xs) h i; free = drop-append-le n (take m xs) (drop m xs) h i })
