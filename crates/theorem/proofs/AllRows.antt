-- Each row of a list, said by its number and said of the list.
use Rattle.std.proofs.Common.{◌≡◌, ℕ, zero, suc, List, [], ◌∷◌, ◌++◌, map, Ok, refl, subst}
use Rattle.std.specs.List.{AllByRecursion}
use Rattle.rows.specs.Rows.{row_at}
use Rattle.calculus.proofs.Accepting.{Err_not_Ok, Ok_injective}

module _ {X : Type 0} (P : X → Type 0) where
  pub all_from_rows : (xs : List X) → ((k : ℕ) (x : X) → row_at xs k ≡ Ok x → P x) → AllByRecursion P xs
  all_from_rows [] h = tt
  all_from_rows (x ∷ xs) h = (h 0 x refl, all_from_rows xs (λ k y e. h (suc k) y e))

  pub all_row_at : (xs : List X) → AllByRecursion P xs → (k : ℕ) (x : X) → row_at xs k ≡ Ok x → P x
  all_row_at [] a k x e = Err_not_Ok e
  all_row_at (y ∷ ys) a zero x e = subst P (Ok_injective e) a.0
  all_row_at (y ∷ ys) a (suc k) x e = all_row_at ys a.1 k x e

  pub all_append_left : (xs ys : List X) → AllByRecursion P (xs ++ ys) → AllByRecursion P xs
  all_append_left [] ys a = tt
  all_append_left (x ∷ xs) ys a = (a.0, all_append_left xs ys a.1)

  pub all_append_right : (xs ys : List X) → AllByRecursion P (xs ++ ys) → AllByRecursion P ys
  all_append_right [] ys a = a
  all_append_right (x ∷ xs) ys a = all_append_right xs ys a.1

-- a list is as it was where no item of it is changed
pub map-unchanged : {X : Type 0} (f : X → X) (P : X → Type 0) → ((x : X) → P (f x) → f x ≡ x) → (xs : List X) → AllByRecursion P (map f xs) → map f xs ≡ xs
map-unchanged f P h [] a = refl
map-unchanged f P h (x ∷ xs) a = λ i. h x a.0 i ∷ map-unchanged f P h xs a.1 i
