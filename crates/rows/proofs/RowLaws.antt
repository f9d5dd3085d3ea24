-- Where a row stands in a list that is cut, lengthened or mapped.
use Rattle.std.proofs.Common.{Bor, Some, None, Option, ◌≡◌, ℕ, zero, suc, ◌-◌, ◌<◌, ◌≤◌, List, [], ◌∷◌, ◌++◌, map, length, get_or, take, Ok, Err, Result, sym, refl, ap, ◌∙◌, arith}
use Rattle.std.specs.Option.{ok_or, option_copied}
use Rattle.std.specs.Slice.{IsItemAt}
use Rattle.std.specs.Result.{result_map_both}
use Rattle.rows.specs.declared.fault.RowFault.{RowFault}
use Rattle.rows.specs.declared.fault.RowFault.TheVariants.{NoSuchRow}
use Rattle.rows.specs.Rows.{row_at, RowAt}

pub row_at-inside : {X : Type 0} (xs : List X) (n : ℕ) (d : X) → n < length xs → row_at xs n ≡ Ok (get_or xs n d)
row_at-inside [] n d h = absurd (omega arith)
row_at-inside (x ∷ xs) zero d h = refl
row_at-inside (x ∷ xs) (suc n) d h = row_at-inside xs n d (omega arith)

pub row_at-beyond : {X : Type 0} (xs : List X) (n : ℕ) → length xs ≤ n → row_at xs n ≡ Err NoSuchRow
row_at-beyond [] n h = refl
row_at-beyond (x ∷ xs) zero h = absurd (omega arith)
row_at-beyond (x ∷ xs) (suc n) h = row_at-beyond xs n (omega arith)

-- the element that a slice lends at a number is its row
pub row_at-lent : {X : Type 0} (xs : List X) (n : ℕ) (r : Option (Bor X)) → IsItemAt xs n r → ok_or (option_copied r) NoSuchRow ≡ row_at xs n
row_at-lent xs n None (_, _, _, beyond, _) = sym (row_at-beyond xs n beyond)
row_at-lent xs n (Some x) (_, is, _, inside, _) = ap Ok is ∙ sym (row_at-inside xs n x.now inside.0)

-- below the length no row is refused
pub row_at-refused : {X : Type 0} (xs : List X) (n : ℕ) (f : RowFault) → row_at xs n ≡ Err f → length xs ≤ n
row_at-refused [] n f e = omega arith
row_at-refused (x ∷ xs) zero f e = let z : ◌≡◌ {A = ℕ} 0 1 = cc in absurd (omega arith)
row_at-refused (x ∷ xs) (suc n) f e = omega (arith, row_at-refused xs n f e)

pub row_at-found : {X : Type 0} (xs : List X) (n : ℕ) (x : X) → row_at xs n ≡ Ok x → n < length xs
row_at-found [] n x e = let z : ◌≡◌ {A = ℕ} 0 1 = cc in absurd (omega arith)
row_at-found (y ∷ ys) zero x e = omega arith
row_at-found (y ∷ ys) (suc n) x e = omega (arith, row_at-found ys n x e)

-- a row below the cut is the row
pub row_at-take : {X : Type 0} (m : ℕ) (xs : List X) (n : ℕ) → n < m → row_at (take m xs) n ≡ row_at xs n
row_at-take zero xs n h = absurd (omega arith)
row_at-take (suc m) [] n h = refl
row_at-take (suc m) (x ∷ xs) zero h = refl
row_at-take (suc m) (x ∷ xs) (suc n) h = row_at-take m xs n (omega arith)

pub row_at-append-left : {X : Type 0} (xs ys : List X) (n : ℕ) → n < length xs → row_at (xs ++ ys) n ≡ row_at xs n
row_at-append-left [] ys n h = absurd (omega arith)
row_at-append-left (x ∷ xs) ys zero h = refl
row_at-append-left (x ∷ xs) ys (suc n) h = row_at-append-left xs ys n (omega arith)

pub row_at_append_right : {X : Type 0} (xs ys : List X) (n : ℕ) → length xs ≤ n → row_at (xs ++ ys) n ≡ row_at ys (n - length xs)
row_at_append_right [] ys n h = let e : n - 0 ≡ n = omega arith in rw e
row_at_append_right (x ∷ xs) ys zero h = absurd (omega arith)
row_at_append_right (x ∷ xs) ys (suc n) h =
    let e : suc n - suc (length xs) ≡ n - length xs = omega arith in
    rw e (row_at_append_right xs ys n (omega arith))

-- a row of a mapped list is the row, mapped
pub row_at_mapped : {X Y : Type 0} (f : X → Y) (xs : List X) (n : ℕ) → row_at (map f xs) n ≡ result_map_both f (λ e. e) (row_at xs n)
row_at_mapped f [] n = refl
row_at_mapped f (x ∷ xs) zero = refl
row_at_mapped f (x ∷ xs) (suc n) = row_at_mapped f xs n

pub row_at_mapped_twice : {X Y Z : Type 0} (f : Y → Z) (g : X → Y) (xs : List X) (n : ℕ) → row_at (map f (map g xs)) n ≡ result_map_both (λ x. f (g x)) (λ e. e) (row_at xs n)
row_at_mapped_twice f g [] n = refl
row_at_mapped_twice f g (x ∷ xs) zero = refl
row_at_mapped_twice f g (x ∷ xs) (suc n) = row_at_mapped_twice f g xs n

pub row_at-map : {X Y : Type 0} (f : X → Y) (xs : List X) (n : ℕ) (x : X) → row_at xs n ≡ Ok x → row_at (map f xs) n ≡ Ok (f x)
row_at-map f xs n x e = row_at_mapped f xs n ∙ ap (result_map_both f (λ e. e)) e

-- what the definition answers is what the words say
pub answers_means : {X : Type 0} (xs : List X) (n : ℕ) (r : Result X RowFault) → r ≡ row_at xs n → RowAt xs n r
answers_means xs n (Ok x) e =
    record {
      inside = λ d h. e ∙ row_at-inside xs n d h;
      beyond = λ h. let z : ◌≡◌ {A = ℕ} 0 1 = cc (row_at-beyond xs n h) in absurd (omega arith);
      refused = λ p. let z : ◌≡◌ {A = ℕ} 0 1 = cc in absurd (omega arith);
    }
answers_means xs n (Err NoSuchRow) e =
    record {
      inside = λ d h. e ∙ row_at-inside xs n d h;
      beyond = λ h. refl;
      refused = λ p. row_at-refused xs n NoSuchRow (sym e);
    }
