-- The last row of a list is the one whose number is one less than the length.
use Rattle.std.proofs.Common.{◌≡◌, suc, ◌-◌, List, [], ◌∷◌, length, slice_get, refl, sym, ap, ◌∙◌, arith}
use Rattle.calculus.specs.Playing.{last_of}

pub last_of_slice_get : {X : Type 0} (xs : List X) → last_of xs ≡ slice_get xs (length xs - 1)
last_of_slice_get [] = refl
last_of_slice_get (y ∷ []) = refl
last_of_slice_get (y ∷ z ∷ zs) =
    let k : length (y ∷ z ∷ zs) - 1 ≡ suc (length (z ∷ zs) - 1) = omega arith in
    last_of_slice_get (z ∷ zs) ∙ ap (slice_get (y ∷ z ∷ zs)) (sym k)
