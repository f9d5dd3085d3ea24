-- Numbers as bytes, and back.
use Rattle.std.proofs.Common.{◌≡◌, ℕ, ◌+◌, ◌*◌, ◌/◌, ◌%◌, ◌<◌, min, List, [], ◌∷◌, ◌++◌, length, get_or, take, refl, ap, ◌∙◌, append-nil, arith, length-append}
use Rattle.std.specs.List.{flat_map, AllByRecursion}
use Rattle.std.proofs.ByRecursion.{All-append}
use Rattle.std.proofs.lemmas.List.{take_more}
use Rattle.std.proofs.lemmas.List.Concat.{flat_map-append}
use Rattle.kb.specs.Meanings.{Tellable}
use Rattle.casefile.specs.Numbers.{numbers}
use Rattle.casewriter.specs.Encoding.{two_bytes, bytes_of}

module _ {X : Type 0} (f : X → List ℕ) where
  pub length-joined : (width : ℕ) → ((x : X) → length (f x) ≡ width) → (xs : List X) → length (flat_map f xs) ≡ width * length xs
  length-joined width same [] = omega arith
  length-joined width same (x ∷ xs) = length-append (f x) (flat_map f xs) ∙ omega (arith, same x, length-joined width same xs)

  pub all_joined : (P : ℕ → Type 0) (xs : List X) → AllByRecursion (λ x. AllByRecursion P (f x)) xs → AllByRecursion P (flat_map f xs)
  all_joined P [] a = tt
  all_joined P (x ∷ xs) a = All-append P (f x) (flat_map f xs) a.0 (all_joined P xs a.1)

  -- one row more
  pub joined-take : (xs : List X) (i : ℕ) (d : X) → i < length xs → flat_map f (take (i + 1) xs) ≡ flat_map f (take i xs) ++ f (get_or xs i d)
  joined-take xs i d h =
      ap (flat_map f) (take_more xs i d h) ∙ flat_map-append f (take i xs) (get_or xs i d ∷ [])
      ∙ ap (λ ys. flat_map f (take i xs) ++ ys) (append-nil (f (get_or xs i d)))

pub length-bytes : (ns : List ℕ) → length (bytes_of ns) ≡ 2 * length ns
length-bytes ns = length-joined two_bytes 2 (λ _. refl) ns

-- numbers that can be told are read back from their bytes
pub numbers-bytes : (ns : List ℕ) → AllByRecursion Tellable ns → numbers (bytes_of ns) ≡ ns
numbers-bytes [] a = refl
numbers-bytes (n ∷ ns) a =
    let e : min (256 * (n / 256) + n % 256) 65535 ≡ n = omega (arith, a.0) in
    rw (e, numbers-bytes ns a.1)
