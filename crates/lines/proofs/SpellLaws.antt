-- A line spelled number by number, and how long it can become.
use Rattle.std.proofs.Common.{◌≡◌, ℕ, zero, suc, ◌+◌, ◌*◌, ◌≤◌, true, List, [], ◌∷◌, length, get_or, take, decimal, refl, arith, length-append, length-take, w16, Fits}
use Rattle.std.specs.List.{flat_map, list_all}
use Rattle.std.proofs.lemmas.Fmt.{length-decimal-le}
use Rattle.std.proofs.lemmas.Bool.{and_from, and_parts, le-leb, leb-true}
use Rattle.lines.specs.Spelling.{number_text, small}

-- numbers of sixteen bits
pub typed_small : (ns : List ℕ) → ((i : ℕ) → Fits w16 (get_or ns i 0)) → list_all small ns ≡ true
typed_small [] t = refl
typed_small (n ∷ ns) t = and_from _ _ (le-leb n 65535 (omega (arith, (t 0).fits))) (typed_small ns (λ i. t (suc i)))

small-take : (i : ℕ) (ns : List ℕ) → list_all small ns ≡ true → list_all small (take i ns) ≡ true
small-take zero ns s = refl
small-take (suc i) [] s = refl
small-take (suc i) (n ∷ ns) s = let p = and_parts (small n) (list_all small ns) s in and_from _ _ p.0 (small-take i ns p.1)

-- a number takes five digits at most
pub decimal_size : (n : ℕ) → n ≤ 65535 → length (decimal n) ≤ 5
decimal_size n h = length-decimal-le 5 n (omega arith) (omega arith) (omega arith)

numbers-size : (ns : List ℕ) → list_all small ns ≡ true → length (flat_map number_text ns) ≤ 6 * length ns
numbers-size [] s = omega arith
numbers-size (n ∷ ns) s =
    let p = and_parts (small n) (list_all small ns) s in
    omega (arith, decimal_size n (leb-true n 65535 p.0), numbers-size ns p.1, length-append (decimal n) (flat_map number_text ns))

-- the letter and the first i numbers
pub spelled-size : (letter : ℕ) (ns : List ℕ) (i : ℕ) → list_all small ns ≡ true → length (letter ∷ flat_map number_text (take i ns)) ≤ 1 + 6 * i
spelled-size letter ns i s = omega (arith, numbers-size (take i ns) (small-take i ns s), length-take i ns)
