-- Some number below a bound passes a test exactly if some number of the list 0, 1, .. up to there does.
use Rattle.std.proofs.Common.{◌≡◌, ℕ, zero, suc, ◌+◌, Bool, false, [], ◌∷◌, ◌++◌, refl, ap, ◌∙◌, arith}
use mathlib.Core.Bool.{or_comm}
use Rattle.std.proofs.lemmas.List.Folds.{list_any-append}
use Rattle.std.specs.List.{list_any, range_with_len}
use Rattle.calculus.specs.Review.{some_under}

-- one more number, b, which is a + n
range_more : (a n b : ℕ) → a + n ≡ b → range_with_len a (suc n) ≡ range_with_len a n ++ b ∷ []
range_more a zero b e = ap (λ k. k ∷ []) (omega arith)
range_more a (suc n) b e = ap (λ ks. a ∷ ks) (range_more (a + 1) n b (omega arith))

pub any-range : (test : ℕ → Bool) (n : ℕ) → list_any test (range_with_len 0 n) ≡ some_under test n
any-range test zero = refl
any-range test (suc n) =
    let e : range_with_len 0 (suc n) ≡ range_with_len 0 n ++ n ∷ [] = range_more 0 n n (omega arith) in
    ap (list_any test) e ∙ list_any-append test (range_with_len 0 n) (n ∷ []) ∙ rw (any-range test n, or_comm (test n) false)
