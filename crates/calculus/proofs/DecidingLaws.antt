-- What the tests of review decide: one lemma for each way in which a test is made of others.
use Rattle.std.proofs.Common.{◌≡◌, ℕ, zero, suc, ◌<◌, ◌≤◌, Bool, true, false, cond, not, ◌&&◌, ◌||◌, ltb, ◌⊎◌, List, [], ◌∷◌, Ok, Decides, refl, ap, ◌∙◌, subst, inl, inr, ⊎_elim, true≢false, arith}
use mathlib.Core.Bool.{and_comm, or_comm, false≢true}
use Rattle.std.proofs.lemmas.Bool.{cases_eq, cond_both, ltb-true, ltb-false}
use Rattle.std.proofs.lemmas.Bool.Decides.{Decides-and, Decides-or, Decides-like, Decides-below_and, Decides-below_or}
use Rattle.std.specs.List.{list_all, list_any}
use Rattle.rows.specs.Rows.{row_at}
use Rattle.calculus.specs.Review.{all_under, some_under, least_under}

pub decides_true : (r : Bool) → Decides r (r ≡ true)
decides_true r = (λ e. e, λ e. e)

-- "not a, or c" says that c follows from a
pub decides_implies : {A C : Type 0} (a c : Bool) → Decides a A → Decides c C → Decides (not a || c) (A → C)
decides_implies true c d k = (λ e _. k.0 e, λ f. k.1 (f (d.0 refl)))
decides_implies false c d k = (λ _ x. absurd (false≢true (d.1 x)), λ _. refl)

-- "t, or r" asks r only where t is false
pub decides_unless : {P : Type 0} (t r : Bool) → Decides r P → Decides (t || r) (t ≡ false → P)
decides_unless true r d = (λ _ e. absurd (true≢false e), λ _. refl)
decides_unless false r d = (λ e _. d.0 e, λ f. d.1 (f refl))

-- each number below a bound, and some
pub decides_all_under : {test : ℕ → Bool} {P : ℕ → Type 0} → ((k : ℕ) → Decides (test k) (P k)) → (n : ℕ) → Decides (all_under test n) ((k : ℕ) → k < n → P k)
decides_all_under {test} {P} each = Decides-below_and test P (all_under test) each refl (λ n. and_comm (all_under test n) (test n))

pub decides_some_under : {test : ℕ → Bool} {P : ℕ → Type 0} → ((k : ℕ) → Decides (test k) (P k)) → (n : ℕ) → Decides (some_under test n) ((k : ℕ) × (k < n) × P k)
decides_some_under {test} {P} each = Decides-below_or test P (some_under test) each refl (λ n. or_comm (some_under test n) (test n))

-- each row of a list, and some
pub decides_every : {X : Type 0} {test : X → Bool} {P : X → Type 0} → ((x : X) → Decides (test x) (P x)) → (xs : List X) → Decides (list_all test xs) ((n : ℕ) (x : X) → row_at xs n ≡ Ok x → P x)
decides_every each [] = (λ _ n x e. let z : ◌≡◌ {A = ℕ} 0 1 = cc in absurd (omega arith), λ _. refl)
decides_every {X} {test} {P} each (y ∷ ys) =
    Decides-like (test y && list_all test ys) join part (Decides-and (test y) (list_all test ys) (each y) (decides_every each ys))
  where
    join : P y × ((n : ℕ) (x : X) → row_at ys n ≡ Ok x → P x) → (n : ℕ) (x : X) → row_at (y ∷ ys) n ≡ Ok x → P x
    join h zero x e = let q : y ≡ x = cc in subst P q h.0
    join h (suc n) x e = h.1 n x e

    part : ((n : ℕ) (x : X) → row_at (y ∷ ys) n ≡ Ok x → P x) → P y × ((n : ℕ) (x : X) → row_at ys n ≡ Ok x → P x)
    part h = (h 0 y refl, λ n x e. h (suc n) x e)

pub decides_any : {X : Type 0} {test : X → Bool} {P : X → Type 0} → ((x : X) → Decides (test x) (P x)) → (xs : List X) → Decides (list_any test xs) ((n : ℕ) × (x : X) × (row_at xs n ≡ Ok x) × P x)
decides_any each [] = (λ e. absurd (false≢true e), λ h. let q = h.2 in let z : ◌≡◌ {A = ℕ} 0 1 = cc in absurd (omega arith))
decides_any {X} {test} {P} each (y ∷ ys) =
    Decides-like (test y || list_any test ys) join part (Decides-or (test y) (list_any test ys) (each y) (decides_any each ys))
  where
    join : P y ⊎ ((n : ℕ) × (x : X) × (row_at ys n ≡ Ok x) × P x) → (n : ℕ) × (x : X) × (row_at (y ∷ ys) n ≡ Ok x) × P x
    join (inl h) = (0, y, refl, h)
    join (inr (n, x, e, h)) = (suc n, x, e, h)

    part : (n : ℕ) × (x : X) × (row_at (y ∷ ys) n ≡ Ok x) × P x → P y ⊎ ((n : ℕ) × (x : X) × (row_at ys n ≡ Ok x) × P x)
    part (zero, x, e, h) = let q : x ≡ y = cc in inl (subst P q h)
    part (suc n, x, e, h) = inr (n, x, e, h)

-- the least number below a bound that passes, or the bound
pub record Least (test : ℕ → Bool) (n k : ℕ) : Type 0 where
  pub within : k ≤ n
  pub passes : k < n → test k ≡ true
  pub before : (j : ℕ) → j < k → test j ≡ false

pub least_under-least : (test : ℕ → Bool) (n : ℕ) → Least test n (least_under test n)
least_under-least test zero = record { within = omega arith; passes = λ l. absurd (omega arith); before = λ j l. absurd (omega arith) }
least_under-least test (suc n) =
    let h = least_under-least test n in
    cond_both (ltb (least_under test n) n) (least_under test n) (cond (test n) n (suc n)) (Least test (suc n))
    (λ e. let l = ltb-true (least_under test n) n e in record { within = omega arith; passes = λ _. h.passes l; before = h.before })
    (λ e. let l = ltb-false (least_under test n) n e in
    cond_both (test n) n (suc n) (Least test (suc n))
    (λ t. record { within = omega arith; passes = λ _. t; before = λ j i. h.before j (omega arith) })
    (λ f. record {
      within = omega arith;
      passes = λ i. absurd (omega arith);
      before = λ j i. ⊎_elim (λ q. ap test q ∙ f) (λ q. h.before j (omega (arith, h.within))) (cases_eq j n);
    }))
