-- The first failing number is the least one, and there is none exactly where no number fails.
use Rattle.std.proofs.Common.{◌≡◌, ℕ, zero, suc, ◌<◌, ◌≤◌, Bool, true, false, ◌⊎◌, Some, None, Option, MatchOption, refl, sym, ap, ◌∙◌, inl, inr, ⊎_elim, arith}
use Rattle.std.proofs.lemmas.Bool.{cases_eq, cases_Bool}
use Rattle.kb.specs.First.{first_failing}

module _ (test : ℕ → Bool) where
  -- every number below a bound passes
  abbrev pub Pass : ℕ → Type 0
  Pass n = (k : ℕ) → k < n → test k ≡ true

  -- a number below a bound fails, and every number before it passes
  abbrev pub Fails : ℕ → ℕ → Type 0
  Fails n k = (k < n) × (test k ≡ false) × Pass k

  pass_more : (n : ℕ) → Pass n → test n ≡ true → Pass (suc n)
  pass_more n p t k h = ⊎_elim (λ e. ap test e ∙ t) (λ ne. p k (omega (arith, ne))) (cases_eq k n)

  pub first_failing-none : (n : ℕ) → Pass n → first_failing test n ≡ None
  first_failing-none zero p = refl
  first_failing-none (suc n) p = rw (first_failing-none n (λ k h. p k (omega arith)), p n (omega arith))

  pub first_failing-some : (n k : ℕ) → Fails n k → first_failing test n ≡ Some k
  first_failing-some zero k (h, f, p) = absurd (omega arith)
  first_failing-some (suc n) k (h, f, p) =
      ⊎_elim
      (λ e. rw (first_failing-none n (λ j i. p j (omega (arith, e))), ← e, f))
      (λ ne. rw (first_failing-some n k (omega (arith, ne), f, p)))
      (cases_eq k n)

  -- either every number passes, or one is the first to fail
  pub pass_or_fails : (n : ℕ) → Pass n ⊎ ((k : ℕ) × Fails n k)
  pass_or_fails zero = inl (λ k h. absurd (omega arith))
  pass_or_fails (suc n) =
      ⊎_elim
      (λ p. ⊎_elim (λ t. inl (pass_more n p t)) (λ f. inr (n, (omega arith, f, p))) (cases_Bool (test n)))
      (λ s. inr (s.0, (omega (arith, s.1.0), s.1.1, s.1.2)))
      (pass_or_fails n)

  -- what `find` answers over the numbers below a bound, where it looks for one that fails
  pub first_failing-found : (n : ℕ) (r : Option ℕ) → MatchOption r ((k : ℕ) → 0 ≤ k → k < n → test k ≡ true) (λ i. (0 ≤ i) × (i < n) × (test i ≡ false) × ((k : ℕ) → 0 ≤ k → k < i → test k ≡ true)) → r ≡ first_failing test n
  first_failing-found n None p = sym (first_failing-none n (λ k h. p k (omega arith) h))
  first_failing-found n (Some i) (_, h, f, p) = sym (first_failing-some n i (h, f, λ k l. p k (omega arith) l))
