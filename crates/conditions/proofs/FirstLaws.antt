-- What is found first of the numbers below a bound.
use Rattle.std.proofs.Common.{◌≡◌, ℕ, zero, suc, ◌+◌, ◌<◌, true, Some, None, Option, sym, refl, subst, ap, ◌∙◌, ⊎_elim, arith}
use Rattle.std.proofs.lemmas.Bool.{cases_eq}
use Rattle.std.proofs.iter.Yields.{nat_range_steps}
use Rattle.std.proofs.iter.runs.Sources.{range_runs}
use Rattle.std.specs.Fn.{Called}
use Rattle.std.specs.Iterator.Runs.{AllItemsGive, IsFirstToGive, Run, SomeRun}
use Rattle.std.proofs.lemmas.Option.{MatchOption-at_some}
use Rattle.std.specs.declared.ops.Range.{Range}
use Rattle.std.specs.Option.{IsSomeAnd, MatchOption, option_map}
use denote.Param.Members.{Mut}
use Rattle.failures.specs.Failures.{first_under}

module _ {X : Type 0} (find : ℕ → Option X) where
  -- nothing is found below a bound
  abbrev NoneBelow : ℕ → Type 0
  NoneBelow n = (k : ℕ) → k < n → None ≡ find k

  first_under-none : (n : ℕ) → NoneBelow n → None ≡ first_under find n
  first_under-none zero none = refl
  first_under-none (suc n) none = rw (← first_under-none n (λ k l. none k (omega arith))) (none n (omega arith))

  first_under-some : (n k : ℕ) (x : X) → k < n → Some x ≡ find k → NoneBelow k → Some x ≡ first_under find n
  first_under-some zero k x l here none = absurd (omega arith)
  first_under-some (suc n) k x l here none =
      ⊎_elim
      (λ e. rw (← first_under-none n (λ j h. none j (omega arith)), ← e) here)
      (λ ne. rw (← first_under-some n k x (omega arith) here none))
      (cases_eq k n)

  -- where nothing is found at any number, nothing is found
  pub first_under-nothing : (n : ℕ) → ((k : ℕ) → find k ≡ None) → None ≡ first_under find n
  first_under-nothing n none = first_under-none n (λ k l. sym (none k))

-- a run over the numbers from 0 up to n counts up
counts_up : (n : ℕ) (p : Run nat_range_steps) → p.from.start ≡ 0 → p.from.end ≡ n → (k : ℕ) → k < p.len → (k < n) × (p.at k ≡ Some k)
counts_up n p first last k l =
    let up = range_runs p p.seen in (omega (arith, up.0), is_some (p.at k) (up.3 k l ∙ ap Some (omega arith)))
  where
    is_some : (o : Option ℕ) → option_map (λ y. y) o ≡ Some k → o ≡ Some k
    is_some None e = cc
    is_some (Some j) e = e

some_and : {X : Type 0} (o : Option X) (P : X → Type 0) (x : X) → o ≡ Some x → IsSomeAnd o P → P x
some_and o P x e h = subst (λ o. IsSomeAnd o P) e h

-- What `find_map` answers over the numbers from 0 up to n, where the closure finds what `find` does.
module _ {X F : Type 0} (g : Mut F (ℕ × Unit {0}) (Option X)) (f : F) (find : ℕ → Option X)
    (finds : (k : ℕ) (r : Option X) (q : F) → Called g f (k, tt) r q → (q ≡ f) × (r ≡ find k)) where
  keeps : (a : ℕ × Unit {0}) (r : Option X) (q : F) → Called g f a r q → q ≡ f
  keeps a r q c = (finds a.0 r q c).0

  found_in_run :
      (n : ℕ) (p : Run nat_range_steps) (r : Option X) → p.from.start ≡ 0 → p.from.end ≡ n
      → MatchOption r ((p.whole ≡ true) × AllItemsGive p g f None) (λ x. (i : ℕ) × (i < p.len) × (p.len ≡ i + 1) × IsFirstToGive p g f (Some x) None i)
      → r ≡ first_under find n
  found_in_run n p None first last (whole, each) =
      let all : p.len ≡ n = omega (arith, (range_runs p p.seen).1 whole) in
      first_under-none find n (λ k l. (finds k None f (MatchOption-at_some _ _ k (counts_up n p first last k (omega arith)).1 (each keeps k))).1)
  found_in_run n p (Some x) first last (i, below, _, found) =
      let (here, before) = found keeps in
      let (low, at) = counts_up n p first last i below in
      first_under-some find n i x low (finds i (Some x) f (some_and _ _ i at here)).1
      (λ k l. (finds k None f (some_and _ _ k (counts_up n p first last k (omega arith)).1 (before k l))).1)

pub first_under-find_map :
    {X F : Type 0} {g : Mut F (ℕ × Unit {0}) (Option X)} {f : F} {s : Range ℕ} {n : ℕ} {r : Option X} (find : ℕ → Option X)
    → SomeRun nat_range_steps s (λ p. MatchOption r ((p.whole ≡ true) × AllItemsGive p g f None) (λ x. (i : ℕ) × (i < p.len) × (p.len ≡ i + 1) × IsFirstToGive p g f (Some x) None i))
    → s.start ≡ 0 → s.end ≡ n
    → ((k : ℕ) (r : Option X) (q : F) → Called g f (k, tt) r q → (q ≡ f) × (r ≡ find k))
    → r ≡ first_under find n
first_under-find_map {g} {f} {n} {r} find (p, e, answer) first last finds =
    found_in_run g f find finds n p r (ap (λ (s : Range ℕ). s.start) e ∙ first) (ap (λ (s : Range ℕ). s.end) e ∙ last) answer
