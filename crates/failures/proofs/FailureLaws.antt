-- The first failure is of the lowest condition that fails, and it is the first place at which a condition fails.
use Rattle.std.proofs.Common.{◌≡◌, ℕ, suc, ◌≤◌, Bool, true, false, cond, eqb, ◌⊎◌, List, [], ◌∷◌, get_or, Some, None, Option, sym, refl, ap, ◌∙◌, inl, inr, ⊎_elim, arith}
use Rattle.std.specs.Option.{option_map}
use Rattle.std.proofs.lemmas.Bool.{and_from, and_parts, false≢true}
use Rattle.kb.specs.First.{or_else}
use Rattle.kb.specs.Meanings.{Meaning}
use Rattle.calculus.specs.declared.review.Condition.{Condition}
use Rattle.calculus.specs.declared.review.Condition.TheVariants.{NoContradiction, Assertions, BothParts as BothPartsCondition, AllReached as AllReachedCondition, Inclusions, Keys, EitherPart as EitherPartCondition, SomeReached as SomeReachedCondition}
use Rattle.calculus.specs.Branches.{Branch}
use Rattle.calculus.specs.Faults.{condition_number}
use Rattle.calculus.specs.Review.{concept, individual, condition1, condition2, condition3, condition4, condition5, condition6, condition7, condition8, lowest_failing, no_clash, no_different}
use Rattle.calculus.proofs.ConditionLaws.{condition_number_injective, lowest_failing-none, lowest_failing-some}
use Rattle.failures.specs.declared.failure.EntryCondition.TheVariants.{BothParts, AllReached, EitherPart, SomeReached}
use Rattle.failures.specs.declared.failure.Failure.{Failure}
use Rattle.failures.specs.declared.failure.Failure.TheVariants.{Clash, Apart, Assertion, Both, All, Inclusion, Key, Either, Some as SomeFailure}
use Rattle.failures.specs.Failures.{condition_of, first_apart, first_assertion, first_clash, first_contradiction, first_failure, first_inclusion, first_key, first_of_entries}
use Rattle.failures.specs.Places.{FailsAt, FailsFirst, FirstFailure, failure_numbers}
use Rattle.failures.proofs.Finding.{Finds, before_total, finds-both, finds-front, finds_like, finds_or_else}
use Rattle.failures.proofs.PlaceLaws.{AllFound, ApartFound, AssertionFound, BothFound, ClashFound, EitherFound, InclusionFound, KeyFound, SomeFound, finds_all_reached, finds_apart, finds_assertion, finds-both-parts, finds_clash, finds-either-part, finds_inclusion, finds_key, finds-some-reached}
use Rattle.failures.proofs.WordLaws.{all_fails, apart_fails, assertion_fails, both-fails, clash_fails, either-fails, fails_all, fails_apart, fails_assertion, fails_both, fails_clash, fails-either, fails_inclusion, fails_key, fails-some, inclusion_fails, key_fails, some-fails}

-- what is found under condition k, as the test of that condition tells it
told : (k : Condition) (t : Bool) (o : Option Failure) {S : Failure → Type 0} → Finds failure_numbers (condition_number k ∷ []) (t ≡ true) S o → option_map condition_of o ≡ cond t None (Some k)
told k true None h = refl
told k true (Some f) h = absurd (h.clear refl f (h.some f refl).0)
told k false None h = absurd (false≢true (h.none refl))
told k false (Some f) h = ap Some (condition_number_injective (condition_of f) k (h.begins f (h.some f refl).0).0)

-- what is found under condition k, or else under those after it
told-next : (k : Condition) (t : Bool) (o rest : Option Failure) (lowest : Option Condition) {S : Failure → Type 0} → Finds failure_numbers (condition_number k ∷ []) (t ≡ true) S o → option_map condition_of rest ≡ lowest → option_map condition_of (or_else o rest) ≡ cond t lowest (Some k)
told-next k true None rest lowest h e = e
told-next k true (Some f) rest lowest h e = absurd (h.clear refl f (h.some f refl).0)
told-next k false None rest lowest h e = absurd (false≢true (h.none refl))
told-next k false (Some f) rest lowest h e = ap Some (condition_number_injective (condition_of f) k (h.begins f (h.some f refl).0).0)

-- a failure is known by its numbers
failure_of : List ℕ → Failure
failure_of ns =
    let n = get_or ns 0 0 in
    let a = get_or ns 1 0 in
    let x = get_or ns 2 0 in
    let y = get_or ns 3 0 in
    cond (eqb n 1) (cond (eqb a 0) (Clash (concept x) (individual y)) (Apart (individual x) (individual y)))
    (cond (eqb n 2) (Assertion a)
    (cond (eqb n 3) (Both (concept a) (individual x))
    (cond (eqb n 4) (All (concept a) (individual x) (individual y))
    (cond (eqb n 5) (Inclusion a (individual x))
    (cond (eqb n 6) (Key a (individual x) (individual y))
    (cond (eqb n 7) (Either (concept a) (individual x))
    (SomeFailure (concept a) (individual x))))))))

failure_of-numbers : (f : Failure) → failure_of (failure_numbers f) ≡ f
unfolding failure_of
failure_of-numbers (Clash c x) = refl
failure_of-numbers (Apart x y) = refl
failure_of-numbers (Assertion n) = refl
failure_of-numbers (Both c x) = refl
failure_of-numbers (All c x y) = refl
failure_of-numbers (Inclusion n x) = refl
failure_of-numbers (Key n x y) = refl
failure_of-numbers (Either c x) = refl
failure_of-numbers (SomeFailure c x) = refl

failure_numbers_injective : (f g : Failure) → failure_numbers f ≡ failure_numbers g → f ≡ g
failure_numbers_injective f g e = sym (failure_of-numbers f) ∙ ap failure_of e ∙ failure_of-numbers g

-- what is found under conditions from number k on
pub record FindsFrom (k : ℕ) (C : Type 0) (S : Failure → Type 0) (o : Option Failure) : Type 0 where
  pub finds : Finds failure_numbers [] C S o
  pub from : (f : Failure) → S f → k ≤ condition_number (condition_of f)

finds_last : (k : ℕ) (o : Option Failure) {C : Type 0} {S : Failure → Type 0} → Finds failure_numbers (k ∷ []) C S o → FindsFrom k C S o
finds_last k o h = record { finds = finds-front failure_numbers [] (k ∷ []) h; from = λ f s. omega (arith, (h.begins f s).0) }

finds-next : (k : ℕ) (o rest : Option Failure) {C D : Type 0} {S T : Failure → Type 0} → Finds failure_numbers (k ∷ []) C S o → FindsFrom (suc k) D T rest → FindsFrom k (C × D) (λ f. S f ⊎ T f) (or_else o rest)
finds-next k o rest {S = S} {T = T} h next =
    record {
      finds = finds_or_else failure_numbers o rest
          (λ f g s t l. let e = (h.begins f s).0 in let le = next.from g t in ⊎_elim (λ i. absurd (omega arith)) (λ (q, _). absurd (omega arith)) l)
          (finds-front failure_numbers [] (k ∷ []) h) next.finds;
      from = λ f s. ⊎_elim (λ p. omega (arith, (h.begins f p).0)) (λ q. omega (arith, next.from f q)) s;
    }

mapped_none : {X Y : Type 0} (f : X → Y) (o : Option X) → option_map f o ≡ None → o ≡ None
mapped_none f None e = refl
mapped_none f (Some x) e = let z : ◌≡◌ {A = ℕ} 0 1 = cc in absurd (omega arith)

module _ (m : Meaning) (b : Branch) where
  finds_contradiction : Finds failure_numbers (1 ∷ []) (condition1 m b ≡ true) (λ f. ClashFound m b f ⊎ ApartFound m b f) (first_contradiction m b)
  finds_contradiction =
      finds_like failure_numbers (λ (h, i). and_from (no_clash m b) (no_different m b) h i) (λ h. and_parts (no_clash m b) (no_different m b) h) (λ f s. s) (λ f s. s)
      (finds-both failure_numbers (1 ∷ []) 0 1 (first_clash m b) (first_apart m b) (omega arith) (finds_clash m b) (finds_apart m b))

  pub first_of_lowest : option_map condition_of (first_failure m b) ≡ lowest_failing m b
  first_of_lowest =
      told-next NoContradiction (condition1 m b) (first_contradiction m b) _ _ finds_contradiction
      (told-next Assertions (condition2 m b) (first_assertion m b) _ _ (finds_assertion m b)
      (told-next BothPartsCondition (condition3 m b) (first_of_entries m b BothParts) _ _ (finds-both-parts m b)
      (told-next AllReachedCondition (condition4 m b) (first_of_entries m b AllReached) _ _ (finds_all_reached m b)
      (told-next Inclusions (condition5 m b) (first_inclusion m b) _ _ (finds_inclusion m b)
      (told-next Keys (condition6 m b) (first_key m b) _ _ (finds_key m b)
      (told-next EitherPartCondition (condition7 m b) (first_of_entries m b EitherPart) _ _ (finds-either-part m b)
      (told SomeReachedCondition (condition8 m b) (first_of_entries m b SomeReached) (finds-some-reached m b))))))))

  -- a place found under one of the eight conditions
  abbrev Found : Failure → Type 0
  Found f =
      (ClashFound m b f ⊎ ApartFound m b f) ⊎ (AssertionFound m b f ⊎ (BothFound m b f ⊎ (AllFound m b f
      ⊎ (InclusionFound m b f ⊎ (KeyFound m b f ⊎ (EitherFound m b f ⊎ SomeFound m b f))))))

  abbrev AllTested : Type 0
  AllTested =
      (condition1 m b ≡ true) × ((condition2 m b ≡ true) × ((condition3 m b ≡ true) × ((condition4 m b ≡ true)
      × ((condition5 m b ≡ true) × ((condition6 m b ≡ true) × ((condition7 m b ≡ true) × (condition8 m b ≡ true)))))))

  finds_failure : FindsFrom 1 AllTested Found (first_failure m b)
  finds_failure =
      finds-next 1 (first_contradiction m b) _ finds_contradiction
      (finds-next 2 (first_assertion m b) _ (finds_assertion m b)
      (finds-next 3 (first_of_entries m b BothParts) _ (finds-both-parts m b)
      (finds-next 4 (first_of_entries m b AllReached) _ (finds_all_reached m b)
      (finds-next 5 (first_inclusion m b) _ (finds_inclusion m b)
      (finds-next 6 (first_key m b) _ (finds_key m b)
      (finds-next 7 (first_of_entries m b EitherPart) _ (finds-either-part m b)
      (finds_last 8 (first_of_entries m b SomeReached) (finds-some-reached m b))))))))

  found-fails : (f : Failure) → Found f → FailsAt m b f
  found-fails f =
      ⊎_elim (⊎_elim (clash_fails m b f) (apart_fails m b f))
      (⊎_elim (assertion_fails m b f)
      (⊎_elim (both-fails m b f)
      (⊎_elim (all_fails m b f)
      (⊎_elim (inclusion_fails m b f)
      (⊎_elim (key_fails m b f)
      (⊎_elim (either-fails m b f) (some-fails m b f)))))))

  fails-found : (f : Failure) → FailsAt m b f → Found f
  fails-found (Clash c x) h = inl (inl (fails_clash m b c x h))
  fails-found (Apart x y) h = inl (inr (fails_apart m b x y h))
  fails-found (Assertion n) h = inr (inl (fails_assertion m b n h))
  fails-found (Both c x) h = inr (inr (inl (fails_both m b c x h)))
  fails-found (All c x y) h = inr (inr (inr (inl (fails_all m b c x y h))))
  fails-found (Inclusion n x) h = inr (inr (inr (inr (inl (fails_inclusion m b n x h)))))
  fails-found (Key n x y) h = inr (inr (inr (inr (inr (inl (fails_key m b n x y h))))))
  fails-found (Either c x) h = inr (inr (inr (inr (inr (inr (inl (fails-either m b c x h)))))))
  fails-found (SomeFailure c x) h = inr (inr (inr (inr (inr (inr (inr (fails-some m b c x h)))))))

  -- what is found fails first, and what fails first is found
  found_first : (f : Failure) → first_failure m b ≡ Some f → FailsFirst m b f
  found_first f e =
      let (s, least) = finds_failure.finds.some f e in (found-fails f s, λ g h. least g (fails-found g h))

  first_found : (f : Failure) (o : Option Failure) → first_failure m b ≡ o → FailsFirst m b f → first_failure m b ≡ Some f
  first_found f None e (h, _) = absurd (finds_failure.finds.clear (finds_failure.finds.none e) f (fails-found f h))
  first_found f (Some g) e (h, least) =
      let (i, before) = found_first g e in
      ⊎_elim
      (λ q. e ∙ ap Some (sym (failure_numbers_injective f g q)))
      (⊎_elim (λ l. absurd (before f h l)) (λ l. absurd (least g i l)))
      (before_total (failure_numbers f) (failure_numbers g))

  pub first_failure_lem : FirstFailure m b
  first_failure_lem =
      record {
        none = (
          λ e. (lowest_failing-none m b).0 (sym first_of_lowest ∙ ap (option_map condition_of) e),
          λ h. mapped_none condition_of (first_failure m b) (first_of_lowest ∙ (lowest_failing-none m b).1 h),
        );
        first = λ f. (found_first f, first_found f (first_failure m b) refl);
        lowest = λ f e. (lowest_failing-some m b (condition_of f)).0 (sym first_of_lowest ∙ ap (option_map condition_of) e);
      }
