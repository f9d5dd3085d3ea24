-- Each test of review decides its condition, and review names the lowest condition that fails.
use Rattle.std.proofs.Common.{◌≡◌, ℕ, zero, suc, ◌+◌, ◌-◌, ◌*◌, ◌/◌, ◌%◌, ◌<◌, ◌≤◌, Bool, true, false, cond, ◌&&◌, ◌⊎◌, ◌↔◌, List, [], ◌∷◌, length, get_or, Some, None, Ok, Decides, Option, sym, refl, ap, ◌∙◌, subst, ⊎_elim, arith}
use mathlib.Core.Bool.{false≢true}
use Rattle.std.proofs.lemmas.Bool.{cases_eq}
use Rattle.std.proofs.lemmas.Bool.Decides.{Decides-and, Decides-or, Decides-not, Decides-like}
use Rattle.std.specs.List.{list_all}
use Rattle.rows.specs.Rows.{row_at}
use Rattle.kb.specs.declared.axioms.Assertion.{Assertion}
use Rattle.kb.specs.declared.axioms.Assertion.TheVariants.{Is, Joins, Same, Different}
use Rattle.kb.specs.declared.axioms.Key.{Key}
use Rattle.kb.specs.declared.axioms.Key.TheVariants.{Link, Unlisted as UnlistedKey}
use Rattle.kb.specs.declared.axioms.RolePairs.{RolePairs}
use Rattle.kb.specs.declared.lexicon.Entry.{Entry}
use Rattle.kb.specs.declared.lexicon.Entry.TheVariants.{Top, Name, Both as BothEntry, Some as SomeEntry, Unlisted}
use Rattle.kb.specs.declared.names.Concept.{Concept}
use Rattle.kb.specs.declared.names.Individual.{Individual}
use Rattle.kb.specs.declared.names.Role.{Role}
use Rattle.kb.specs.Meanings.{Meaning}
use Rattle.kb.specs.Names.{complement}
use Rattle.kb.specs.Numbers.{pair_list}
use Rattle.calculus.specs.declared.review.Condition.{Condition}
use Rattle.calculus.specs.declared.review.Condition.TheVariants.{NoContradiction, Assertions, BothParts, AllReached, Inclusions, Keys, EitherPart, SomeReached}
use Rattle.calculus.specs.Branches.{Branch, Equal, equal, held}
use Rattle.calculus.specs.Conditions.{NoClash, NoneDifferentAndEqual, AssertionsHeld, BothPartsHeld, AllReachedHeld, InclusionsDecided, ValuesShared, KeysDecided, EitherPartHeld, SomeReachedHeld, ConditionHolds, Conditions, LowestFailing, ConditionsTested, ReviewedExactly}
use Rattle.calculus.specs.Faults.{condition_number}
use Rattle.calculus.specs.Holding.{Held}
use Rattle.calculus.proofs.HeldLaws.{held-from, held-means}
use Rattle.calculus.specs.Review.{concept, individual, all_under, some_under, blocked, unblocked, no_clash, no_different, entries_from, each_entry, share_value, key_kept, condition1, condition2, condition3, condition4, condition5, condition6, condition7, condition8, lowest_failing}
use Rattle.calculus.proofs.DecidingLaws.{decides_all_under, decides_some_under, decides_every, decides_implies, decides_unless}

-- each individual below a bound, and some
pub decides_each_individual : {test : ℕ → Bool} {P : Individual → Type 0} → ((k : ℕ) → Decides (test k) (P (individual k))) → (n : ℕ) → Decides (all_under test n) ((x : Individual) → x.0 < n → P x)
decides_each_individual {test} {P} each n =
    Decides-like (all_under test n) (λ h x lt. h x.0 lt) (λ h k lt. h (individual k) lt) (decides_all_under each n)

pub decides_some_individual : {test : ℕ → Bool} {P : Individual → Type 0} → ((k : ℕ) → Decides (test k) (P (individual k))) → (n : ℕ) → Decides (some_under test n) ((x : Individual) × (x.0 < n) × P x)
decides_some_individual {test} {P} each n =
    Decides-like (some_under test n) (λ (k, lt, p). (individual k, lt, p)) (λ (x, lt, p). (x.0, lt, p)) (decides_some_under each n)

pub decides_some_with : {p q : ℕ → Bool} {P Q : Individual → Type 0} → ((k : ℕ) → Decides (p k) (P (individual k))) → ((k : ℕ) → Decides (q k) (Q (individual k))) → (n : ℕ) → Decides (some_under (λ k. p k && q k) n) ((x : Individual) × (x.0 < n) × P x × Q x)
decides_some_with {p} {q} {P} {Q} first second n =
    Decides-like (some_under (λ k. p k && q k) n)
    (λ (x, lt, (h, i)). (x, lt, h, i))
    (λ (x, lt, h, i). (x, lt, (h, i)))
    (decides_some_individual {P = λ x. P x × Q x} (λ k. Decides-and (p k) (q k) (first k) (second k)) n)

-- a test of entries that asks something of BOTH entries only, and one that asks something of SOME entries only
pub record BothOnly (test : Entry → Bool) : Type 0 where
  pub top : test Top ≡ true
  pub name : test Name ≡ true
  pub some : (r : Role) (d : Concept) → test (SomeEntry r d) ≡ true
  pub unlisted : (kind : ℕ) → test (Unlisted kind) ≡ true

pub record SomeOnly (test : Entry → Bool) : Type 0 where
  pub top : test Top ≡ true
  pub name : test Name ≡ true
  pub both : (d e : Concept) → test (BothEntry d e) ≡ true
  pub unlisted : (kind : ℕ) → test (Unlisted kind) ≡ true

decides_both : {test : Entry → Bool} {P : Concept → Concept → Type 0} → BothOnly test → ((d e : Concept) → Decides (test (BothEntry d e)) (P d e)) → (entry : Entry) → Decides (test entry) ((d e : Concept) → entry ≡ BothEntry d e → P d e)
decides_both {test} {P} only each entry = (λ t d e q. (each d e).0 (ap test (sym q) ∙ t), from entry)
  where
    from : (entry : Entry) → ((d e : Concept) → entry ≡ BothEntry d e → P d e) → test entry ≡ true
    from Top h = only.top
    from Name h = only.name
    from (BothEntry d e) h = (each d e).1 (h d e refl)
    from (SomeEntry r d) h = only.some r d
    from (Unlisted kind) h = only.unlisted kind

decides_some : {test : Entry → Bool} {P : Role → Concept → Type 0} → SomeOnly test → ((r : Role) (d : Concept) → Decides (test (SomeEntry r d)) (P r d)) → (entry : Entry) → Decides (test entry) ((r : Role) (d : Concept) → entry ≡ SomeEntry r d → P r d)
decides_some {test} {P} only each entry = (λ t r d q. (each r d).0 (ap test (sym q) ∙ t), from entry)
  where
    from : (entry : Entry) → ((r : Role) (d : Concept) → entry ≡ SomeEntry r d → P r d) → test entry ≡ true
    from Top h = only.top
    from Name h = only.name
    from (BothEntry d e) h = only.both d e
    from (SomeEntry r d) h = (each r d).1 (h r d refl)
    from (Unlisted kind) h = only.unlisted kind

module _ (m : Meaning) (b : Branch) where
  -- each individual of the sheet that is not blocked
  pub decides_unblocked : {test : ℕ → Bool} {P : Individual → Type 0} → ((k : ℕ) → Decides (test k) (P (individual k))) → Decides (unblocked m b test) ((x : Individual) → x.0 < b.individuals → blocked m b x.0 ≡ false → P x)
  decides_unblocked {test} each = decides_each_individual (λ x. decides_unless (blocked m b x) (test x) (each x)) b.individuals

  -- each entry of a lexicon, counted from k
  decides_entries_from : {test : ℕ → Entry → Bool} {P : ℕ → Entry → Type 0} → ((k : ℕ) (e : Entry) → Decides (test k e) (P k e)) → (k : ℕ) (es : List Entry) → Decides (entries_from m b test k es) ((n : ℕ) (e : Entry) → row_at es n ≡ Ok e → P (k + n) e)
  decides_entries_from each k [] = (λ _ n e h. let z : ◌≡◌ {A = ℕ} 0 1 = cc in absurd (omega arith), λ _. refl)
  decides_entries_from {test} {P} each k (e ∷ es) =
      Decides-like (test k e && entries_from m b test (suc k) es) join part (Decides-and (test k e) (entries_from m b test (suc k) es) (each k e) (decides_entries_from each (suc k) es))
    where
      join : P k e × ((n : ℕ) (x : Entry) → row_at es n ≡ Ok x → P (suc k + n) x) → (n : ℕ) (x : Entry) → row_at (e ∷ es) n ≡ Ok x → P (k + n) x
      join h zero x q =
          let same : e ≡ x = cc in
          let here : k ≡ k + zero = omega arith in
          subst (λ (j : ℕ). P j x) here (subst (P k) same h.0)
      join h (suc n) x q = let next : suc k + n ≡ k + suc n = omega arith in subst (λ (j : ℕ). P j x) next (h.1 n x q)

      part : ((n : ℕ) (x : Entry) → row_at (e ∷ es) n ≡ Ok x → P (k + n) x) → P k e × ((n : ℕ) (x : Entry) → row_at es n ≡ Ok x → P (suc k + n) x)
      part h =
          let here : k + zero ≡ k = omega arith in
          (subst (λ (j : ℕ). P j e) here (h 0 e refl), λ n x q. let next : k + suc n ≡ suc k + n = omega arith in subst (λ (j : ℕ). P j x) next (h (suc n) x q))

  -- each entry of the base, at each individual that is not blocked
  pub decides_each_entry : {test : ℕ → ℕ → Entry → Bool} {P : ℕ → Individual → Entry → Type 0} → ((k x : ℕ) (e : Entry) → Decides (test k x e) (P k (individual x) e)) → Decides (each_entry m b test) ((x : Individual) → x.0 < b.individuals → blocked m b x.0 ≡ false → (k : ℕ) (e : Entry) → row_at m.entries k ≡ Ok e → P k x e)
  decides_each_entry {test} {P} each =
      decides_unblocked (λ x.
      Decides-like (entries_from m b (λ k e. test k x e) 0 m.entries)
      (λ h n e q. let from_zero : 0 + n ≡ n = omega arith in subst (λ (k : ℕ). P k (individual x) e) from_zero (h n e q))
      (λ h n e q. let from_zero : n ≡ 0 + n = omega arith in subst (λ (k : ℕ). P k (individual x) e) from_zero (h n e q))
      (decides_entries_from (λ k e. each k x e) 0 m.entries))

  -- each BOTH entry, and each SOME entry
  pub decides_both_entries : {test : ℕ → ℕ → Entry → Bool} {P : ℕ → Concept → Concept → Individual → Type 0} → ((k x : ℕ) → BothOnly (test k x)) → ((k x : ℕ) (d e : Concept) → Decides (test k x (BothEntry d e)) (P k d e (individual x)))
      → Decides (each_entry m b test) ((k : ℕ) (d e : Concept) (x : Individual) → row_at m.entries k ≡ Ok (BothEntry d e) → x.0 < b.individuals → blocked m b x.0 ≡ false → P k d e x)
  decides_both_entries {test} {P} only each =
      Decides-like (each_entry m b test)
      (λ h k d e x q lt f. h x lt f k (BothEntry d e) q d e refl)
      (λ h x lt f k entry q d e same. h k d e x (q ∙ ap Ok same) lt f)
      (decides_each_entry {P = λ k x entry. (d e : Concept) → entry ≡ BothEntry d e → P k d e x} (λ k x. decides_both (only k x) (each k x)))

  pub decides_some_entries : {test : ℕ → ℕ → Entry → Bool} {P : ℕ → Role → Concept → Individual → Type 0} → ((k x : ℕ) → SomeOnly (test k x)) → ((k x : ℕ) (r : Role) (d : Concept) → Decides (test k x (SomeEntry r d)) (P k r d (individual x)))
      → Decides (each_entry m b test) ((k : ℕ) (r : Role) (d : Concept) (x : Individual) → row_at m.entries k ≡ Ok (SomeEntry r d) → x.0 < b.individuals → blocked m b x.0 ≡ false → P k r d x)
  decides_some_entries {test} {P} only each =
      Decides-like (each_entry m b test)
      (λ h k r d x q lt f. h x lt f k (SomeEntry r d) q r d refl)
      (λ h x lt f k entry q r d same. h k r d x (q ∙ ap Ok same) lt f)
      (decides_each_entry {P = λ k x entry. (r : Role) (d : Concept) → entry ≡ SomeEntry r d → P k r d x} (λ k x. decides_some (only k x) (each k x)))

-- a condition is known by its number, which is 1 to 8
condition_at : ℕ → Condition
condition_at n = get_or (NoContradiction ∷ Assertions ∷ BothParts ∷ AllReached ∷ Inclusions ∷ Keys ∷ EitherPart ∷ SomeReached ∷ []) (n - 1) SomeReached

condition_at-number : (k : Condition) → condition_at (condition_number k) ≡ k
unfolding condition_at
condition_at-number NoContradiction = refl
condition_at-number Assertions = refl
condition_at-number BothParts = refl
condition_at-number AllReached = refl
condition_at-number Inclusions = refl
condition_at-number Keys = refl
condition_at-number EitherPart = refl
condition_at-number SomeReached = refl

pub condition_number_injective : (j k : Condition) → condition_number j ≡ condition_number k → j ≡ k
condition_number_injective j k e = sym (condition_at-number j) ∙ ap condition_at e ∙ condition_at-number k

pub condition_number-range : (k : Condition) → (1 ≤ condition_number k) × (condition_number k ≤ 8)
condition_number-range NoContradiction = (omega arith, omega arith)
condition_number-range Assertions = (omega arith, omega arith)
condition_number-range BothParts = (omega arith, omega arith)
condition_number-range AllReached = (omega arith, omega arith)
condition_number-range Inclusions = (omega arith, omega arith)
condition_number-range Keys = (omega arith, omega arith)
condition_number-range EitherPart = (omega arith, omega arith)
condition_number-range SomeReached = (omega arith, omega arith)

-- what the lowest failing of the conditions from number n on is
pub record Lowest (C : Condition → Type 0) (n : ℕ) (o : Option Condition) : Type 0 where
  pub none : (o ≡ None) ↔ ((j : Condition) → n ≤ condition_number j → C j)
  pub some : (k : Condition) → (o ≡ Some k) ↔ ((n ≤ condition_number k) × (C k → ⊥) × ((j : Condition) → n ≤ condition_number j → condition_number j < condition_number k → C j))

lowest-none : (C : Condition → Type 0) → Lowest C 9 None
lowest-none C =
    record {
      none = (λ e j lo. absurd (omega (arith, condition_number-range j)), λ h. refl);
      some = λ k. (λ e. let z : ◌≡◌ {A = ℕ} 0 1 = cc in absurd (omega arith), λ (lo, fails, lower). absurd (omega (arith, condition_number-range k)));
    }

-- one condition more, tested before the others
lowest-more : (C : Condition → Type 0) (k : Condition) (t : Bool) (rest : Option Condition) → Decides t (C k) → Lowest C (suc (condition_number k)) rest → Lowest C (condition_number k) (cond t rest (Some k))
lowest-more C k true rest d r =
    let here : (j : Condition) → condition_number k ≤ condition_number j → (suc (condition_number k) ≤ condition_number j → C j) → C j = λ j lo next.
    ⊎_elim (λ q. subst C (sym (condition_number_injective j k q)) (d.0 refl)) (λ ne. next (omega arith)) (cases_eq (condition_number j) (condition_number k)) in
    record {
      none = (λ e j lo. here j lo (λ more. r.none.0 e j more), λ h. r.none.1 (λ j lo. h j (omega arith)));
      some = λ n. (
        λ e. let (lo, fails, lower) = (r.some n).0 e in (omega arith, fails, λ j from lt. here j from (λ more. lower j more lt)),
        λ (lo, fails, lower).
            let more : suc (condition_number k) ≤ condition_number n = ⊎_elim (λ q. absurd (fails (subst C (sym (condition_number_injective n k q)) (d.0 refl)))) (λ ne. omega arith) (cases_eq (condition_number n) (condition_number k)) in
            (r.some n).1 (more, fails, λ j from lt. lower j (omega arith) lt),
      );
    }
lowest-more C k false rest d r =
    let fails-here : C k → ⊥ = λ h. false≢true (d.1 h) in
    record {
      none = (λ e. let z : ◌≡◌ {A = ℕ} 0 1 = cc in absurd (omega arith), λ h. absurd (fails-here (h k (omega arith))));
      some = λ n. (
        λ e. let q : k ≡ n = cc in subst (λ (i : Condition). (condition_number k ≤ condition_number i) × (C i → ⊥) × ((j : Condition) → condition_number k ≤ condition_number j → condition_number j < condition_number i → C j)) q (omega arith, fails-here, λ j from lt. absurd (omega arith)),
        λ (lo, fails, lower). ⊎_elim (λ q. ap Some (condition_number_injective k n q)) (λ ne. absurd (fails-here (lower k (omega arith) (omega arith)))) (cases_eq (condition_number k) (condition_number n)),
      );
    }

-- the eight conditions, each on its own
pub conditions_each : (m : Meaning) (b : Branch) → Conditions m b → (k : Condition) → ConditionHolds m b k
conditions_each m b h NoContradiction = (h.clash_free, h.none_different_and_equal)
conditions_each m b h Assertions = h.assertions_held
conditions_each m b h BothParts = h.both_parts_held
conditions_each m b h AllReached = h.all_reached_held
conditions_each m b h Inclusions = h.inclusions_decided
conditions_each m b h Keys = h.keys_decided
conditions_each m b h EitherPart = h.either_part_held
conditions_each m b h SomeReached = h.some_reached_held

pub conditions_from : (m : Meaning) (b : Branch) → ((k : Condition) → ConditionHolds m b k) → Conditions m b
conditions_from m b h =
    record {
      clash_free = (h NoContradiction).0;
      none_different_and_equal = (h NoContradiction).1;
      assertions_held = h Assertions;
      both_parts_held = h BothParts;
      all_reached_held = h AllReached;
      inclusions_decided = h Inclusions;
      keys_decided = h Keys;
      either_part_held = h EitherPart;
      some_reached_held = h SomeReached;
    }

module _ (m : Meaning) (b : Branch) where
  pub decides_held : (a : Assertion) → Decides (held m b a) (Held m b a)
  decides_held a = (held-means m b a, held-from m b a)

  decides_is : (c : Concept) (x : ℕ) → Decides (held m b (Is c (individual x))) (Held m b (Is c (individual x)))
  decides_is c x = decides_held (Is c (individual x))

  decides_joins : (r : Role) (x y : ℕ) → Decides (held m b (Joins r (individual x) (individual y))) (Held m b (Joins r (individual x) (individual y)))
  decides_joins r x y = decides_held (Joins r (individual x) (individual y))

  decides_equal : (x y : ℕ) → Decides (equal b.pairs (individual x) (individual y)) (Equal b.pairs (individual x) (individual y))
  decides_equal x y = decides_held (Same (individual x) (individual y))

  pub condition2_exact : Decides (condition2 m b) (AssertionsHeld m b)
  condition2_exact = decides_every decides_held m.assertions

  pub condition3_exact : Decides (condition3 m b) (BothPartsHeld m b)
  condition3_exact =
      decides_both_entries m b (λ k x. record { top = refl; name = refl; some = λ r d. refl; unlisted = λ kind. refl })
      (λ k x d e. decides_implies _ _ (decides_is (concept (2 * k)) x) (Decides-and _ _ (decides_is d x) (decides_is e x)))

  pub condition4_exact : Decides (condition4 m b) (AllReachedHeld m b)
  condition4_exact =
      decides_some_entries m b (λ k x. record { top = refl; name = refl; both = λ d e. refl; unlisted = λ kind. refl })
      (λ k x r d. decides_implies _ _ (decides_is (concept (2 * k + 1)) x) (decides_each_individual (λ y. decides_implies _ _ (decides_joins r x y) (decides_is (complement d) y)) b.individuals))

  pub condition7_exact : Decides (condition7 m b) (EitherPartHeld m b)
  condition7_exact =
      decides_both_entries m b (λ k x. record { top = refl; name = refl; some = λ r d. refl; unlisted = λ kind. refl })
      (λ k x d e. decides_implies _ _ (decides_is (concept (2 * k + 1)) x) (Decides-or _ _ (decides_is (complement d) x) (decides_is (complement e) x)))

  pub condition8_exact : Decides (condition8 m b) (SomeReachedHeld m b)
  condition8_exact =
      decides_some_entries m b (λ k x. record { top = refl; name = refl; both = λ d e. refl; unlisted = λ kind. refl })
      (λ k x r d. decides_implies _ _ (decides_is (concept (2 * k)) x) (decides_some_with (λ y. decides_joins r x y) (λ y. decides_is d y) b.individuals))

  pub condition5_exact : Decides (condition5 m b) (InclusionsDecided m b)
  condition5_exact =
      Decides-like (condition5 m b) (λ h n i x q. h n i q x) (λ h n i q x. h n i x q)
      (decides_every (λ i. decides_unblocked m b (λ x. Decides-or _ _ (decides_is (complement i.sub) x) (decides_is i.sup x))) m.inclusions)

  -- what a key asks of two individuals
  abbrev KeyDecided : Concept → Concept → RolePairs → Individual → Individual → Type 0
  KeyDecided c d pairs x y = ValuesShared m b pairs x y → Held m b (Is (complement c) x) ⊎ (Held m b (Is (complement d) y) ⊎ Equal b.pairs x y)

  decides_values_shared : (pairs : RolePairs) (x y : ℕ) → Decides (list_all (share_value m b x y) (pair_list pairs)) (ValuesShared m b pairs (individual x) (individual y))
  decides_values_shared pairs x y = decides_every (λ p. decides_some_with (λ z. decides_joins p.left x z) (λ z. decides_joins p.right y z) b.individuals) (pair_list pairs)

  decides_link : (c d : Concept) (pairs : RolePairs) (x y : ℕ) → Decides (key_kept m b (Link c d pairs) x y) (KeyDecided c d pairs (individual x) (individual y))
  decides_link c d pairs x y =
      decides_implies _ _ (decides_values_shared pairs x y) (Decides-or _ _ (decides_is (complement c) x) (Decides-or _ _ (decides_is (complement d) y) (decides_equal x y)))

  decides_key : (key : Key) (x y : ℕ) → Decides (key_kept m b key x y) ((c d : Concept) (pairs : RolePairs) → key ≡ Link c d pairs → KeyDecided c d pairs (individual x) (individual y))
  decides_key key x y = (λ t c d pairs q. (decides_link c d pairs x y).0 (ap (λ (k : Key). key_kept m b k x y) (sym q) ∙ t), from key)
    where
      from : (key : Key) → ((c d : Concept) (pairs : RolePairs) → key ≡ Link c d pairs → KeyDecided c d pairs (individual x) (individual y)) → key_kept m b key x y ≡ true
      from (Link c d pairs) h = (decides_link c d pairs x y).1 (h c d pairs refl)
      from (UnlistedKey count) h = refl

  decides_keys : Decides (condition6 m b) ((n : ℕ) (key : Key) → row_at m.keys n ≡ Ok key → (x : Individual) → x.0 < m.individuals → (y : Individual) → y.0 < m.individuals → (c d : Concept) (pairs : RolePairs) → key ≡ Link c d pairs → KeyDecided c d pairs x y)
  decides_keys = decides_every (λ key. decides_each_individual (λ x. decides_each_individual (decides_key key x) m.individuals) m.individuals) m.keys

  pub condition6_exact : Decides (condition6 m b) (KeysDecided m b)
  condition6_exact =
      Decides-like (condition6 m b)
      (λ h n c d pairs x y q lx ly. h n (Link c d pairs) q x lx y ly c d pairs refl)
      (λ h n key q x lx y ly c d pairs same. h n c d pairs x y (q ∙ ap Ok same) lx ly)
      decides_keys

  -- the two concepts of an entry
  EntryClear : Type 0
  EntryClear = (k : ℕ) → k < length m.entries → (x : Individual) → x.0 < b.individuals → Held m b (Is (concept (2 * k)) x) × Held m b (Is (concept (2 * k + 1)) x) → ⊥

  decides_entry_clear : Decides (no_clash m b) EntryClear
  unfolding EntryClear
  decides_entry_clear =
      decides_all_under (λ k. decides_each_individual (λ x. Decides-not _ (Decides-and _ _ (decides_is (concept (2 * k)) x) (decides_is (concept (2 * k + 1)) x))) b.individuals) (length m.entries)

  held_at : (c d : Concept) (x : Individual) → c.0 ≡ d.0 → Held m b (Is c x) → Held m b (Is d x)
  held_at c d x e h = subst (λ (k : ℕ). Held m b (Is (concept k) x)) e h

  clash_free : EntryClear → NoClash m b
  unfolding EntryClear
  clash_free clear c x lt lx h i =
      let k = c.0 / 2 in
      ⊎_elim
      (λ even. clear k (omega arith) x lx (held_at c (concept (2 * k)) x (omega arith) h, held_at (complement c) (concept (2 * k + 1)) x (omega arith) i))
      (λ odd. clear k (omega arith) x lx (held_at (complement c) (concept (2 * k)) x (omega arith) i, held_at c (concept (2 * k + 1)) x (omega arith) h))
      (cases_eq (c.0 % 2) 0)

  entry_clear : NoClash m b → EntryClear
  unfolding EntryClear
  entry_clear none k lt x lx (h, i) = none (concept (2 * k)) x (omega arith) lx h (held_at (concept (2 * k + 1)) (complement (concept (2 * k))) x (omega arith) i)

  decides_different : Decides (no_different m b) ((x : Individual) → x.0 < b.individuals → (y : Individual) → y.0 < b.individuals → Held m b (Different x y) × Equal b.pairs x y → ⊥)
  decides_different =
      decides_each_individual (λ x. decides_each_individual (λ y. Decides-not _ (Decides-and _ _ (decides_held (Different (individual x) (individual y))) (decides_equal x y))) b.individuals) b.individuals

  pub condition1_exact : Decides (condition1 m b) (NoClash m b × NoneDifferentAndEqual m b)
  condition1_exact =
      Decides-and (no_clash m b) (no_different m b)
      (Decides-like (no_clash m b) clash_free entry_clear decides_entry_clear)
      (Decides-like (no_different m b) (λ h x y lx ly d e. h x lx y ly (d, e)) (λ h x lx y ly (d, e). h x y lx ly d e) decides_different)

  pub lowest_failing-lowest : Lowest (ConditionHolds m b) 1 (lowest_failing m b)
  lowest_failing-lowest =
      let C = ConditionHolds m b in
      lowest-more C NoContradiction (condition1 m b) _ condition1_exact
      (lowest-more C Assertions (condition2 m b) _ condition2_exact
      (lowest-more C BothParts (condition3 m b) _ condition3_exact
      (lowest-more C AllReached (condition4 m b) _ condition4_exact
      (lowest-more C Inclusions (condition5 m b) _ condition5_exact
      (lowest-more C Keys (condition6 m b) _ condition6_exact
      (lowest-more C EitherPart (condition7 m b) _ condition7_exact
      (lowest-more C SomeReached (condition8 m b) _ condition8_exact
      (lowest-none C))))))))

  pub lowest_failing-none : (lowest_failing m b ≡ None) ↔ Conditions m b
  lowest_failing-none =
      (λ e. conditions_from m b (λ k. lowest_failing-lowest.none.0 e k (condition_number-range k).0), λ h. lowest_failing-lowest.none.1 (λ k lo. conditions_each m b h k))

  pub lowest_failing-some : (k : Condition) → (lowest_failing m b ≡ Some k) ↔ LowestFailing m b k
  lowest_failing-some k = (
    λ e. let (lo, fails, lower) = (lowest_failing-lowest.some k).0 e in record { fails = fails; lower_hold = λ j lt. lower j (condition_number-range j).0 lt },
    λ h. (lowest_failing-lowest.some k).1 ((condition_number-range k).0, h.fails, λ j lo lt. h.lower_hold j lt),
  )

  pub conditions_tested : ConditionsTested m b
  conditions_tested =
      record {
        first = condition1_exact;
        second = condition2_exact;
        third = condition3_exact;
        fourth = condition4_exact;
        fifth = condition5_exact;
        sixth = condition6_exact;
        seventh = condition7_exact;
        eighth = condition8_exact;
        none_failing = lowest_failing-none;
        lowest_fails = lowest_failing-some;
      }

pub reviewed-exactly : ReviewedExactly
reviewed-exactly = conditions_tested
