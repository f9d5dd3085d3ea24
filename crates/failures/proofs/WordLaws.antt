-- The places that are found are those at which a condition fails in words.
use Rattle.std.proofs.Common.{◌≡◌, ℕ, ◌+◌, ◌-◌, ◌*◌, ◌%◌, ◌<◌, Bool, true, false, not, ◌&&◌, ◌||◌, Ok, Decides, sym, refl, ap, ◌∙◌, subst, arith}
use Rattle.std.proofs.lemmas.Bool.{both_ways, or_from, or_parts, true≢false}
use Rattle.std.proofs.lemmas.Bool.Decides.{Decides-and}
use Rattle.std.specs.List.{list_all}
use Rattle.rows.specs.Rows.{row_at}
use Rattle.rows.proofs.RowLaws.{row_at-found}
use Rattle.kb.specs.declared.axioms.Assertion.TheVariants.{Is, Joins, Same, Different}
use Rattle.kb.specs.declared.axioms.Inclusion.{Inclusion as InclusionRow}
use Rattle.kb.specs.declared.axioms.Key.{Key as KeyRow}
use Rattle.kb.specs.declared.axioms.Key.TheVariants.{Link, Unlisted as UnlistedKey}
use Rattle.kb.specs.declared.axioms.RolePairs.{RolePairs}
use Rattle.kb.specs.declared.lexicon.Entry.{Entry}
use Rattle.kb.specs.declared.lexicon.Entry.TheVariants.{Top, Name, Both as BothEntry, Some as SomeEntry, Unlisted}
use Rattle.kb.specs.declared.names.Concept.{Concept}
use Rattle.kb.specs.declared.names.Individual.{Individual}
use Rattle.kb.specs.declared.names.Role.{Role}
use Rattle.kb.specs.Meanings.{Meaning}
use Rattle.kb.specs.Names.{complement}
use Rattle.kb.specs.Numbers.{pair_list}
use Rattle.calculus.specs.Branches.{Branch, Equal, equal, held}
use Rattle.calculus.specs.Conditions.{ValuesShared}
use Rattle.calculus.specs.Holding.{Held}
use Rattle.calculus.specs.Review.{blocked, both_parts, concept, either_part, holds, individual, key_kept, share_value, some_reached, some_under}
use Rattle.calculus.proofs.ConditionLaws.{BothOnly, SomeOnly, decides_held, decides_some_with}
use Rattle.calculus.proofs.DecidingLaws.{decides_every}
use Rattle.failures.specs.declared.failure.Failure.{Failure}
use Rattle.failures.specs.declared.failure.Failure.TheVariants.{Clash, Apart, Assertion, Both, All, Inclusion, Key, Either, Some as SomeFailure}
use Rattle.failures.specs.Places.{FailsAt}
use Rattle.failures.proofs.PlaceLaws.{AllAt, AllFound, ApartFound, AssertionFound, BothFound, ClashFound, EitherFound, InclusionFound, KeyFound, SomeFound, clear, decided_at, not_apart, reached}

-- a test fails exactly where a fact holds
abbrev Refutes : Bool → Type 0 → Type 0
Refutes t P = (t ≡ false → P) × (P → t ≡ false)

refutes : {P : Type 0} (t : Bool) → Decides t P → Refutes t (P → ⊥)
refutes true d = (λ e. absurd (true≢false e), λ h. absurd (h (d.0 refl)))
refutes false d = (λ e p. true≢false (sym (d.1 p)), λ h. refl)

refutes-not : {P : Type 0} (t : Bool) → Decides t P → Refutes (not t) P
refutes-not true d = (λ _. d.0 refl, λ _. refl)
refutes-not false d = (λ e. absurd (true≢false e), λ p. absurd (true≢false (sym (d.1 p))))

refutes-or : {P Q : Type 0} (s t : Bool) → Refutes s P → Refutes t Q → Refutes (s || t) (P × Q)
refutes-or s t r q =
    (λ e. (r.0 (or_parts s t e).0, q.0 (or_parts s t e).1), λ (p, h). or_from s t (r.1 p) (q.1 h))

-- a test that asks something of BOTH entries only fails at one, and likewise for SOME entries
both_only : (test : Entry → Bool) → BothOnly test → (entry : Entry) → test entry ≡ false → (d : Concept) × (e : Concept) × (entry ≡ BothEntry d e)
both_only test only Top f = absurd (both_ways _ f only.top)
both_only test only Name f = absurd (both_ways _ f only.name)
both_only test only (BothEntry d e) f = (d, e, refl)
both_only test only (SomeEntry r d) f = absurd (both_ways _ f (only.some r d))
both_only test only (Unlisted kind) f = absurd (both_ways _ f (only.unlisted kind))

some_only : (test : Entry → Bool) → SomeOnly test → (entry : Entry) → test entry ≡ false → (r : Role) × (d : Concept) × (entry ≡ SomeEntry r d)
some_only test only Top f = absurd (both_ways _ f only.top)
some_only test only Name f = absurd (both_ways _ f only.name)
some_only test only (BothEntry d e) f = absurd (both_ways _ f (only.both d e))
some_only test only (SomeEntry r d) f = (r, d, refl)
some_only test only (Unlisted kind) f = absurd (both_ways _ f (only.unlisted kind))

module _ (m : Meaning) (b : Branch) where
  decides_is : (c : Concept) (x : ℕ) → Decides (held m b (Is c (individual x))) (Held m b (Is c (individual x)))
  decides_is c x = decides_held m b (Is c (individual x))

  decides_joins : (r : Role) (x y : ℕ) → Decides (held m b (Joins r (individual x) (individual y))) (Held m b (Joins r (individual x) (individual y)))
  decides_joins r x y = decides_held m b (Joins r (individual x) (individual y))

  decides_equal : (x y : ℕ) → Decides (equal b.pairs (individual x) (individual y)) (Equal b.pairs (individual x) (individual y))
  decides_equal x y = decides_held m b (Same (individual x) (individual y))

  not-held : (c : Concept) (x : ℕ) → Refutes (held m b (Is c (individual x))) (Held m b (Is c (individual x)) → ⊥)
  not-held c x = refutes (held m b (Is c (individual x))) (decides_is c x)

  held_so : (c : Concept) (x : ℕ) → Refutes (not (held m b (Is c (individual x)))) (Held m b (Is c (individual x)))
  held_so c x = refutes-not (held m b (Is c (individual x))) (decides_is c x)

  -- the complement of an entry's own concept
  complement-own : (k : ℕ) → complement (concept (2 * k)) ≡ concept (2 * k + 1)
  complement-own k = let e : 2 * k + 1 - 2 * ((2 * k) % 2) ≡ 2 * k + 1 = omega arith in ap concept e

  -- what the tests of each place come to
  refutes-clear : (k x : ℕ) → Refutes (clear m b k x) (Held m b (Is (concept (2 * k)) (individual x)) × Held m b (Is (concept (2 * k + 1)) (individual x)))
  refutes-clear k x =
      refutes-not (holds m b (2 * k) x && holds m b (2 * k + 1) x)
      (Decides-and (holds m b (2 * k) x) (holds m b (2 * k + 1) x) (decides_is (concept (2 * k)) x) (decides_is (concept (2 * k + 1)) x))

  refutes_apart : (x y : ℕ) → Refutes (not_apart m b x y) (Held m b (Different (individual x) (individual y)) × Equal b.pairs (individual x) (individual y))
  refutes_apart x y =
      refutes-not (held m b (Different (individual x) (individual y)) && equal b.pairs (individual x) (individual y))
      (Decides-and _ _ (decides_held m b (Different (individual x) (individual y))) (decides_equal x y))

  refutes-both : (k x : ℕ) (d e : Concept) → Refutes (both_parts m b k x (BothEntry d e)) (Held m b (Is (concept (2 * k)) (individual x)) × (Held m b (Is d (individual x)) × Held m b (Is e (individual x)) → ⊥))
  refutes-both k x d e =
      refutes-or (not (holds m b (2 * k) x)) (held m b (Is d (individual x)) && held m b (Is e (individual x)))
      (held_so (concept (2 * k)) x)
      (refutes (held m b (Is d (individual x)) && held m b (Is e (individual x))) (Decides-and _ _ (decides_is d x) (decides_is e x)))

  refutes-either : (k x : ℕ) (d e : Concept) → Refutes (either_part m b k x (BothEntry d e)) (Held m b (Is (concept (2 * k + 1)) (individual x)) × ((Held m b (Is (complement d) (individual x)) → ⊥) × (Held m b (Is (complement e) (individual x)) → ⊥)))
  refutes-either k x d e =
      refutes-or (not (holds m b (2 * k + 1) x)) (held m b (Is (complement d) (individual x)) || held m b (Is (complement e) (individual x)))
      (held_so (concept (2 * k + 1)) x)
      (refutes-or (held m b (Is (complement d) (individual x))) (held m b (Is (complement e) (individual x))) (not-held (complement d) x) (not-held (complement e) x))

  refutes-some : (k x : ℕ) (r : Role) (d : Concept) → Refutes (some_reached m b k x (SomeEntry r d)) (Held m b (Is (concept (2 * k)) (individual x)) × ((y : Individual) × (y.0 < b.individuals) × Held m b (Joins r (individual x) y) × Held m b (Is d y) → ⊥))
  refutes-some k x r d =
      refutes-or (not (holds m b (2 * k) x)) (some_under (λ y. held m b (Joins r (individual x) (individual y)) && held m b (Is d (individual y))) b.individuals)
      (held_so (concept (2 * k)) x)
      (refutes (some_under (λ y. held m b (Joins r (individual x) (individual y)) && held m b (Is d (individual y))) b.individuals)
      (decides_some_with (λ y. decides_joins r x y) (λ y. decides_is d y) b.individuals))

  refutes-reached : (r : Role) (d : Concept) (x y : ℕ) → Refutes (reached m b r d x y) (Held m b (Joins r (individual x) (individual y)) × (Held m b (Is (complement d) (individual y)) → ⊥))
  refutes-reached r d x y =
      refutes-or (not (held m b (Joins r (individual x) (individual y)))) (held m b (Is (complement d) (individual y)))
      (refutes-not (held m b (Joins r (individual x) (individual y))) (decides_joins r x y))
      (not-held (complement d) y)

  refutes-decided : (i : InclusionRow) (x : ℕ) → Refutes (decided_at m b i x) ((Held m b (Is (complement i.sub) (individual x)) → ⊥) × (Held m b (Is i.sup (individual x)) → ⊥))
  refutes-decided i x =
      refutes-or (held m b (Is (complement i.sub) (individual x))) (held m b (Is i.sup (individual x))) (not-held (complement i.sub) x) (not-held i.sup x)

  refutes_key : (c d : Concept) (pairs : RolePairs) (x y : ℕ) → Refutes (key_kept m b (Link c d pairs) x y) (ValuesShared m b pairs (individual x) (individual y) × ((Held m b (Is (complement c) (individual x)) → ⊥) × ((Held m b (Is (complement d) (individual y)) → ⊥) × (Equal b.pairs (individual x) (individual y) → ⊥))))
  refutes_key c d pairs x y =
      refutes-or (not (list_all (share_value m b x y) (pair_list pairs)))
      (held m b (Is (complement c) (individual x)) || (held m b (Is (complement d) (individual y)) || equal b.pairs (individual x) (individual y)))
      (refutes-not (list_all (share_value m b x y) (pair_list pairs))
      (decides_every (λ p. decides_some_with (λ z. decides_joins p.left x z) (λ z. decides_joins p.right y z) b.individuals) (pair_list pairs)))
      (refutes-or (held m b (Is (complement c) (individual x))) (held m b (Is (complement d) (individual y)) || equal b.pairs (individual x) (individual y))
      (not-held (complement c) x)
      (refutes-or (held m b (Is (complement d) (individual y))) (equal b.pairs (individual x) (individual y))
      (not-held (complement d) y)
      (refutes (equal b.pairs (individual x) (individual y)) (decides_equal x y))))

  -- a place that was found, from what it is
  at_place : (f g : Failure) → f ≡ g → FailsAt m b g → FailsAt m b f
  at_place f g e h = subst (λ (p : Failure). FailsAt m b p) (sym e) h

  -- what is held of a concept is held of the same concept under another name
  held_as : (c d : Concept) (x : Individual) → c ≡ d → Held m b (Is c x) → Held m b (Is d x)
  held_as c d x e h = subst (λ (a : Concept). Held m b (Is a x)) e h

  pub clash_fails : (f : Failure) → ClashFound m b f → FailsAt m b f
  clash_fails f (k, lk, (x, lx, (e, t))) =
      let (h, i) = (refutes-clear k x).0 t in
      at_place f (Clash (concept (2 * k)) (individual x)) e (k, lk, refl, lx, h, held_as (concept (2 * k + 1)) (complement (concept (2 * k))) (individual x) (sym (complement-own k)) i)

  pub fails_clash : (c : Concept) (x : Individual) → FailsAt m b (Clash c x) → ClashFound m b (Clash c x)
  fails_clash c x (k, lk, e, lx, h, i) =
      (k, lk, (x.0, lx, (ap (λ (a : Concept). Clash a x) e, (refutes-clear k x.0).1 (held_as c (concept (2 * k)) x e h, held_as (complement c) (concept (2 * k + 1)) x (ap complement e ∙ complement-own k) i))))

  pub apart_fails : (f : Failure) → ApartFound m b f → FailsAt m b f
  apart_fails f (x, lx, (y, ly, (e, t))) =
      let (h, i) = (refutes_apart x y).0 t in at_place f (Apart (individual x) (individual y)) e (lx, ly, h, i)

  pub fails_apart : (x y : Individual) → FailsAt m b (Apart x y) → ApartFound m b (Apart x y)
  fails_apart x y (lx, ly, h, i) = (x.0, lx, (y.0, ly, (refl, (refutes_apart x.0 y.0).1 (h, i))))

  pub assertion_fails : (f : Failure) → AssertionFound m b f → FailsAt m b f
  assertion_fails f (n, _, (a, there, (e, t))) = at_place f (Assertion n) e (a, there, (refutes (held m b a) (decides_held m b a)).0 t)

  pub fails_assertion : (n : ℕ) → FailsAt m b (Assertion n) → AssertionFound m b (Assertion n)
  fails_assertion n (a, there, lacks) =
      (n, row_at-found m.assertions n a there, (a, there, (refl, (refutes (held m b a) (decides_held m b a)).1 lacks)))

  pub both-fails : (f : Failure) → BothFound m b f → FailsAt m b f
  both-fails f (k, _, (entry, there, (x, lx, (free, (e, t))))) =
      let (d, d', q) = both_only (both_parts m b k x) (record { top = refl; name = refl; some = λ _ _. refl; unlisted = λ _. refl }) entry t in
      let (h, lacks) = (refutes-both k x d d').0 (ap (both_parts m b k x) (sym q) ∙ t) in
      at_place f (Both (concept (2 * k)) (individual x)) e (k, d, d', refl, there ∙ ap Ok q, lx, free, h, lacks)

  pub fails_both : (c : Concept) (x : Individual) → FailsAt m b (Both c x) → BothFound m b (Both c x)
  fails_both c x (k, d, e, q, there, lx, free, h, lacks) =
      (k, row_at-found m.entries k _ there, (BothEntry d e, there, (x.0, lx, (free, (ap (λ (a : Concept). Both a x) q, (refutes-both k x.0 d e).1 (held_as c (concept (2 * k)) x q h, lacks))))))

  pub either-fails : (f : Failure) → EitherFound m b f → FailsAt m b f
  either-fails f (k, _, (entry, there, (x, lx, (free, (e, t))))) =
      let (d, d', q) = both_only (either_part m b k x) (record { top = refl; name = refl; some = λ _ _. refl; unlisted = λ _. refl }) entry t in
      let (h, (lacks, lacks')) = (refutes-either k x d d').0 (ap (either_part m b k x) (sym q) ∙ t) in
      at_place f (Either (concept (2 * k + 1)) (individual x)) e (k, d, d', refl, there ∙ ap Ok q, lx, free, h, lacks, lacks')

  pub fails-either : (c : Concept) (x : Individual) → FailsAt m b (Either c x) → EitherFound m b (Either c x)
  fails-either c x (k, d, e, q, there, lx, free, h, lacks, lacks') =
      (k, row_at-found m.entries k _ there, (BothEntry d e, there, (x.0, lx, (free, (ap (λ (a : Concept). Either a x) q, (refutes-either k x.0 d e).1 (held_as c (concept (2 * k + 1)) x q h, (lacks, lacks')))))))

  pub some-fails : (f : Failure) → SomeFound m b f → FailsAt m b f
  some-fails f (k, _, (entry, there, (x, lx, (free, (e, t))))) =
      let (r, d, q) = some_only (some_reached m b k x) (record { top = refl; name = refl; both = λ _ _. refl; unlisted = λ _. refl }) entry t in
      let (h, lacks) = (refutes-some k x r d).0 (ap (some_reached m b k x) (sym q) ∙ t) in
      at_place f (SomeFailure (concept (2 * k)) (individual x)) e (k, r, d, refl, there ∙ ap Ok q, lx, free, h, λ y ly i j. lacks (y, ly, i, j))

  pub fails-some : (c : Concept) (x : Individual) → FailsAt m b (SomeFailure c x) → SomeFound m b (SomeFailure c x)
  fails-some c x (k, r, d, q, there, lx, free, h, lacks) =
      (k, row_at-found m.entries k _ there, (SomeEntry r d, there, (x.0, lx, (free, (ap (λ (a : Concept). SomeFailure a x) q, (refutes-some k x.0 r d).1 (held_as c (concept (2 * k)) x q h, λ (y, ly, i, j). lacks y ly i j))))))

  all_at_fails : (f : Failure) (k : ℕ) (entry : Entry) (x : ℕ) → row_at m.entries k ≡ Ok entry → x < b.individuals → blocked m b x ≡ false → AllAt m b k entry x f → FailsAt m b f
  all_at_fails f k Top x there lx free s = absurd s
  all_at_fails f k Name x there lx free s = absurd s
  all_at_fails f k (BothEntry d e) x there lx free s = absurd s
  all_at_fails f k (SomeEntry r d) x there lx free (h, (y, ly, (e, t))) =
      let (i, lacks) = (refutes-reached r d x y).0 t in
      at_place f (All (concept (2 * k + 1)) (individual x) (individual y)) e (k, r, d, refl, there, lx, free, ly, (decides_is (concept (2 * k + 1)) x).0 h, i, lacks)
  all_at_fails f k (Unlisted kind) x there lx free s = absurd s

  pub all_fails : (f : Failure) → AllFound m b f → FailsAt m b f
  all_fails f (k, _, (entry, there, (x, lx, (free, s)))) = all_at_fails f k entry x there lx free s

  pub fails_all : (c : Concept) (x y : Individual) → FailsAt m b (All c x y) → AllFound m b (All c x y)
  fails_all c x y (k, r, d, q, there, lx, free, ly, h, i, lacks) = (
    k,
    row_at-found m.entries k _ there,
    (
      SomeEntry r d,
      there,
      (
        x.0,
        lx,
        (
          free,
          (
            (decides_is (concept (2 * k + 1)) x.0).1 (held_as c (concept (2 * k + 1)) x q h),
            (y.0, ly, (ap (λ (a : Concept). All a x y) q, (refutes-reached r d x.0 y.0).1 (i, lacks))),
          ),
        ),
      ),
    ),
  )

  pub inclusion_fails : (f : Failure) → InclusionFound m b f → FailsAt m b f
  inclusion_fails f (n, _, (i, there, (x, lx, (free, (e, t))))) =
      let (lacks, lacks') = (refutes-decided i x).0 t in at_place f (Inclusion n (individual x)) e (i, there, lx, free, lacks, lacks')

  pub fails_inclusion : (n : ℕ) (x : Individual) → FailsAt m b (Inclusion n x) → InclusionFound m b (Inclusion n x)
  fails_inclusion n x (i, there, lx, free, lacks, lacks') =
      (n, row_at-found m.inclusions n i there, (i, there, (x.0, lx, (free, (refl, (refutes-decided i x.0).1 (lacks, lacks'))))))

  key_at_fails : (f : Failure) (n : ℕ) (key : KeyRow) (x y : ℕ) → row_at m.keys n ≡ Ok key → x < m.individuals → y < m.individuals → f ≡ Key n (individual x) (individual y) → key_kept m b key x y ≡ false → FailsAt m b f
  key_at_fails f n (Link c d pairs) x y there lx ly e t =
      let (shared, (lacks, (lacks', apart))) = (refutes_key c d pairs x y).0 t in
      at_place f (Key n (individual x) (individual y)) e (c, d, pairs, there, lx, ly, shared, lacks, lacks', apart)
  key_at_fails f n (UnlistedKey count) x y there lx ly e t = absurd (true≢false t)

  pub key_fails : (f : Failure) → KeyFound m b f → FailsAt m b f
  key_fails f (n, _, (key, there, (x, lx, (y, ly, (e, t))))) = key_at_fails f n key x y there lx ly e t

  pub fails_key : (n : ℕ) (x y : Individual) → FailsAt m b (Key n x y) → KeyFound m b (Key n x y)
  fails_key n x y (c, d, pairs, there, lx, ly, shared, lacks, lacks', apart) =
      (n, row_at-found m.keys n _ there, (Link c d pairs, there, (x.0, lx, (y.0, ly, (refl, (refutes_key c d pairs x.0 y.0).1 (shared, (lacks, (lacks', apart))))))))
