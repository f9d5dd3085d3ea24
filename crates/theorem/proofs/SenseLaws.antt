-- What concepts come to on walks: each entry's concept is as the entry says, and its complement the opposite.
use Rattle.std.proofs.Common.{◌≡◌, ℕ, zero, suc, ◌+◌, ◌*◌, ◌/◌, ◌%◌, ◌<◌, Bool, true, false, not, ◌&&◌, ◌||◌, eqb, ltb, List, [], ◌∷◌, ◌++◌, Ok, sym, ap, ◌∙◌, subst, ⊎_elim, arith}
use mathlib.Core.Bool.{false≢true}
use Rattle.std.proofs.lemmas.Bool.{and_from, and_parts, cases_eq, cond-false, cond-true, eq-eqb, eqb-true, ltb-true, ne_eqb, not-true, or_cases, or_left, or_right}
use Rattle.rows.specs.Rows.{row_at}
use Rattle.rows.proofs.RowLaws.{row_at-found}
use Rattle.kb.specs.declared.lexicon.Entry.{Entry}
use Rattle.kb.specs.declared.lexicon.Entry.TheVariants.{Top, Name, Both, Some, Unlisted}
use Rattle.kb.specs.declared.names.Concept.{Concept}
use Rattle.kb.specs.declared.names.Role.{Role}
use Rattle.kb.specs.Check.{InRange}
use Rattle.kb.specs.Interpretations.{EntryAt, JoinedInto}
use Rattle.kb.specs.Meanings.{Meaning, counts_of}
use Rattle.kb.specs.Names.{complement, entry_number}
use Rattle.kb.specs.Range.{entry_in_range, role_in_range}
use Rattle.calculus.specs.Branches.{Branch}
use Rattle.calculus.specs.Walks.{entry_at, joins_walks, row_entry_at, sense, sense_up_to, walk, walks}
use Rattle.calculus.proofs.DecidingLaws.{decides_some_under, decides_true}
use Rattle.theorem.proofs.Standing.{Standing}
use Rattle.theorem.proofs.TableSound.{row-passes}
use Rattle.theorem.proofs.WalkLaws.{joins_walks-cases, last_from-push, no_empty_walk, walk-within}

module _ (m : Meaning) (range : InRange m) where
  pub entry_in_range_lem : (k : ℕ) (entry : Entry) → row_at m.entries k ≡ Ok entry → entry_in_range (counts_of m) k entry ≡ true
  entry_in_range_lem k entry q =
      row-passes (entry_in_range (counts_of m)) m.entries k entry q (range.entries k (row_at-found m.entries k entry q))

  -- TOP stands at 0 only, and no listed entry is of an unlisted kind
  pub top_at_0 : (k : ℕ) → row_at m.entries k ≡ Ok Top → k ≡ 0
  top_at_0 k q = eqb-true k 0 (entry_in_range_lem k Top q)

  pub entry_listed : (k kind : ℕ) → row_at m.entries k ≡ Ok (Unlisted kind) → ⊥
  entry_listed k kind q = false≢true (entry_in_range_lem k (Unlisted kind) q)

  -- the parts of an entry come before it
  pub both-before : (k : ℕ) (c d : Concept) → row_at m.entries k ≡ Ok (Both c d) → (entry_number c < k) × (entry_number d < k)
  both-before k c d q =
      let (p, r) = and_parts (ltb (entry_number c) k) (ltb (entry_number d) k) (entry_in_range_lem k (Both c d) q) in
      (ltb-true (entry_number c) k p, ltb-true (entry_number d) k r)

  pub some-before : (k : ℕ) (r : Role) (c : Concept) → row_at m.entries k ≡ Ok (Some r c) → entry_number c < k
  some-before k r c q =
      let (_, p) = and_parts (role_in_range (counts_of m) r) (ltb (entry_number c) k) (entry_in_range_lem k (Some r c) q) in
      ltb-true (entry_number c) k p

  -- entry 0 is TOP
  pub first-is-top : (entry : Entry) → row_at m.entries 0 ≡ Ok entry → row_at m.entries 0 ≡ Ok Top
  first-is-top Top q = q
  first-is-top Name q = absurd (false≢true (entry_in_range_lem 0 Name q))
  first-is-top (Both c d) q = absurd (omega (arith, both-before 0 c d q))
  first-is-top (Some r c) q = absurd (omega (arith, some-before 0 r c q))
  first-is-top (Unlisted kind) q = absurd (entry_listed 0 kind q)

module _ (m : Meaning) (b : Branch) where
  -- more entries change nothing
  pub sense_up_to_enough : (n : ℕ) (e : List ℕ) (c : ℕ) → c / 2 < n → sense_up_to m b n e c ≡ sense m b e c
  unfolding sense_up_to sense
  sense_up_to_enough zero e c l = absurd (omega arith)
  sense_up_to_enough (suc n) e c l =
      ⊎_elim
      (λ q. ap (λ k. sense_up_to m b (suc k) e c) (sym q))
      (λ q. cond-false (eqb (c / 2) n) _ _ (ne_eqb (c / 2) n q) ∙ sense_up_to_enough n e c (omega arith))
      (cases_eq (c / 2) n)

  pub sense_entry : (e : List ℕ) (k : ℕ) → sense m b e (2 * k) ≡ row_entry_at m b (sense_up_to m b k) e k (row_at m.entries k)
  unfolding sense_up_to sense
  sense_entry e k =
      let q : 2 * k / 2 ≡ k = omega arith in
      let z : 2 * k % 2 ≡ 0 = omega arith in
      ap (λ n. sense_up_to m b (suc n) e (2 * k)) q
      ∙ cond-true (eqb (2 * k / 2) k) _ _ (eq-eqb (2 * k / 2) k q)
      ∙ cond-true (eqb (2 * k % 2) 0) _ _ (eq-eqb (2 * k % 2) 0 z)

  pub sense-complement : (e : List ℕ) (k : ℕ) → sense m b e (2 * k + 1) ≡ not (sense m b e (2 * k))
  unfolding sense_up_to sense
  sense-complement e k =
      let q : (2 * k + 1) / 2 ≡ k = omega arith in
      let z : (2 * k + 1) % 2 ≡ 1 = omega arith in
      ap (λ n. sense_up_to m b (suc n) e (2 * k + 1)) q
      ∙ cond-true (eqb ((2 * k + 1) / 2) k) _ _ (eq-eqb ((2 * k + 1) / 2) k q)
      ∙ cond-false (eqb ((2 * k + 1) % 2) 0) _ _ (ne_eqb ((2 * k + 1) % 2) 0 (λ o. absurd (omega (arith, z, o))))
      ∙ ap not (sym (sense_entry e k))

  -- where the complement of a concept is yes, the concept is no
  pub complement_excludes : (e : List ℕ) (c : Concept) → sense m b e (complement c).0 ≡ true → sense m b e c.0 ≡ false
  complement_excludes e c h =
      let k = c.0 / 2 in
      ⊎_elim
      (λ even. let p : c.0 ≡ 2 * k = omega arith in
      let q : (complement c).0 ≡ 2 * k + 1 = omega arith in
      ap (sense m b e) p ∙ not-true (sense m b e (2 * k)) (sym (sense-complement e k) ∙ ap (sense m b e) (sym q) ∙ h))
      (λ odd. let p : c.0 ≡ 2 * k + 1 = omega arith in
      let q : (complement c).0 ≡ 2 * k = omega arith in
      ap (sense m b e) p ∙ sense-complement e k ∙ ap not (ap (sense m b e) (sym q) ∙ h))
      (cases_eq (c.0 % 2) 0)

  -- what entry k is worked out as
  pub sense_as : (e : List ℕ) (k : ℕ) (entry : Entry) → row_at m.entries k ≡ Ok entry → sense m b e (2 * k) ≡ entry_at m b (sense_up_to m b k) e k entry
  sense_as e k entry q = sense_entry e k ∙ ap (row_entry_at m b (sense_up_to m b k) e k) q

  -- f is a walk that r joins e to, and in c
  abbrev reaches : Role → ℕ → ℕ → List ℕ → List ℕ → Bool
  reaches r k c e f = walk m b f && (joins_walks m b r e f && sense_up_to m b k f c)

  reaches-means : (r : Role) (k : ℕ) (c : Concept) (e f : List ℕ) → entry_number c < k → reaches r k c.0 e f ≡ true → JoinedInto (walks m b) r c e
  reaches-means r k c e f l h =
      let (goes, rest) = and_parts (walk m b f) (joins_walks m b r e f && sense_up_to m b k f c.0) h in
      let (joins, says) = and_parts (joins_walks m b r e f) (sense_up_to m b k f c.0) rest in
      (f, goes, joins, sym (sense_up_to_enough k f c.0 l) ∙ says)

  reaches-from : (r : Role) (k : ℕ) (c : Concept) (e f : List ℕ) → entry_number c < k → walk m b f ≡ true → joins_walks m b r e f ≡ true → sense m b f c.0 ≡ true → reaches r k c.0 e f ≡ true
  reaches-from r k c e f l goes joins says =
      and_from (walk m b f) (joins_walks m b r e f && sense_up_to m b k f c.0) goes
      (and_from (joins_walks m b r e f) (sense_up_to m b k f c.0) joins (sense_up_to_enough k f c.0 l ∙ says))

  module _ (placed : Standing m b) where
    some_as : (r : Role) (k : ℕ) (c : Concept) (u : ℕ) (w : List ℕ) → entry_number c < k → JoinedInto (walks m b) r c (u ∷ w) → entry_at m b (sense_up_to m b k) (u ∷ w) k (Some r c) ≡ true
    some_as r k c u w l (f, goes, joins, says) =
        let e = u ∷ w in
        let near = λ (y : ℕ). reaches r k c.0 e (y ∷ []) in
        let far = λ (y : ℕ). reaches r k c.0 e (e ++ y ∷ []) in
        let there = reaches-from r k c e f l goes joins says in
        let found = λ (y : ℕ) (within : y < b.individuals) (h : (near y || far y) ≡ true). (decides_some_under (λ y. decides_true (near y || far y)) b.individuals).1 (y, within, h) in
        ⊎_elim
        (λ (v, q, _, _). found v (walk-within m b placed v [] (subst (λ g. walk m b g ≡ true) q goes)) (or_left (near v) (far v) (subst (λ g. reaches r k c.0 e g ≡ true) q there)))
        (λ (v, q, _). let within = walk-within m b placed u (w ++ v ∷ []) (subst (λ g. walk m b g ≡ true) q goes) in
        found v (omega (arith, within, last_from-push m b u w v)) (or_right (near v) (far v) (subst (λ g. reaches r k c.0 e g ≡ true) q there)))
        (joins_walks-cases m b r u w f joins)

    some-means : (r : Role) (k : ℕ) (c : Concept) (e : List ℕ) → entry_number c < k → entry_at m b (sense_up_to m b k) e k (Some r c) ≡ true → JoinedInto (walks m b) r c e
    some-means r k c e l h =
        let near = λ (y : ℕ). reaches r k c.0 e (y ∷ []) in
        let far = λ (y : ℕ). reaches r k c.0 e (e ++ y ∷ []) in
        let (y, _, t) = (decides_some_under (λ y. decides_true (near y || far y)) b.individuals).0 h in
        ⊎_elim (λ g. reaches-means r k c e (y ∷ []) l g) (λ g. reaches-means r k c e (e ++ y ∷ []) l g) (or_cases (near y) (far y) t)

    module _ (range : InRange m) where
      -- each entry is as it says, on every walk
      pub entry_as_says : (e : List ℕ) (k : ℕ) (entry : Entry) → walk m b e ≡ true → row_at m.entries k ≡ Ok entry → EntryAt (walks m b) e k entry
      entry_as_says [] k entry h q = absurd (no_empty_walk m b h)
      entry_as_says (u ∷ w) k Top h q = sense_as (u ∷ w) k Top q
      entry_as_says (u ∷ w) k Name h q = tt
      entry_as_says (u ∷ w) k (Both c d) h q =
          let e = u ∷ w in
          let (lc, ld) = both-before m range k c d q in
          let as_parts = sense_as e k (Both c d) q in
          let at_c = sense_up_to_enough k e c.0 lc in
          let at-d = sense_up_to_enough k e d.0 ld in (
            λ t. let (p, r) = and_parts (sense_up_to m b k e c.0) (sense_up_to m b k e d.0) (sym as_parts ∙ t) in (sym at_c ∙ p, sym at-d ∙ r),
            λ (p, r). as_parts ∙ and_from (sense_up_to m b k e c.0) (sense_up_to m b k e d.0) (at_c ∙ p) (at-d ∙ r),
          )
      entry_as_says (u ∷ w) k (Some r c) h q =
          let e = u ∷ w in
          let l = some-before m range k r c q in
          let as_some_lem = sense_as e k (Some r c) q in
          (λ t. some-means r k c e l (sym as_some_lem ∙ t), λ s. as_some_lem ∙ some_as r k c u w l s)
      entry_as_says (u ∷ w) k (Unlisted kind) h q = tt
