-- What is held of the individual at which a walk ends is true of the walk, where the eight conditions of review hold.
use Rattle.std.proofs.Common.{◌≡◌, ℕ, zero, suc, ◌+◌, ◌*◌, ◌/◌, ◌%◌, ◌<◌, ◌≤◌, true, false, not, List, [], ◌∷◌, ◌++◌, length, get_or, Ok, sym, ap, ◌∙◌, subst, inl, ⊎_elim, arith}
use Rattle.std.proofs.lemmas.Bool.{both_ways, cases_Bool, cases_eq, cases_lt}
use Rattle.rows.specs.Rows.{row_at}
use Rattle.rows.proofs.RowLaws.{row_at-found, row_at-inside}
use Rattle.kb.proofs.NameLaws.{complement_entry}
use Rattle.kb.specs.declared.axioms.Assertion.TheVariants.{Is, Joins}
use Rattle.kb.specs.declared.lexicon.Entry.{Entry}
use Rattle.kb.specs.declared.lexicon.Entry.TheVariants.{Top, Name, Both, Some, Unlisted}
use Rattle.kb.specs.declared.names.Concept.{Concept}
use Rattle.kb.specs.declared.names.Role.{Role}
use Rattle.kb.specs.Check.{InRange}
use Rattle.kb.specs.Interpretations.{JoinedInto}
use Rattle.kb.specs.Meanings.{Meaning}
use Rattle.kb.specs.Names.{complement, entry_number}
use Rattle.calculus.specs.Branches.{Branch, head_of, self}
use Rattle.calculus.specs.Conditions.{Conditions}
use Rattle.calculus.specs.Holding.{Held}
use Rattle.calculus.specs.Review.{concept, individual}
use Rattle.calculus.specs.Walks.{joins_walks, last_from, sense, target, walk, walks}
use Rattle.calculus.proofs.EqualityLaws.{head_reached}
use Rattle.calculus.proofs.HeldLaws.{held-from, held-means}
use Rattle.theorem.proofs.Standing.{Standing}
use Rattle.theorem.proofs.SenseLaws.{both-before, complement_excludes, entry_as_says, entry_listed, sense_as, sense-complement, some-before, top_at_0}
use Rattle.theorem.proofs.WalkLaws.{after-from, after_by-from, decides_after_by, head_walk, held_of_equal, into_base_of_base, joins_of_equal, joins_walks-cases, joins_walks-one, joins_walks-push, last_from-push, target-held, walk-not-blocked, walk-one, walk-push, walk-within}

module _ (m : Meaning) (b : Branch) (range : InRange m) (placed : Standing m b) (holds : Conditions m b) where
  -- What is held at the end of a walk is true of it, for concepts of the first n entries.
  Truth : ℕ → Type 0
  Truth n =
      (c : Concept) → entry_number c < n → entry_number c < length m.entries
      → (u : ℕ) (w : List ℕ) → walk m b (u ∷ w) ≡ true → Held m b (Is c (individual (last_from m b u w))) → sense m b (u ∷ w) c.0 ≡ true

  -- the same of its complement
  excluded : (n : ℕ) → Truth n → (c : Concept) → entry_number c < n → entry_number c < length m.entries
      → (u : ℕ) (w : List ℕ) → walk m b (u ∷ w) ≡ true → Held m b (Is (complement c) (individual (last_from m b u w))) → sense m b (u ∷ w) c.0 ≡ false
  unfolding Truth
  excluded n truth c l in_lexicon u w h t =
      complement_excludes m b (u ∷ w) c (truth (complement c) (omega (arith, complement_entry c, l)) (omega (arith, complement_entry c, in_lexicon)) u w h t)

  -- SOME: a walk to where an individual that the role reaches stands
  some-reached : (n k : ℕ) → k ≤ n → Truth n → (u : ℕ) (w : List ℕ) → walk m b (u ∷ w) ≡ true → (r : Role) (d : Concept) → row_at m.entries k ≡ Ok (Some r d)
      → Held m b (Is (concept (2 * k)) (individual (last_from m b u w))) → JoinedInto (walks m b) r d (u ∷ w)
  unfolding Truth
  some-reached n k le truth u w h r d q t =
      let x = last_from m b u w in
      let before = some-before m range k r d q in
      let in_lexicon = row_at-found m.entries k (Some r d) q in
      let (y, on, joins, says) = holds.some_reached_held k r d (individual x) q (walk-within m b placed u w h) (walk-not-blocked m b u w h) t in
      ⊎_elim
      (λ low. let v = head_of b.pairs y.0 in
      let one = walk-one m b u w h (into_base_of_base m b placed r (individual x) y joins low) in
      let goes = head_walk m b y.0 low in
      let to-head = joins_of_equal m b r (individual x) y (individual x) (individual v) self (head_reached b.pairs y) joins in (
        v ∷ [],
        goes,
        subst (λ z. joins_walks m b r (u ∷ z) (v ∷ []) ≡ true) (sym one) (joins_walks-one m b r u v (subst (λ z. Held m b (Joins r (individual (last_from m b u z)) (individual v))) one to-head)),
        truth d (omega (arith, before, le)) (omega (arith, before, in_lexicon)) v [] goes (held_of_equal m b d y (individual v) (head_reached b.pairs y) says),
      ))
      (λ fresh. let v = target m b y.0 in
      let goes = walk-push m b u w v h (after-from m b r x y.0 on fresh joins) in (
        u ∷ w ++ v ∷ [],
        goes,
        joins_walks-push m b r u w v (after_by-from m b r x y.0 on fresh joins),
        truth d (omega (arith, before, le)) (omega (arith, before, in_lexicon)) u (w ++ v ∷ []) goes
            (subst (λ z. Held m b (Is d (individual z))) (sym (last_from-push m b u w v)) (target-held m b y.0 d says)),
      ))
      (cases_lt y.0 m.individuals)

  -- ~SOME: no walk that the role joins is in the concept
  none-reached : (n k : ℕ) → k ≤ n → Truth n → (u : ℕ) (w : List ℕ) → walk m b (u ∷ w) ≡ true → (r : Role) (d : Concept) → row_at m.entries k ≡ Ok (Some r d)
      → Held m b (Is (concept (2 * k + 1)) (individual (last_from m b u w))) → JoinedInto (walks m b) r d (u ∷ w) → ⊥
  unfolding Truth
  none-reached n k le truth u w h r d q t (f, goes, joins, says) =
      let x = last_from m b u w in
      let before = some-before m range k r d q in
      let in_lexicon = row_at-found m.entries k (Some r d) q in
      let all = holds.all_reached_held k r d (individual x) q (walk-within m b placed u w h) (walk-not-blocked m b u w h) t in
      let out = λ (v : ℕ) (z : List ℕ). excluded n truth d (omega (arith, before, le)) (omega (arith, before, in_lexicon)) v z in
      ⊎_elim
      (λ (v, here, one, by). let Goes-one = subst (λ g. walk m b g ≡ true) here goes in
      let from_end = subst (λ z. Held m b (Joins r (individual (last_from m b u z)) (individual v))) (sym one) by in
      both_ways (sense m b (v ∷ []) d.0)
      (out v [] Goes-one (all (individual v) (walk-within m b placed v [] Goes-one) from_end))
      (subst (λ g. sense m b g d.0 ≡ true) here says))
      (λ (v, here, by). let goes_on = subst (λ g. walk m b g ≡ true) here goes in
      let (s, on, (_, (reach, at))) = (decides_after_by m b r x v).0 by in
      let not-d = subst (λ z. Held m b (Is (complement d) (individual z))) at (target-held m b s (complement d) (all (individual s) on reach)) in
      both_ways (sense m b (u ∷ w ++ v ∷ []) d.0)
      (out u (w ++ v ∷ []) goes_on (subst (λ z. Held m b (Is (complement d) (individual z))) (sym (last_from-push m b u w v)) not-d))
      (subst (λ g. sense m b g d.0 ≡ true) here says))
      (joins_walks-cases m b r u w f joins)

  no_clash_at : (k : ℕ) (entry : Entry) → row_at m.entries k ≡ Ok entry → (u : ℕ) (w : List ℕ) → walk m b (u ∷ w) ≡ true
      → Held m b (Is (concept (2 * k)) (individual (last_from m b u w))) → Held m b (Is (concept (2 * k + 1)) (individual (last_from m b u w))) → ⊥
  no_clash_at k entry q u w h this other =
      let x = last_from m b u w in
      let l = row_at-found m.entries k entry q in
      let same : 2 * k + 1 ≡ (complement (concept (2 * k))).0 = omega arith in
      holds.clash_free (concept (2 * k)) (individual x) (omega (arith, l)) (walk-within m b placed u w h) this
      (subst (λ c. Held m b (Is (concept c) (individual x))) same other)

  -- 2k held at the end of a walk is true of it
  entry_true : (n k : ℕ) → k ≤ n → Truth n → (u : ℕ) (w : List ℕ) → walk m b (u ∷ w) ≡ true → (entry : Entry) → row_at m.entries k ≡ Ok entry
      → Held m b (Is (concept (2 * k)) (individual (last_from m b u w))) → sense m b (u ∷ w) (2 * k) ≡ true
  unfolding Truth
  entry_true n k le truth u w h Top q t = sense_as m b (u ∷ w) k Top q
  entry_true n k le truth u w h Name q t =
      sense_as m b (u ∷ w) k Name q ∙ held-from m b (Is (concept (2 * k)) (individual (last_from m b u w))) t
  entry_true n k le truth u w h (Both c d) q t =
      let (lc, ld) = both-before m range k c d q in
      let in_lexicon = row_at-found m.entries k (Both c d) q in
      let (p, s) = holds.both_parts_held k c d (individual (last_from m b u w)) q (walk-within m b placed u w h) (walk-not-blocked m b u w h) t in
      (entry_as_says m b placed range (u ∷ w) k (Both c d) h q).1
      (truth c (omega (arith, lc, le)) (omega (arith, lc, in_lexicon)) u w h p, truth d (omega (arith, ld, le)) (omega (arith, ld, in_lexicon)) u w h s)
  entry_true n k le truth u w h (Some r d) q t =
      (entry_as_says m b placed range (u ∷ w) k (Some r d) h q).1 (some-reached n k le truth u w h r d q t)
  entry_true n k le truth u w h (Unlisted kind) q t = absurd (entry_listed m range k kind q)

  -- where 2k+1 is held at the end of a walk, 2k is not true of it
  entry_false : (n k : ℕ) → k ≤ n → Truth n → (u : ℕ) (w : List ℕ) → walk m b (u ∷ w) ≡ true → (entry : Entry) → row_at m.entries k ≡ Ok entry
      → Held m b (Is (concept (2 * k + 1)) (individual (last_from m b u w))) → sense m b (u ∷ w) (2 * k) ≡ true → ⊥
  unfolding Truth
  entry_false n k le truth u w h Top q t g =
      no_clash_at k Top q u w h (inl (omega (arith, top_at_0 m range k q))) t
  entry_false n k le truth u w h Name q t g =
      let there = Is (concept (2 * k)) (individual (last_from m b u w)) in
      no_clash_at k Name q u w h (held-means m b there (sym (sense_as m b (u ∷ w) k Name q) ∙ g)) t
  entry_false n k le truth u w h (Both c d) q t g =
      let (lc, ld) = both-before m range k c d q in
      let in_lexicon = row_at-found m.entries k (Both c d) q in
      let (p, s) = (entry_as_says m b placed range (u ∷ w) k (Both c d) h q).0 g in
      ⊎_elim
      (λ not-c. both_ways (sense m b (u ∷ w) c.0) (excluded n truth c (omega (arith, lc, le)) (omega (arith, lc, in_lexicon)) u w h not-c) p)
      (λ not-d. both_ways (sense m b (u ∷ w) d.0) (excluded n truth d (omega (arith, ld, le)) (omega (arith, ld, in_lexicon)) u w h not-d) s)
      (holds.either_part_held k c d (individual (last_from m b u w)) q (walk-within m b placed u w h) (walk-not-blocked m b u w h) t)
  entry_false n k le truth u w h (Some r d) q t g =
      none-reached n k le truth u w h r d q t ((entry_as_says m b placed range (u ∷ w) k (Some r d) h q).0 g)
  entry_false n k le truth u w h (Unlisted kind) q t g = entry_listed m range k kind q

  truth_up_to : (n : ℕ) → Truth n
  unfolding Truth
  truth_up_to zero c l in_lexicon u w h t = absurd (omega arith)
  truth_up_to (suc n) c l in_lexicon u w h t =
      let k = c.0 / 2 in
      let x = last_from m b u w in
      let entry = get_or m.entries k Name in
      let q = row_at-inside m.entries k Name in_lexicon in
      let at = λ (j : ℕ) (e : c.0 ≡ j). subst (λ i. Held m b (Is (concept i) (individual x))) e t in
      ⊎_elim
      (λ even. let e : c.0 ≡ 2 * k = omega arith in
      ap (sense m b (u ∷ w)) e ∙ entry_true n k (omega arith) (truth_up_to n) u w h entry q (at (2 * k) e))
      (λ odd. let e : c.0 ≡ 2 * k + 1 = omega arith in
      ap (sense m b (u ∷ w)) e ∙ sense-complement m b (u ∷ w) k
      ∙ ap not (⊎_elim (λ g. absurd (entry_false n k (omega arith) (truth_up_to n) u w h entry q (at (2 * k + 1) e) g)) (λ f. f) (cases_Bool (sense m b (u ∷ w) (2 * k)))))
      (cases_eq (c.0 % 2) 0)

  -- a concept of the lexicon that is held at the end of a walk is true of it
  pub held_is_true : (c : Concept) → entry_number c < length m.entries → (u : ℕ) (w : List ℕ) → walk m b (u ∷ w) ≡ true
      → Held m b (Is c (individual (last_from m b u w))) → sense m b (u ∷ w) c.0 ≡ true
  unfolding Truth
  held_is_true c in_lexicon = truth_up_to (suc (entry_number c)) c (omega arith) in_lexicon

  -- one whose complement is held is not
  pub held_complement_is_false : (c : Concept) → entry_number c < length m.entries → (u : ℕ) (w : List ℕ) → walk m b (u ∷ w) ≡ true
      → Held m b (Is (complement c) (individual (last_from m b u w))) → sense m b (u ∷ w) c.0 ≡ false
  held_complement_is_false c in_lexicon = excluded (suc (entry_number c)) (truth_up_to (suc (entry_number c))) c (omega arith) in_lexicon
