-- The walks of a branch on which the eight conditions of review hold are lawful and satisfy the base.
use Rattle.std.proofs.Common.{◌≡◌, ℕ, zero, suc, ◌<◌, ◌≤◌, true, ◌&&◌, ltb, ◌⊎◌, List, [], ◌∷◌, ◌++◌, length, get_or, Ok, sym, refl, ap, ◌∙◌, subst, inl, inr, ⊎_elim, arith}
use mathlib.Core.Bool.{false≢true}
use Rattle.std.proofs.lemmas.List.{length_push, same_from_push}
use Rattle.std.proofs.lemmas.Bool.{and_parts, both_ways, cond_both, cond-true, lt-ltb, ltb-true}
use Rattle.rows.specs.Rows.{row_at}
use Rattle.rows.proofs.RowLaws.{row_at-found, row_at-inside}
use Rattle.kb.specs.declared.axioms.Assertion.{Assertion}
use Rattle.kb.specs.declared.axioms.Assertion.TheVariants.{Is, Joins, Same, Different, Unlisted as UnlistedAssertion}
use Rattle.kb.specs.declared.axioms.Inclusion.{Inclusion}
use Rattle.kb.specs.declared.axioms.Key.{Key}
use Rattle.kb.specs.declared.axioms.Key.TheVariants.{Link, Unlisted as UnlistedKey}
use Rattle.kb.specs.declared.axioms.RolePair.{RolePair}
use Rattle.kb.specs.declared.axioms.RolePairs.{RolePairs}
use Rattle.kb.specs.declared.axioms.RolePairs.TheVariants.{One, Two, Three, Four}
use Rattle.kb.specs.declared.lexicon.Entry.TheVariants.{Top, Name}
use Rattle.kb.specs.declared.names.Concept.{Concept}
use Rattle.kb.specs.declared.names.Individual.{Individual}
use Rattle.kb.specs.declared.names.Role.{Role}
use Rattle.kb.specs.Check.{InRange}
use Rattle.kb.specs.Interpretations.{Asserted, Included, Keyed, KeyedRow, Lawful, Satisfies, Share}
use Rattle.kb.specs.Meanings.{Meaning, counts_of}
use Rattle.kb.specs.Names.{entry_number}
use Rattle.kb.specs.Numbers.{pair_list}
use Rattle.kb.specs.Range.{assertion_in_range, concept_in_range, inclusion_in_range, individual_in_range, key_in_range, pairs_in_range, role_in_range}
use Rattle.calculus.specs.Branches.{Branch, head_of}
use Rattle.calculus.specs.Conditions.{Conditions}
use Rattle.calculus.specs.Holding.{Held}
use Rattle.calculus.specs.Review.{individual}
use Rattle.calculus.specs.Walks.{joins_walks, sense, walk, walk_of, walks}
use Rattle.calculus.proofs.EqualityLaws.{Equal_from_head, head_from_Equal, head_reached}
use Rattle.theorem.specs.Opening.{OpenWalksSatisfy}
use Rattle.theorem.proofs.Standing.{Standing, placed_standing}
use Rattle.theorem.proofs.TableSound.{row-passes}
use Rattle.theorem.proofs.SenseLaws.{entry_as_says, first-is-top, sense_as, sense-complement}
use Rattle.theorem.proofs.TruthOnWalks.{held_complement_is_false, held_is_true}
use Rattle.theorem.proofs.WalkLaws.{Beside, head_walk, held_of_equal, joins_of_equal, joins_walks-cases, joins_walks-one, no_empty_walk, walk_first, walk-not-blocked, walk-within}

-- one of two ways for each row: for some row the first, or for each the second
split_rows : {A X : Type 0} (Q : A → Type 0) (xs : List A) → ((n : ℕ) (x : A) → row_at xs n ≡ Ok x → X ⊎ Q x) → X ⊎ ((n : ℕ) (x : A) → row_at xs n ≡ Ok x → Q x)
split_rows Q [] h = inr (λ n x e. let z : ◌≡◌ {A = ℕ} 0 1 = cc in absurd (omega arith))
split_rows {A} {X} Q (y ∷ ys) h =
    ⊎_elim inl
    (λ first. ⊎_elim inl (λ rest. inr (each first rest)) (split_rows Q ys (λ n x e. h (suc n) x e)))
    (h 0 y refl)
  where
    each : Q y → ((n : ℕ) (x : A) → row_at ys n ≡ Ok x → Q x) → (n : ℕ) (x : A) → row_at (y ∷ ys) n ≡ Ok x → Q x
    each first rest zero x e = let q : y ≡ x = cc in subst Q q first
    each first rest (suc n) x e = rest n x e

-- a key has a pair
first_pair : (pairs : RolePairs) → (p : RolePair) × (row_at (pair_list pairs) 0 ≡ Ok p)
first_pair (One p) = (p, refl)
first_pair (Two p q) = (p, refl)
first_pair (Three p q s) = (p, refl)
first_pair (Four p q s t) = (p, refl)

-- a list of one and a longer one are not the same
one_not_longer : (v u : ℕ) (w : List ℕ) (x : ℕ) → v ∷ [] ≡ u ∷ w ++ x ∷ [] → ⊥
one_not_longer v u w x e =
    let l : length (v ∷ []) ≡ length (u ∷ w ++ x ∷ []) = ap length e in
    omega (arith, l, length_push w x)

module _ (m : Meaning) (b : Branch) (range : InRange m) (some-individual : 1 ≤ m.individuals) (some_entry : 1 ≤ length m.entries) (placed : Standing m b) (holds : Conditions m b) where
  -- individuals are elements
  individual-walks : (x : Individual) → walk m b (walk_of m b x) ≡ true
  individual-walks x =
      cond_both (ltb x.0 m.individuals) (head_of b.pairs x.0 ∷ []) (head_of b.pairs 0 ∷ []) (λ e. walk m b e ≡ true)
      (λ l. head_walk m b x.0 (ltb-true x.0 m.individuals l)) (λ _. head_walk m b 0 (omega (arith, some-individual)))

  walk_of-base : (x : Individual) → x.0 < m.individuals → walk_of m b x ≡ head_of b.pairs x.0 ∷ []
  walk_of-base x l =
      cond-true (ltb x.0 m.individuals) (head_of b.pairs x.0 ∷ []) (head_of b.pairs 0 ∷ []) (lt-ltb x.0 m.individuals l)

  top_everywhere : (e : List ℕ) → sense m b e 0 ≡ true
  top_everywhere e =
      sense_as m b e 0 Top (first-is-top m range (get_or m.entries 0 Name) (row_at-inside m.entries 0 Name (omega (arith, some_entry))))

  pub walks_lawful : Lawful (walks m b) m.entries
  walks_lawful =
      record {
        inhabited = individual-walks (individual 0);
        individuals = individual-walks;
        top = λ e h. top_everywhere e;
        complement = λ e k h l. sense-complement m b e k;
        entries = λ e k entry h q. entry_as_says m b placed range e k entry h q;
      }

  -- assertions

  on-sheet : (x : ℕ) → x < m.individuals → x < b.individuals
  on-sheet x l = omega (arith, l, placed.base_first)

  concept_asserted : (c : Concept) (x : Individual) → entry_number c < length m.entries → x.0 < m.individuals → Held m b (Is c x) → Asserted (walks m b) (Is c x)
  concept_asserted c x lc lx t =
      let h = head_of b.pairs x.0 in
      subst (λ e. sense m b e c.0 ≡ true) (sym (walk_of-base x lx))
      (held_is_true m b range placed holds c lc h [] (head_walk m b x.0 lx) (held_of_equal m b c x (individual h) (head_reached b.pairs x) t))

  role_asserted : (r : Role) (x y : Individual) → x.0 < m.individuals → y.0 < m.individuals → Held m b (Joins r x y) → Asserted (walks m b) (Joins r x y)
  role_asserted r x y lx ly t =
      let h = head_of b.pairs x.0 in
      let g = head_of b.pairs y.0 in
      subst (λ e. joins_walks m b r e (walk_of m b y) ≡ true) (sym (walk_of-base x lx))
      (subst (λ e. joins_walks m b r (h ∷ []) e ≡ true) (sym (walk_of-base y ly))
      (joins_walks-one m b r h g (joins_of_equal m b r x y (individual h) (individual g) (head_reached b.pairs x) (head_reached b.pairs y) t)))

  different_asserted : (x y : Individual) → x.0 < m.individuals → y.0 < m.individuals → Held m b (Different x y) → Asserted (walks m b) (Different x y)
  different_asserted x y lx ly t e =
      let heads : head_of b.pairs x.0 ∷ [] ≡ head_of b.pairs y.0 ∷ [] = sym (walk_of-base x lx) ∙ e ∙ walk_of-base y ly in
      let same : head_of b.pairs x.0 ≡ head_of b.pairs y.0 = cc (heads) in
      holds.none_different_and_equal x y (on-sheet x.0 lx) (on-sheet y.0 ly) t (Equal_from_head b.pairs x y same)

  -- two individuals in range
  both_low : (x y : Individual) → (individual_in_range (counts_of m) x && individual_in_range (counts_of m) y) ≡ true → (x.0 < m.individuals) × (y.0 < m.individuals)
  both_low x y h =
      let (p, q) = and_parts (individual_in_range (counts_of m) x) (individual_in_range (counts_of m) y) h in
      (ltb-true x.0 m.individuals p, ltb-true y.0 m.individuals q)

  in_lexicon : (c : Concept) → concept_in_range (counts_of m) c ≡ true → entry_number c < length m.entries
  in_lexicon c h = ltb-true (entry_number c) (length m.entries) h

  held_asserted : (a : Assertion) → assertion_in_range (counts_of m) a ≡ true → Held m b a → Asserted (walks m b) a
  held_asserted (Is c x) l t =
      let (lc, lx) = and_parts (concept_in_range (counts_of m) c) (individual_in_range (counts_of m) x) l in
      concept_asserted c x (in_lexicon c lc) (ltb-true x.0 m.individuals lx) t
  held_asserted (Joins r x y) l t =
      let (lx, ly) = both_low x y (and_parts (role_in_range (counts_of m) r) (individual_in_range (counts_of m) x && individual_in_range (counts_of m) y) l).1 in
      role_asserted r x y lx ly t
  held_asserted (Same x y) l t =
      let (lx, ly) = both_low x y l in
      walk_of-base x lx ∙ ap (λ h. h ∷ []) (head_from_Equal b.pairs t) ∙ sym (walk_of-base y ly)
  held_asserted (Different x y) l t =
      let (lx, ly) = both_low x y l in
      different_asserted x y lx ly t
  held_asserted (UnlistedAssertion kind) l t = absurd t

  assertion_in_range_lem : (n : ℕ) (a : Assertion) → row_at m.assertions n ≡ Ok a → assertion_in_range (counts_of m) a ≡ true
  assertion_in_range_lem n a q =
      row-passes (λ _. assertion_in_range (counts_of m)) m.assertions n a q (range.assertions n (row_at-found m.assertions n a q))

  -- inclusions

  inclusion_in_range_lem : (n : ℕ) (i : Inclusion) → row_at m.inclusions n ≡ Ok i → inclusion_in_range (counts_of m) i ≡ true
  inclusion_in_range_lem n i q =
      row-passes (λ _. inclusion_in_range (counts_of m)) m.inclusions n i q (range.inclusions n (row_at-found m.inclusions n i q))

  included : (n : ℕ) (i : Inclusion) → row_at m.inclusions n ≡ Ok i → Included (walks m b) i.sub i.sup
  included n i q [] h t = absurd (no_empty_walk m b h)
  included n i q (u ∷ w) h t =
      let (lc, ld) = and_parts (concept_in_range (counts_of m) i.sub) (concept_in_range (counts_of m) i.sup) (inclusion_in_range_lem n i q) in
      ⊎_elim
      (λ g. absurd (both_ways (sense m b (u ∷ w) i.sub.0) (held_complement_is_false m b range placed holds i.sub (in_lexicon i.sub lc) u w h g) t))
      (λ g. held_is_true m b range placed holds i.sup (in_lexicon i.sup ld) u w h g)
      (holds.inclusions_decided n i (individual _) q (walk-within m b placed u w h) (walk-not-blocked m b u w h))

  -- keys

  -- two walks are of one individual each, and a pair of roles joins them to one that is
  Near : ℕ → List ℕ → ℕ → List ℕ → RolePair → Type 0
  Near u w u' w' p =
      (w ≡ []) × (w' ≡ [])
      × ((z : Individual) × (z.0 < b.individuals) × Held m b (Joins p.left (individual u) z) × Held m b (Joins p.right (individual u') z))

  -- two walks that share a value are near, or one
  share_cases : (u : ℕ) (w : List ℕ) (u' : ℕ) (w' : List ℕ) (p : RolePair) → Share (walks m b) (u ∷ w) (u' ∷ w') p → (u ∷ w ≡ u' ∷ w') ⊎ Near u w u' w' p
  unfolding Near
  share_cases u w u' w' p (g, goes, left, right) =
      ⊎_elim
      (λ i. ⊎_elim (λ j. inr (beside i j)) (λ (x, e, _). absurd (one_not_longer i.0 u' w' x (sym i.1 ∙ e))) (joins_walks-cases m b p.right u' w' g right))
      (λ (x, e, _). ⊎_elim
      (λ (v, f, _, _). absurd (one_not_longer v u w x (sym f ∙ e)))
      (λ (y, f, _). inl (same_from_push (u ∷ w) (u' ∷ w') x y (sym e ∙ f)).0)
      (joins_walks-cases m b p.right u' w' g right))
      (joins_walks-cases m b p.left u w g left)
    where
      beside : Beside m b p.left u w g → Beside m b p.right u' w' g → Near u w u' w' p
      beside (v, e, one, by) (v', e', one', by') =
          let ends : v' ∷ [] ≡ v ∷ [] = sym e' ∙ e in
          let same : v' ≡ v = cc (ends) in
          (one, one', (individual v, walk-within m b placed v [] (subst (λ f. walk m b f ≡ true) e goes), by, subst (λ z. Held m b (Joins p.right (individual u') (individual z))) same by'))

  keyed_near : (n : ℕ) (c d : Concept) (pairs : RolePairs) → row_at m.keys n ≡ Ok (Link c d pairs) → entry_number c < length m.entries → entry_number d < length m.entries
      → (u u' : ℕ) → walk m b (u ∷ []) ≡ true → walk m b (u' ∷ []) ≡ true → sense m b (u ∷ []) c.0 ≡ true → sense m b (u' ∷ []) d.0 ≡ true
      → ((j : ℕ) (p : RolePair) → row_at (pair_list pairs) j ≡ Ok p → (z : Individual) × (z.0 < b.individuals) × Held m b (Joins p.left (individual u) z) × Held m b (Joins p.right (individual u') z))
      → u ≡ u'
  keyed_near n c d pairs q lc ld u u' h h' s t values =
      let (lu, own, _) = walk_first m b u [] h in
      let (lu', own', _) = walk_first m b u' [] h' in
      ⊎_elim
      (λ g. absurd (both_ways (sense m b (u ∷ []) c.0) (held_complement_is_false m b range placed holds c lc u [] h g) s))
      (⊎_elim
      (λ g. absurd (both_ways (sense m b (u' ∷ []) d.0) (held_complement_is_false m b range placed holds d ld u' [] h' g) t))
      (λ e. sym own ∙ head_from_Equal b.pairs e ∙ own'))
      (holds.keys_decided n c d pairs (individual u) (individual u') q lu lu' values)

  key_in_range_lem : (n : ℕ) (k : Key) → row_at m.keys n ≡ Ok k → key_in_range (counts_of m) k ≡ true
  key_in_range_lem n k q = row-passes (λ _. key_in_range (counts_of m)) m.keys n k q (range.keys n (row_at-found m.keys n k q))

  link_keyed : (n : ℕ) (c d : Concept) (pairs : RolePairs) → row_at m.keys n ≡ Ok (Link c d pairs) → Keyed (walks m b) c d (pair_list pairs)
  unfolding Near
  link_keyed n c d pairs q [] f h h' s t shared = absurd (no_empty_walk m b h)
  link_keyed n c d pairs q (u ∷ w) [] h h' s t shared = absurd (no_empty_walk m b h')
  link_keyed n c d pairs q (u ∷ w) (u' ∷ w') h h' s t shared =
      let (lc, rest) = and_parts (concept_in_range (counts_of m) c) (concept_in_range (counts_of m) d && pairs_in_range (counts_of m) pairs) (key_in_range_lem n (Link c d pairs) q) in
      let (ld, _) = and_parts (concept_in_range (counts_of m) d) (pairs_in_range (counts_of m) pairs) rest in
      ⊎_elim (λ e. e)
      (λ near. let (p, first) = first_pair pairs in
      let (one, one', _) = near 0 p first in
      let e = ap (λ z. u ∷ z) one in
      let e' = ap (λ z. u' ∷ z) one' in
      let same = keyed_near n c d pairs q (in_lexicon c lc) (in_lexicon d ld) u u'
      (subst (λ f. walk m b f ≡ true) e h) (subst (λ f. walk m b f ≡ true) e' h')
      (subst (λ f. sense m b f c.0 ≡ true) e s) (subst (λ f. sense m b f d.0 ≡ true) e' t)
      (λ j p there. (near j p there).2) in
      e ∙ ap (λ z. z ∷ []) same ∙ sym e')
      (split_rows (Near u w u' w') (pair_list pairs) (λ j p there. share_cases u w u' w' p (shared j p there)))

  keyed : (n : ℕ) (k : Key) → row_at m.keys n ≡ Ok k → KeyedRow (walks m b) k
  keyed n (Link c d pairs) q = link_keyed n c d pairs q
  keyed n (UnlistedKey count) q = false≢true (key_in_range_lem n (UnlistedKey count) q)

  pub walks_satisfy : Satisfies (walks m b) m
  walks_satisfy =
      record {
        assertions = λ n a q. held_asserted a (assertion_in_range_lem n a q) (holds.assertions_held n a q);
        inclusions = included;
        keys = keyed;
      }

pub open_walks_satisfy : OpenWalksSatisfy
open_walks_satisfy m b range some-individual some_entry placed holds =
    let standing = placed_standing m b placed in
    (walks_lawful m b range some-individual some_entry standing holds, walks_satisfy m b range some-individual some_entry standing holds)
