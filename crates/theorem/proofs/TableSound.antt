-- The rule table is sound: in an interpretation that satisfies the base, true needs make the adds or the right side true.
use Rattle.std.proofs.Common.{◌≡◌, ℕ, zero, suc, ◌+◌, ◌-◌, ◌*◌, ◌/◌, ◌%◌, ◌<◌, ◌≤◌, Bool, true, false, cond, not, ◌&&◌, eqb, ltb, ◌⊎◌, List, [], ◌∷◌, length, Some, None, Ok, Err, Option, Result, sym, refl, ap, ◌∙◌, subst, inl, inr, ⊎_elim, arith}
use Rattle.std.proofs.lemmas.Bool.{and_parts, both_ways, cases_Bool, cond-false, cond-true, cond_both, eq-eqb, eqb-false, eqb-true, ltb-true, ne_eqb, not_from_false, not_from_true}
use Rattle.std.specs.List.{AllByRecursion}
use Rattle.rows.proofs.RowLaws.{row_at-found}
use Rattle.rows.specs.declared.fault.RowFault.{RowFault}
use Rattle.rows.specs.Rows.{row_at}
use Rattle.kb.specs.declared.axioms.Assertion.{Assertion}
use Rattle.kb.specs.declared.axioms.Assertion.TheVariants.{Is, Joins, Same, Different, Unlisted}
use Rattle.kb.specs.declared.axioms.Key.{Key as KeyRow}
use Rattle.kb.specs.declared.axioms.Key.TheVariants.{Link, Unlisted as UnlistedKey}
use Rattle.kb.specs.declared.axioms.RolePair.{RolePair}
use Rattle.kb.specs.declared.lexicon.Entry.{Entry}
use Rattle.kb.specs.declared.lexicon.Entry.TheVariants.{Top, Name, Both as BothEntry, Some as SomeEntry, Unlisted as UnlistedEntry}
use Rattle.kb.specs.declared.names.Concept.{Concept}
use Rattle.kb.specs.declared.names.Individual.{Individual}
use Rattle.kb.specs.Check.{InRange, row_passes, there_and}
use Rattle.kb.specs.Interpretations.{Asserted, Element, EntryAt, In, Interpretation, Joined, JoinedInto, KeyedRow, Lawful, Satisfies, Share}
use Rattle.kb.specs.Meanings.{Meaning, counts_of}
use Rattle.kb.specs.Names.{complement, entry_number}
use Rattle.kb.specs.Numbers.{pair_list}
use Rattle.kb.specs.Range.{assertion_in_range, entry_in_range, individual_in_range, role_in_range, concept_in_range}
use Rattle.calculus.specs.declared.fault.StepFault.{StepFault}
use Rattle.calculus.specs.declared.fault.StepFault.TheVariants.{Kind}
use Rattle.calculus.specs.declared.row_kinds.ConceptRow.{ConceptRow}
use Rattle.calculus.specs.declared.shape.Shape.{Shape}
use Rattle.calculus.specs.declared.shape.Shape.TheVariants.{Plain, Both as BothShape, Some as SomeShape, NotBoth, NotSome}
use Rattle.calculus.specs.declared.step.Step.{Step}
use Rattle.calculus.specs.declared.step.Step.TheVariants.{Take, Both, All as AllStep, Some as SomeStep, Include, Key, Either, Cut, Clash, Apart}
use Rattle.calculus.specs.Table.{Rule, adding, adding_fresh, all_below, all_rule, below, both_rule, closing, either_rule, entry_shape, include_rule, key_rule, row_in, rule, shape_in, shape_of, sharing, some_rule, splitting}
use Rattle.calculus.proofs.Accepting.{Err_not_Ok, Ok_injective, and_then_Ok, cond_Ok, inside_Ok, row_in_Ok}
use Rattle.theorem.proofs.Truth.{True}

-- a row that is there passes the test that the row of its number passes
pub row-passes : {X : Type 0} (test : ℕ → X → Bool) (xs : List X) (k : ℕ) (x : X) → row_at xs k ≡ Ok x → row_passes test xs k ≡ true → test k x ≡ true
row-passes test xs k x e h = sym (ap (there_and (test k)) e) ∙ h

-- an assignment with e for n
abbrev pub assigned : (ℕ → List ℕ) → ℕ → List ℕ → ℕ → List ℕ
assigned at n e x = cond (eqb x n) e (at x)

pub assigned-new : (at : ℕ → List ℕ) (n : ℕ) (e : List ℕ) → assigned at n e n ≡ e
assigned-new at n e = cond-true (eqb n n) e (at n) (eq-eqb n n refl)

pub assigned_old : (at : ℕ → List ℕ) (n : ℕ) (e : List ℕ) (x : ℕ) → x < n → assigned at n e x ≡ at x
assigned_old at n e x l = cond-false (eqb x n) e (at x) (ne_eqb x n (λ q. omega arith))

-- Two assignments agree on the first n individuals.
abbrev pub Agree : ℕ → (ℕ → List ℕ) → (ℕ → List ℕ) → Type 0
Agree n at at' = (x : ℕ) → x < n → at' x ≡ at x

module _ (I : Interpretation) where
  -- The right side of a split is true.
  abbrev pub SideTrue : (ℕ → List ℕ) → Option ConceptRow → Type 0
  SideTrue at None = ⊥
  SideTrue at (Some q) = True I at (Is q.concept q.individual)

  -- An assignment that goes on from `at`, where there are n individuals, and makes what is added or the right side true.
  pub record Continues (n : ℕ) (at : ℕ → List ℕ) (r : Rule) : Type 0 where
    pub next : ℕ → List ℕ
    pub elements : (x : ℕ) → Element I (next x)
    pub agree : Agree n at next
    pub either : AllByRecursion (True I next) r.adds ⊎ SideTrue next r.split

  abbrev pub Follows : ℕ → (ℕ → List ℕ) → Bool → Rule → Type 0
  Follows n at true r = ⊥
  Follows n at false r = Continues n at r

  -- A line of the table is sound: where its needs are true it cannot close, and an assignment goes on.
  abbrev pub Sound : ℕ → (ℕ → List ℕ) → Rule → Type 0
  Sound n at r = AllByRecursion (True I at) r.needs → Follows n at r.closes r

  module _ (m : Meaning) where
    -- Every individual is given an element, and each of the base its own.
    pub record Assigns (n : ℕ) (at : ℕ → List ℕ) : Type 0 where
      pub elements : (x : ℕ) → Element I (at x)
      pub named : (x : Individual) → x.0 < m.individuals → at x.0 ≡ I.individual x
      pub base : m.individuals ≤ n

    module _ (range : InRange m) (lawful : Lawful I m.entries) (satisfies : Satisfies I m) where
      -- whether an element is in the concept of a number
      abbrev in_number : List ℕ → ℕ → Bool
      in_number e c = I.concept e (record { 0 = c })

      not-not : (s t : Bool) → s ≡ not t → t ≡ not s
      not-not s true e = ap not (sym e)
      not-not s false e = ap not (sym e)

      -- a concept of the lexicon is yes exactly where its complement is no
      pub complement-not : (e : List ℕ) (c : Concept) → Element I e → entry_number c < length m.entries → I.concept e (complement c) ≡ not (I.concept e c)
      complement-not e c d l = by_half (c.0 % 2) refl
        where
          law : in_number e (2 * (c.0 / 2) + 1) ≡ not (in_number e (2 * (c.0 / 2)))
          law = lawful.complement e (c.0 / 2) d l

          by_half : (h : ℕ) → c.0 % 2 ≡ h → I.concept e (complement c) ≡ not (I.concept e c)
          by_half zero q =
              let p : c.0 ≡ 2 * (c.0 / 2) = omega arith in
              let s : c.0 + 1 - 2 * (c.0 % 2) ≡ 2 * (c.0 / 2) + 1 = omega arith in
              ap (in_number e) s ∙ law ∙ ap (λ k. not (in_number e k)) (sym p)
          by_half (suc h) q =
              let p : c.0 ≡ 2 * (c.0 / 2) + 1 = omega arith in
              let s : c.0 + 1 - 2 * (c.0 % 2) ≡ 2 * (c.0 / 2) = omega arith in
              ap (in_number e) s ∙ not-not (in_number e (2 * (c.0 / 2) + 1)) (in_number e (2 * (c.0 / 2))) law ∙ ap (λ k. not (in_number e k)) (sym p)

      pub complement_yes : (e : List ℕ) (c : Concept) → Element I e → entry_number c < length m.entries → I.concept e c ≡ false → In I (complement c) e
      complement_yes e c d l h = complement-not e c d l ∙ not_from_false (I.concept e c) h

      pub complement_no : (e : List ℕ) (c : Concept) → Element I e → entry_number c < length m.entries → In I c e → In I (complement c) e → ⊥
      complement_no e c d l h g = both_ways (I.concept e (complement c)) (complement-not e c d l ∙ not_from_true (I.concept e c) h) g

      -- an entry's complement is yes, so the entry is no
      odd_no : (e : List ℕ) (c : Concept) → Element I e → entry_number c < length m.entries → eqb (c.0 % 2) 0 ≡ false → In I c e → In I (record { 0 = 2 * entry_number c }) e → ⊥
      odd_no e c d l o h g =
          let p : c.0 + 1 - 2 * (c.0 % 2) ≡ 2 * (c.0 / 2) = omega (arith, eqb-false (c.0 % 2) 0 o) in
          complement_no e c d l h (ap (in_number e) p ∙ g)

      even_yes : (e : List ℕ) (c : Concept) → eqb (c.0 % 2) 0 ≡ true → In I c e → In I (record { 0 = 2 * entry_number c }) e
      even_yes e c o h =
          let p : 2 * (c.0 / 2) ≡ c.0 = omega (arith, eqb-true (c.0 % 2) 0 o) in
          ap (in_number e) p ∙ h

      -- What a concept's shape says of an element that is in the concept.
      abbrev ShapeAt : List ℕ → Shape → Type 0
      ShapeAt e Plain = Unit {0}
      ShapeAt e (BothShape d f) = In I d e × In I f e
      ShapeAt e (SomeShape r d) = JoinedInto I r d e
      ShapeAt e (NotBoth d f) = In I (complement d) e ⊎ In I (complement f) e
      ShapeAt e (NotSome r d) = (f : List ℕ) → Element I f → Joined I r e f → In I (complement d) f

      shape_of-at : (e : List ℕ) (c : Concept) (t : Entry) (even : Bool) → eqb (c.0 % 2) 0 ≡ even → Element I e → entry_number c < length m.entries → entry_in_range (counts_of m) (entry_number c) t ≡ true → EntryAt I e (entry_number c) t → In I c e → ShapeAt e (shape_of even t)
      shape_of-at e c Top even o d l r h i = tt
      shape_of-at e c Name even o d l r h i = tt
      shape_of-at e c (BothEntry p q) true o d l r h i = h.0 (even_yes e c o i)
      shape_of-at e c (BothEntry p q) false o d l r h i =
          let s = and_parts (ltb (entry_number p) (entry_number c)) (ltb (entry_number q) (entry_number c)) r in
          let pl : entry_number p < length m.entries = omega (arith, ltb-true (entry_number p) (entry_number c) s.0) in
          let ql : entry_number q < length m.entries = omega (arith, ltb-true (entry_number q) (entry_number c) s.1) in
          ⊎_elim
          (λ a. ⊎_elim (λ b. absurd (odd_no e c d l o i (h.1 (a, b)))) (λ b. inr (complement_yes e q d ql b)) (cases_Bool (I.concept e q)))
          (λ a. inl (complement_yes e p d pl a))
          (cases_Bool (I.concept e p))
      shape_of-at e c (SomeEntry s p) true o d l r h i = h.0 (even_yes e c o i)
      shape_of-at e c (SomeEntry s p) false o d l r h i = λ f g j.
          let u = and_parts (role_in_range (counts_of m) s) (ltb (entry_number p) (entry_number c)) r in
          let pl : entry_number p < length m.entries = omega (arith, ltb-true (entry_number p) (entry_number c) u.1) in
          ⊎_elim (λ a. absurd (odd_no e c d l o i (h.1 (f, g, j, a)))) (complement_yes f p g pl) (cases_Bool (I.concept f p))
      shape_of-at e c (UnlistedEntry kind) even o d l r h i = tt

      -- What a concept that was looked up tells: the numbers are in range, it is of the lexicon, and its shape is so.
      record Shaped (b : Bool) (c : Concept) (s : Shape) : Type 0 where
        in_range : b ≡ true
        there : entry_number c < length m.entries
        at_element : (e : List ℕ) → Element I e → In I c e → ShapeAt e s

      entry_shape_Ok : (b : Bool) (c : Concept) (s : Shape) (t : Result Entry RowFault) → row_at m.entries (entry_number c) ≡ t → entry_shape b c t ≡ Ok s → Shaped b c s
      entry_shape_Ok b c s (Ok t) f e =
          let q = inside_Ok b (shape_of (eqb (c.0 % 2) 0) t) s e in
          let l = row_at-found m.entries (entry_number c) t f in
          let r = row-passes (entry_in_range (counts_of m)) m.entries (entry_number c) t f (range.entries (entry_number c) l) in
          record {
            in_range = q.0;
            there = l;
            at_element = λ x d i. subst (ShapeAt x) q.1 (shape_of-at x c t (eqb (c.0 % 2) 0) refl d l r (lawful.entries x (entry_number c) t d f) i);
          }
      entry_shape_Ok b c s (Err g) f e = Err_not_Ok e

      module _ (n : ℕ) (at : ℕ → List ℕ) (A : Assigns n at) where
        shaped : (b : Bool) (c : Concept) (s : Shape) → shape_in m n b c ≡ Ok s → Shaped b c s
        shaped b c s e = entry_shape_Ok b c s (row_at m.entries (entry_number c)) refl e

        -- The same assignment makes the adds true.
        same-adds : (needs adds : List Assertion) → (AllByRecursion (True I at) needs → AllByRecursion (True I at) adds) → Sound n at (adding needs adds)
        same-adds needs adds h t = record { next = at; elements = A.elements; agree = λ x l. refl; either = inl (h t) }

        -- Or one of two sides.
        same_sides : (needs : List Assertion) (left right : Concept) (x : Individual) → (AllByRecursion (True I at) needs → True I at (Is left x) ⊎ True I at (Is right x)) → Sound n at (splitting needs left right x)
        same_sides needs left right x h t =
            record { next = at; elements = A.elements; agree = λ x l. refl; either = ⊎_elim (λ p. inl (p, tt)) inr (h t) }

        rule-is : {r s : Rule} → ◌≡◌ {A = Result Rule StepFault} (Ok r) (Ok s) → Sound n at r → Sound n at s
        rule-is e h = subst (Sound n at) (Ok_injective e) h

        -- Each assertion of the base is true.
        taken_true : (a : Assertion) → assertion_in_range (counts_of m) a ≡ true → Asserted I a → True I at a
        taken_true (Is c x) r h =
            let p = and_parts (concept_in_range (counts_of m) c) (individual_in_range (counts_of m) x) r in
            cc (A.named x (ltb-true x.0 m.individuals p.1), h)
        taken_true (Joins s x y) r h =
            let p = and_parts (role_in_range (counts_of m) s) (individual_in_range (counts_of m) x && individual_in_range (counts_of m) y) r in
            let q = and_parts (individual_in_range (counts_of m) x) (individual_in_range (counts_of m) y) p.1 in
            cc (A.named x (ltb-true x.0 m.individuals q.0), A.named y (ltb-true y.0 m.individuals q.1), h)
        taken_true (Same x y) r h =
            let q = and_parts (individual_in_range (counts_of m) x) (individual_in_range (counts_of m) y) r in
            A.named x (ltb-true x.0 m.individuals q.0) ∙ h ∙ sym (A.named y (ltb-true y.0 m.individuals q.1))
        taken_true (Different x y) r h =
            let q = and_parts (individual_in_range (counts_of m) x) (individual_in_range (counts_of m) y) r in
            λ e. h (sym (A.named x (ltb-true x.0 m.individuals q.0)) ∙ e ∙ A.named y (ltb-true y.0 m.individuals q.1))
        taken_true (Unlisted kind) r h = h

        both_sound : (c : Concept) (x : Individual) (r : Rule) (s : Shape) → (In I c (at x.0) → ShapeAt (at x.0) s) → both_rule c x s ≡ Ok r → Sound n at r
        both_sound c x r Plain h e = Err_not_Ok e
        both_sound c x r (BothShape d f) h e =
            rule-is e (same-adds (Is c x ∷ []) (Is d x ∷ Is f x ∷ []) (λ t. let q = h t.0 in (q.0, (q.1, tt))))
        both_sound c x r (SomeShape s d) h e = Err_not_Ok e
        both_sound c x r (NotBoth d f) h e = Err_not_Ok e
        both_sound c x r (NotSome s d) h e = Err_not_Ok e

        all_sound : (c : Concept) (x y : Individual) (r : Rule) (s : Shape) → (In I c (at x.0) → ShapeAt (at x.0) s) → all_rule c x y s ≡ Ok r → Sound n at r
        all_sound c x y r Plain h e = Err_not_Ok e
        all_sound c x y r (BothShape d f) h e = Err_not_Ok e
        all_sound c x y r (SomeShape s d) h e = Err_not_Ok e
        all_sound c x y r (NotBoth d f) h e = Err_not_Ok e
        all_sound c x y r (NotSome s d) h e =
            rule-is e (same-adds (Is c x ∷ Joins s x y ∷ []) (Is (complement d) y ∷ []) (λ t. (h t.0 (at y.0) (A.elements y.0) t.1.0, tt)))

        -- the new individual is given the element that the role joins to
        some_sound : (c : Concept) (x : Individual) (r : Rule) (s : Shape) → (In I c (at x.0) → ShapeAt (at x.0) s) → x.0 < n → some_rule c x (record { 0 = n }) s ≡ Ok r → Sound n at r
        some_sound c x r Plain h l e = Err_not_Ok e
        some_sound c x r (BothShape d f) h l e = Err_not_Ok e
        some_sound c x r (SomeShape s d) h l e = rule-is e (λ t. goes_on (h t.0))
          where
            goes_on : JoinedInto I s d (at x.0) → Continues n at (adding_fresh (Is c x ∷ []) (Joins s x (record { 0 = n }) ∷ Is d (record { 0 = n }) ∷ []))
            goes_on w =
                let old = assigned_old at n w.0 x.0 l in
                let new = assigned-new at n w.0 in
                record {
                  next = assigned at n w.0;
                  elements = λ y. cond_both (eqb y n) w.0 (at y) (Element I) (λ _. w.1) (λ _. A.elements y);
                  agree = assigned_old at n w.0;
                  either = inl (ap (λ u. I.joins s u (assigned at n w.0 n)) old ∙ ap (I.joins s (at x.0)) new ∙ w.2, (ap (λ u. I.concept u d) new ∙ w.3, tt));
                }
        some_sound c x r (NotBoth d f) h l e = Err_not_Ok e
        some_sound c x r (NotSome s d) h l e = Err_not_Ok e

        either_sound : (c : Concept) (x : Individual) (r : Rule) (s : Shape) → (In I c (at x.0) → ShapeAt (at x.0) s) → either_rule c x s ≡ Ok r → Sound n at r
        either_sound c x r Plain h e = Err_not_Ok e
        either_sound c x r (BothShape d f) h e = Err_not_Ok e
        either_sound c x r (SomeShape s d) h e = Err_not_Ok e
        either_sound c x r (NotBoth d f) h e =
            rule-is e (same_sides (Is c x ∷ []) (complement d) (complement f) x (λ t. h t.0))
        either_sound c x r (NotSome s d) h e = Err_not_Ok e

        -- where the shared values are joined, each pair is shared
        sharing_shares : (x y : Individual) (ps : List RolePair) (zs : List Individual) → length zs ≡ length ps → AllByRecursion (True I at) (sharing x y ps zs) → (k : ℕ) (p : RolePair) → row_at ps k ≡ Ok p → Share I (at x.0) (at y.0) p
        sharing_shares x y [] zs e h k p q = Err_not_Ok q
        sharing_shares x y (p ∷ ps) [] e h k p' q = absurd (omega arith)
        sharing_shares x y (p ∷ ps) (z ∷ zs) e h zero p' q =
            subst (Share I (at x.0) (at y.0)) (Ok_injective q) (at z.0, A.elements z.0, h.0, h.1.0)
        sharing_shares x y (p ∷ ps) (z ∷ zs) e h (suc k) p' q = sharing_shares x y ps zs (omega arith) h.1.1 k p' q

        key_sound : (x y : Individual) (zs : List Individual) (key : KeyRow) (r : Rule) → KeyedRow I key → key_rule x y zs key ≡ Ok r → Sound n at r
        key_sound x y zs (UnlistedKey count) r h e = Err_not_Ok e
        key_sound x y zs (Link c d pairs) r h e =
            let needs = Is c x ∷ Is d y ∷ sharing x y (pair_list pairs) zs in
            let q = cond_Ok (eqb (length zs) (length (pair_list pairs))) (Ok (adding needs (Same x y ∷ []))) Kind r e in
            let same = eqb-true (length zs) (length (pair_list pairs)) q.0 in
            rule-is q.1 (same-adds needs (Same x y ∷ []) (λ t.
            (h (at x.0) (at y.0) (A.elements x.0) (A.elements y.0) t.0 t.1.0 (sharing_shares x y (pair_list pairs) zs same t.1.1), tt)))

        -- Every line of the table is sound.
        pub table_sound : (t : Step) (r : Rule) → rule m n t ≡ Ok r → Sound n at r
        table_sound (Take k) r e =
            let p = and_then_Ok (row_in m n true (row_at m.assertions k)) (λ a. Ok (adding [] (a ∷ []))) r e in
            let q = row_in_Ok m n true (row_at m.assertions k) p.0 p.1 in
            let l = row_at-found m.assertions k p.0 q.1 in
            let i = row-passes (λ _. assertion_in_range (counts_of m)) m.assertions k p.0 q.1 (range.assertions k l) in
            rule-is p.2 (same-adds [] (p.0 ∷ []) (λ _. (taken_true p.0 i (satisfies.assertions k p.0 q.1), tt)))
        table_sound (Both c x) r e =
            let p = and_then_Ok (shape_in m n (below n x) c) (both_rule c x) r e in
            let s = shaped (below n x) c p.0 p.1 in
            both_sound c x r p.0 (s.at_element (at x.0) (A.elements x.0)) p.2
        table_sound (AllStep c x y) r e =
            let p = and_then_Ok (shape_in m n (below n x && below n y) c) (all_rule c x y) r e in
            let s = shaped (below n x && below n y) c p.0 p.1 in
            all_sound c x y r p.0 (s.at_element (at x.0) (A.elements x.0)) p.2
        table_sound (SomeStep c x) r e =
            let p = and_then_Ok (shape_in m n (below n x) c) (some_rule c x (record { 0 = n })) r e in
            let s = shaped (below n x) c p.0 p.1 in
            some_sound c x r p.0 (s.at_element (at x.0) (A.elements x.0)) (ltb-true x.0 n s.in_range) p.2
        table_sound (Include k x) r e =
            let p = and_then_Ok (row_in m n (below n x) (row_at m.inclusions k)) (include_rule x) r e in
            let i = p.0 in
            let q = row_in_Ok m n (below n x) (row_at m.inclusions k) i p.1 in
            rule-is p.2 (same-adds (Is i.sub x ∷ []) (Is i.sup x ∷ []) (λ t. (satisfies.inclusions k i q.1 (at x.0) (A.elements x.0) t.0, tt)))
        table_sound (Key k x y zs) r e =
            let b = below n x && (below n y && all_below n zs.now) in
            let p = and_then_Ok (row_in m n b (row_at m.keys k)) (key_rule x y zs.now) r e in
            let q = row_in_Ok m n b (row_at m.keys k) p.0 p.1 in
            key_sound x y zs.now p.0 r (satisfies.keys k p.0 q.1) p.2
        table_sound (Either c x) r e =
            let p = and_then_Ok (shape_in m n (below n x) c) (either_rule c x) r e in
            let s = shaped (below n x) c p.0 p.1 in
            either_sound c x r p.0 (s.at_element (at x.0) (A.elements x.0)) p.2
        table_sound (Cut c x) r e =
            let p = and_then_Ok (shape_in m n (below n x) c) (λ _. Ok (splitting [] c (complement c) x)) r e in
            let s = shaped (below n x) c p.0 p.1 in
            rule-is p.2 (same_sides [] c (complement c) x (λ _. ⊎_elim inl (λ f. inr (complement_yes (at x.0) c (A.elements x.0) s.there f)) (cases_Bool (I.concept (at x.0) c))))
        table_sound (Clash c x) r e =
            let p = and_then_Ok (shape_in m n (below n x) c) (λ _. Ok (closing (Is c x ∷ Is (complement c) x ∷ []))) r e in
            let s = shaped (below n x) c p.0 p.1 in
            rule-is p.2 (λ t. complement_no (at x.0) c (A.elements x.0) s.there t.0 t.1.0)
        table_sound (Apart x y) r e =
            let q = inside_Ok (below n x && below n y) (closing (Different x y ∷ Same x y ∷ [])) r e in
            subst (Sound n at) q.1 (λ t. t.0 t.1.0)
