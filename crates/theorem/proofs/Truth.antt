-- Assignments of elements to individuals: what is held on a branch is true where its rows are true.
use Rattle.std.proofs.Common.{◌≡◌, ℕ, min, Bool, true, false, ◌&&◌, ◌||◌, eqb, List, [], ◌∷◌, sym, refl, ap, ◌∙◌, ⊎_elim, arith}
use Rattle.std.proofs.lemmas.Bool.{and_parts, both_ways, cases_lt, cond_both, eqb-true, or_cases}
use Rattle.std.specs.List.{AllByRecursion, list_all, list_any}
use Rattle.kb.specs.declared.axioms.Assertion.{Assertion}
use Rattle.kb.specs.declared.axioms.Assertion.TheVariants.{Is, Joins, Same, Different, Unlisted}
use Rattle.kb.specs.declared.names.Concept.{Concept}
use Rattle.kb.specs.declared.names.Individual.{Individual}
use Rattle.kb.specs.declared.names.Role.{Role}
use Rattle.kb.specs.Interpretations.{Interpretation, In, Joined}
use Rattle.kb.specs.Meanings.{Meaning}
use Rattle.calculus.specs.declared.row_kinds.ConceptRow.{ConceptRow}
use Rattle.calculus.specs.declared.row_kinds.PairRow.{PairRow}
use Rattle.calculus.specs.declared.row_kinds.PairRow.TheVariants.{Same as SameRow, Different as DifferentRow}
use Rattle.calculus.specs.declared.row_kinds.RoleRow.{RoleRow}
use Rattle.calculus.specs.Branches.{Branch, concept_row_holds, equal, head_of, heads_from, held, join_heads, merged, pair_row_holds, role_row_holds}

-- where each item is P, and a test passes at some item
pub any_all : {A Q : Type 0} (P : A → Type 0) (test : A → Bool) (xs : List A) → AllByRecursion P xs → list_any test xs ≡ true → ((x : A) → test x ≡ true → P x → Q) → Q
any_all P test [] a e k = absurd (both_ways false refl e)
any_all P test (x ∷ xs) a e k =
    ⊎_elim (λ t. k x t a.0) (λ t. any_all P test xs a.1 t k) (or_cases (test x) (list_any test xs) e)

-- where each item is P, and a test passes at every item
pub every_all : {A : Type 0} (P Q : A → Type 0) (test : A → Bool) (xs : List A) → list_all test xs ≡ true → ((x : A) → test x ≡ true → P x → Q x) → AllByRecursion P xs → AllByRecursion Q xs
every_all P Q test [] e k a = tt
every_all P Q test (x ∷ xs) e k a =
    let p = and_parts (test x) (list_all test xs) e in
    (k x p.0 a.0, every_all P Q test xs p.1 k a.1)

pub every-passes : {A : Type 0} (Q : A → Type 0) (test : A → Bool) (xs : List A) → list_all test xs ≡ true → ((x : A) → test x ≡ true → Q x) → AllByRecursion Q xs
every-passes Q test [] e k = tt
every-passes Q test (x ∷ xs) e k =
    let p = and_parts (test x) (list_all test xs) e in
    (k x p.0, every-passes Q test xs p.1 k)

-- what `merged` gives has the same element, where u and v have one
merged-at : {E : Type 0} (at : ℕ → E) (u v x : ℕ) → at u ≡ at v → at (merged u v x) ≡ at x
merged-at at u v x e =
    cond_both (eqb x u || eqb x v) (min u v) x (λ y. at y ≡ at x)
    (λ t. ⊎_elim (λ q. least ∙ ap at (sym (eqb-true x u q))) (λ q. least ∙ e ∙ ap at (sym (eqb-true x v q))) (or_cases (eqb x u) (eqb x v) t))
    (λ _. refl)
  where
    least : at (min u v) ≡ at u
    least = ⊎_elim (λ l. let p : min u v ≡ u = omega arith in ap at p) (λ l. let p : min u v ≡ v = omega arith in ap at p ∙ sym e) (cases_lt u v)

module _ (I : Interpretation) (at : ℕ → List ℕ) where
  -- An assertion is true where its individuals are the elements that `at` gives; one of an unlisted kind never is.
  abbrev pub True : Assertion → Type 0
  True (Is c x) = In I c (at x.0)
  True (Joins r x y) = Joined I r (at x.0) (at y.0)
  True (Same x y) = at x.0 ≡ at y.0
  True (Different x y) = at x.0 ≡ at y.0 → ⊥
  True (Unlisted kind) = ⊥

  -- So is a row.
  abbrev pub ConceptTrue : ConceptRow → Type 0
  ConceptTrue w = True (Is w.concept w.individual)

  abbrev pub RoleTrue : RoleRow → Type 0
  RoleTrue w = True (Joins w.role w.from w.to)

  abbrev pub PairTrue : PairRow → Type 0
  PairTrue (SameRow x y) = True (Same x y)
  PairTrue (DifferentRow x y) = True (Different x y)

  -- Every row of a branch is true.
  pub record RowsTrue (b : Branch) : Type 0 where
    pub concepts : AllByRecursion ConceptTrue b.concepts
    pub roles : AllByRecursion RoleTrue b.roles
    pub pairs : AllByRecursion PairTrue b.pairs

  -- Heads have the elements of those that they are heads of.
  abbrev HeadsAt : (ℕ → ℕ) → Type 0
  HeadsAt head = (x : ℕ) → at (head x) ≡ at x

  join_heads-at : (head : ℕ → ℕ) (p : PairRow) → HeadsAt head → PairTrue p → HeadsAt (join_heads head p)
  join_heads-at head (SameRow x y) h t z =
      merged-at at (head x.0) (head y.0) (head z) (h x.0 ∙ t ∙ sym (h y.0)) ∙ h z
  join_heads-at head (DifferentRow x y) h t z = h z

  heads_from-at : (head : ℕ → ℕ) (pairs : List PairRow) → HeadsAt head → AllByRecursion PairTrue pairs → HeadsAt (heads_from head pairs)
  heads_from-at head [] h a = h
  heads_from-at head (p ∷ ps) h a = heads_from-at (join_heads head p) ps (join_heads-at head p h a.0) a.1

  pub head_of-at : (pairs : List PairRow) → AllByRecursion PairTrue pairs → HeadsAt (head_of pairs)
  unfolding head_of
  head_of-at pairs a = heads_from-at (λ x. x) pairs (λ x. refl) a

  -- equal individuals have one element
  pub equal-at : (pairs : List PairRow) → AllByRecursion PairTrue pairs → (x y : Individual) → equal pairs x y ≡ true → at x.0 ≡ at y.0
  equal-at pairs a x y e =
      sym (head_of-at pairs a x.0) ∙ ap at (eqb-true (head_of pairs x.0) (head_of pairs y.0) e) ∙ head_of-at pairs a y.0

  module _ (m : Meaning) (b : Branch) (rows : RowsTrue b) where
    concept_row_true : (c : Concept) (x : Individual) (w : ConceptRow) → concept_row_holds m b c x w ≡ true → ConceptTrue w → True (Is c x)
    concept_row_true c x w t h =
        let p = and_parts (eqb w.concept.0 c.0) (equal b.pairs w.individual x) t in
        let q : w.concept ≡ c = λ i. record { 0 = eqb-true w.concept.0 c.0 p.0 i } in
        cc (q, equal-at b.pairs rows.pairs w.individual x p.1, h)

    role_row_true : (r : Role) (x y : Individual) (w : RoleRow) → role_row_holds m b r x y w ≡ true → RoleTrue w → True (Joins r x y)
    role_row_true r x y w t h =
        let p = and_parts (eqb w.role.0 r.0) (equal b.pairs w.from x && equal b.pairs w.to y) t in
        let q = and_parts (equal b.pairs w.from x) (equal b.pairs w.to y) p.1 in
        let s : w.role ≡ r = λ i. record { 0 = eqb-true w.role.0 r.0 p.0 i } in
        cc (s, equal-at b.pairs rows.pairs w.from x q.0, equal-at b.pairs rows.pairs w.to y q.1, h)

    pair_row_true : (x y : Individual) (w : PairRow) → pair_row_holds m b x y w ≡ true → PairTrue w → True (Different x y)
    pair_row_true x y (SameRow v w) t h = absurd (both_ways false refl t)
    pair_row_true x y (DifferentRow v w) t h = λ e.
        ⊎_elim
        (λ s. let p = and_parts (equal b.pairs v x) (equal b.pairs w y) s in
        h (equal-at b.pairs rows.pairs v x p.0 ∙ e ∙ sym (equal-at b.pairs rows.pairs w y p.1)))
        (λ s. let p = and_parts (equal b.pairs v y) (equal b.pairs w x) s in
        h (equal-at b.pairs rows.pairs v y p.0 ∙ sym e ∙ sym (equal-at b.pairs rows.pairs w x p.1)))
        (or_cases (equal b.pairs v x && equal b.pairs w y) (equal b.pairs v y && equal b.pairs w x) t)

    -- what is held is true; concept 0 must be, everywhere
    pub held_true : ((x : ℕ) → In I (record { 0 = 0 }) (at x)) → (a : Assertion) → held m b a ≡ true → True a
    held_true top (Is c x) e =
        ⊎_elim
        (λ z. let q : c ≡ record { 0 = 0 } = λ i. record { 0 = eqb-true c.0 0 z i } in rw q (top x.0))
        (λ t. any_all ConceptTrue (concept_row_holds m b c x) b.concepts rows.concepts t (concept_row_true c x))
        (or_cases (eqb c.0 0) (list_any (concept_row_holds m b c x) b.concepts) e)
    held_true top (Joins r x y) e =
        any_all RoleTrue (role_row_holds m b r x y) b.roles rows.roles e (role_row_true r x y)
    held_true top (Same x y) e = equal-at b.pairs rows.pairs x y e
    held_true top (Different x y) e =
        any_all PairTrue (pair_row_holds m b x y) b.pairs rows.pairs e (pair_row_true x y)
    held_true top (Unlisted kind) e = absurd (both_ways false refl e)

    pub needs_true : ((x : ℕ) → In I (record { 0 = 0 }) (at x)) → (facts : List Assertion) → list_all (held m b) facts ≡ true → AllByRecursion True facts
    needs_true top facts e = every-passes True (held m b) facts e (held_true top)
