-- What is found held is held, and stays held as rows are appended.
use Rattle.std.proofs.Common.{◌≡◌, ℕ, Bool, true, ◌&&◌, eqb, List, ◌++◌, Ok, sym, refl, ap, ◌∙◌, subst, inl, inr, ⊎_elim}
use Rattle.std.proofs.lemmas.Bool.{and_from, and_parts, eq-eqb, eqb-true, false≢true, or_cases, or_left, or_right}
use Rattle.std.specs.List.{list_any}
use Rattle.rows.specs.Rows.{row_at}
use Rattle.kb.specs.declared.axioms.Assertion.{Assertion}
use Rattle.kb.specs.declared.axioms.Assertion.TheVariants.{Is, Joins, Same, Different, Unlisted}
use Rattle.kb.specs.declared.names.Concept.{Concept}
use Rattle.kb.specs.declared.names.Individual.{Individual}
use Rattle.kb.specs.Meanings.{Meaning}
use Rattle.calculus.specs.declared.row_kinds.ConceptRow.{ConceptRow}
use Rattle.calculus.specs.declared.row_kinds.PairRow.{PairRow}
use Rattle.calculus.specs.declared.row_kinds.PairRow.TheVariants.{Same as SameRow, Different as DifferentRow}
use Rattle.calculus.specs.Branches.{Branch, Equal, concept_row_holds, equal, held, pair_row_holds, role_holds, role_row_holds}
use Rattle.calculus.specs.Holding.{EitherOrder, Held}
use Rattle.calculus.specs.HeldLaws.{Extends, HeldMeans, HeldStays}
use Rattle.calculus.proofs.DecidingLaws.{decides_any, decides_true}
use Rattle.calculus.proofs.EqualityLaws.{Equal-append, Equal-from-equal, equal-from-Equal, row_at-append-found}

-- a test that passes at some item passes at the item of some number
pub any_found :
    {A : Type 0} (test : A → Bool) (xs : List A) → list_any test xs ≡ true → (n : ℕ) × (x : A) × (row_at xs n ≡ Ok x) × (test x ≡ true)
any_found test xs = (decides_any (λ x. decides_true (test x)) xs).0

pub any-from : {A : Type 0} (test : A → Bool) (xs : List A) (n : ℕ) (x : A) → row_at xs n ≡ Ok x → test x ≡ true → list_any test xs ≡ true
any-from test xs n x e t = (decides_any (λ y. decides_true (test y)) xs).1 (n, x, e, t)

module _ (m : Meaning) (b : Branch) where
  both-from :
      (v w x y : Individual) → Equal b.pairs v x → Equal b.pairs w y
      → (equal b.pairs v x && equal b.pairs w y) ≡ true
  both-from v w x y e f =
      and_from (equal b.pairs v x) (equal b.pairs w y) (equal-from-Equal b.pairs v x e) (equal-from-Equal b.pairs w y f)

  both-means :
      (v w x y : Individual) → (equal b.pairs v x && equal b.pairs w y) ≡ true
      → Equal b.pairs v x × Equal b.pairs w y
  both-means v w x y e =
      let p = and_parts (equal b.pairs v x) (equal b.pairs w y) e in
      (Equal-from-equal b.pairs v x p.0, Equal-from-equal b.pairs w y p.1)

  conceptRow-from :
      (c : Concept) (x : Individual) (r : ConceptRow) → r.concept ≡ c → Equal b.pairs r.individual x
      → concept_row_holds m b c x r ≡ true
  conceptRow-from c x r e f =
      and_from (eqb r.concept.0 c.0) (equal b.pairs r.individual x)
      (eq-eqb r.concept.0 c.0 (ap (λ (k : Concept). k.0) e)) (equal-from-Equal b.pairs r.individual x f)

  conceptRow-means :
      (c : Concept) (x : Individual) (r : ConceptRow) → concept_row_holds m b c x r ≡ true
      → (r.concept ≡ c) × Equal b.pairs r.individual x
  conceptRow-means c x r e =
      let p = and_parts (eqb r.concept.0 c.0) (equal b.pairs r.individual x) e in (
        ap (λ (n : ℕ). record { 0 = n }) (eqb-true r.concept.0 c.0 p.0),
        Equal-from-equal b.pairs r.individual x p.1,
      )

  pair_row_from : (x y v w : Individual) → EitherOrder (Equal b.pairs) v w x y → pair_row_holds m b x y (DifferentRow v w) ≡ true
  pair_row_from x y v w (inl (e, f)) = or_left (equal b.pairs v x && equal b.pairs w y) _ (both-from v w x y e f)
  pair_row_from x y v w (inr (e, f)) = or_right _ (equal b.pairs v y && equal b.pairs w x) (both-from v w y x e f)

  -- a pair row that holds "different" is a different row
  pairRow-means :
      (x y : Individual) (p : PairRow) → pair_row_holds m b x y p ≡ true
      → (v : Individual) × (w : Individual) × (p ≡ DifferentRow v w) × EitherOrder (Equal b.pairs) v w x y
  pairRow-means x y (SameRow v w) e = absurd (false≢true e)
  pairRow-means x y (DifferentRow v w) e = (
    v,
    w,
    refl,
    ⊎_elim (λ t. inl (both-means v w x y t)) (λ t. inr (both-means v w y x t))
        (or_cases (equal b.pairs v x && equal b.pairs w y) (equal b.pairs v y && equal b.pairs w x) e),
  )

  -- what is held is found held
  pub held-from : (a : Assertion) → Held m b a → held m b a ≡ true
  held-from (Is c x) (inl e) = or_left (eqb c.0 0) _ (eq-eqb c.0 0 e)
  held-from (Is c x) (inr (n, r, e, f, g)) =
      or_right (eqb c.0 0) _ (any-from (concept_row_holds m b c x) b.concepts n r e (conceptRow-from c x r f g))
  held-from (Joins r x y) (n, w, e, f, g, h) =
      any-from (role_row_holds m b r x y) b.roles n w e
      (and_from (role_holds m w.role r) (equal b.pairs w.from x && equal b.pairs w.to y) f
      (both-from w.from w.to x y g h))
  held-from (Same x y) e = equal-from-Equal b.pairs x y e
  held-from (Different x y) (n, v, w, e, h) =
      any-from (pair_row_holds m b x y) b.pairs n (DifferentRow v w) e (pair_row_from x y v w h)
  held-from (Unlisted kind) e = absurd e

  -- what is found held is held
  pub held-means : (a : Assertion) → held m b a ≡ true → Held m b a
  held-means (Is c x) e =
      ⊎_elim (λ t. inl (eqb-true c.0 0 t))
      (λ t. let r = any_found (concept_row_holds m b c x) b.concepts t in
      let p = conceptRow-means c x r.1 r.3 in
      inr (r.0, r.1, r.2, p.0, p.1))
      (or_cases (eqb c.0 0) (list_any (concept_row_holds m b c x) b.concepts) e)
  held-means (Joins r x y) e =
      let f = any_found (role_row_holds m b r x y) b.roles e in
      let w = f.1 in
      let p = and_parts (role_holds m w.role r) (equal b.pairs w.from x && equal b.pairs w.to y) f.3 in
      let q = both-means w.from w.to x y p.1 in
      (f.0, w, f.2, p.0, q.0, q.1)
  held-means (Same x y) e = Equal-from-equal b.pairs x y e
  held-means (Different x y) e =
      let f = any_found (pair_row_holds m b x y) b.pairs e in
      let p = pairRow-means x y f.1 f.3 in
      (f.0, p.0, p.1, f.2 ∙ ap Ok p.2, p.3)
  held-means (Unlisted kind) e = absurd (false≢true e)

-- a row stays where it is as rows are appended
row_at_stays : {X : Type 0} (xs more xs' : List X) → xs' ≡ xs ++ more → (n : ℕ) (x : X) → row_at xs n ≡ Ok x → row_at xs' n ≡ Ok x
row_at_stays xs more xs' e n x f = ap (λ ys. row_at ys n) e ∙ row_at-append-found xs more n x f

module _ (m : Meaning) (b b' : Branch) (more : Extends b b') where
  pub Equal_stays : {x y : Individual} → Equal b.pairs x y → Equal b'.pairs x y
  Equal_stays {x} {y} e = subst (λ ps. Equal ps x y) (sym more.pairs) (Equal-append b.pairs more.more_pairs e)

  pub Held_stays : (a : Assertion) → Held m b a → Held m b' a
  Held_stays (Is c x) (inl e) = inl e
  Held_stays (Is c x) (inr (n, r, e, f, g)) =
      inr (n, r, row_at_stays b.concepts more.more_concepts b'.concepts more.concepts n r e, f, Equal_stays g)
  Held_stays (Joins r x y) (n, w, e, f, g, h) =
      (n, w, row_at_stays b.roles more.more_roles b'.roles more.roles n w e, f, Equal_stays g, Equal_stays h)
  Held_stays (Same x y) e = Equal_stays e
  Held_stays (Different x y) (n, v, w, e, h) =
      (n, v, w, row_at_stays b.pairs more.more_pairs b'.pairs more.pairs n (DifferentRow v w) e, either h)
    where
      either : EitherOrder (Equal b.pairs) v w x y → EitherOrder (Equal b'.pairs) v w x y
      either (inl (f, g)) = inl (Equal_stays f, Equal_stays g)
      either (inr (f, g)) = inr (Equal_stays f, Equal_stays g)
  Held_stays (Unlisted kind) e = e

  pub held_stays : (a : Assertion) → held m b a ≡ true → held m b' a ≡ true
  held_stays a e = held-from m b' a (Held_stays a (held-means m b a e))

pub held_means_held : HeldMeans × HeldStays
held_means_held = (record { means = held-means; from = held-from }, λ m b b' more a. held_stays m b b' more a)
