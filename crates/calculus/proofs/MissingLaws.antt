-- Of facts, those that are missing: they are of the facts, none is held before it is written, and every fact is held afterwards.
use Rattle.std.proofs.Common.{◌≡◌, ℕ, zero, suc, Bool, true, false, ◌&&◌, ◌||◌, eqb, List, [], ◌∷◌, ◌++◌, sym, refl, ap, ◌∙◌, subst, ⊎_elim, arith}
use Rattle.std.proofs.lemmas.Bool.{and_from, cases_Bool, eq-eqb, or_left, or_right}
use Rattle.std.proofs.lemmas.List.Folds.{list_any-append}
use Rattle.std.specs.List.{list_any}
use Rattle.kb.specs.declared.axioms.Assertion.{Assertion}
use Rattle.kb.specs.declared.axioms.Assertion.TheVariants.{Is, Joins, Same, Different, Unlisted}
use Rattle.kb.specs.declared.names.Individual.{Individual}
use Rattle.kb.specs.Meanings.{Meaning}
use Rattle.calculus.specs.declared.row_kinds.ConceptRow.{ConceptRow}
use Rattle.calculus.specs.declared.row_kinds.PairRow.{PairRow}
use Rattle.calculus.specs.declared.row_kinds.PairRow.TheVariants.{Same as SameRow, Different as DifferentRow}
use Rattle.calculus.specs.declared.row_kinds.RoleRow.{RoleRow}
use Rattle.calculus.specs.Branches.{Branch, concept_row_holds, equal, head_of, heads_from, held, join_heads, pair_row_holds, role_row_holds}
use Rattle.calculus.specs.HeldLaws.{HeldStays}
use Rattle.calculus.specs.StepLaws.{Among, appended, listed, missing}
use Rattle.calculus.proofs.EqualityLaws.{merged-left, merged_right}
use Rattle.calculus.proofs.WriteLaws.{appended_cons, appended_extends, appended-none, missing-held, missing-more}

-- the last item passes
any_last : {A : Type 0} (test : A → Bool) (xs : List A) (x : A) → test x ≡ true → list_any test (xs ++ x ∷ []) ≡ true
any_last test xs x h = list_any-append test xs (x ∷ []) ∙ or_right (list_any test xs) (test x || false) (or_left (test x) false h)

-- the heads after one pair row more
pub heads_from_last : (head : ℕ → ℕ) (ps : List PairRow) (p : PairRow) (z : ℕ) → heads_from head (ps ++ p ∷ []) z ≡ join_heads (heads_from head ps) p z
heads_from_last head [] p z = refl
heads_from_last head (q ∷ qs) p z = heads_from_last (join_heads head q) qs p z

equal-self : (pairs : List PairRow) (x : Individual) → equal pairs x x ≡ true
equal-self pairs x = eq-eqb (head_of pairs x.0) (head_of pairs x.0) refl

equal_last : (pairs : List PairRow) (x y : Individual) → equal (pairs ++ SameRow x y ∷ []) x y ≡ true
unfolding head_of
equal_last pairs x y =
    let u = heads_from (λ z. z) pairs x.0 in
    let v = heads_from (λ z. z) pairs y.0 in
    let e = heads_from_last (λ z. z) pairs (SameRow x y) x.0 ∙ merged-left u v in
    let f = heads_from_last (λ z. z) pairs (SameRow x y) y.0 ∙ merged_right u v in
    eq-eqb (heads_from (λ z. z) (pairs ++ SameRow x y ∷ []) x.0) (heads_from (λ z. z) (pairs ++ SameRow x y ∷ []) y.0) (e ∙ sym f)

module _ (m : Meaning) where
  -- a fact is held once it is written
  pub written_held : (a : Assertion) (b : Branch) → listed a ≡ true → held m (appended (a ∷ []) b) a ≡ true
  written_held (Is c x) b h =
      let b' = appended (Is c x ∷ []) b in
      let row : ConceptRow = record { concept = c; individual = x } in
      or_right (eqb c.0 0) (list_any (concept_row_holds m b' c x) b'.concepts)
      (any_last (concept_row_holds m b' c x) b.concepts row
      (and_from (eqb c.0 c.0) (equal b'.pairs x x) (eq-eqb c.0 c.0 refl) (equal-self b'.pairs x)))
  written_held (Joins r x y) b h =
      let b' = appended (Joins r x y ∷ []) b in
      let row : RoleRow = record { role = r; from = x; to = y } in
      any_last (role_row_holds m b' r x y) b.roles row
      (and_from (eqb r.0 r.0) (equal b'.pairs x x && equal b'.pairs y y) (eq-eqb r.0 r.0 refl)
      (and_from (equal b'.pairs x x) (equal b'.pairs y y) (equal-self b'.pairs x) (equal-self b'.pairs y)))
  written_held (Same x y) b h = equal_last b.pairs x y
  written_held (Different x y) b h =
      let b' = appended (Different x y ∷ []) b in
      any_last (pair_row_holds m b' x y) b.pairs (DifferentRow x y)
      (or_left (equal b'.pairs x x && equal b'.pairs y y) (equal b'.pairs x y && equal b'.pairs y x)
      (and_from (equal b'.pairs x x) (equal b'.pairs y y) (equal-self b'.pairs x) (equal-self b'.pairs y)))
  written_held (Unlisted kind) b h = let z : ◌≡◌ {A = ℕ} 0 1 = cc in absurd (omega arith)

  -- what is missing is one of the facts
  pub missing_among : (facts : List Assertion) (b : Branch) (a : Assertion) → Among a (missing m b facts) → Among a facts
  missing_among [] b a i = i
  missing_among (a' ∷ facts) b a i =
      ⊎_elim
      (λ h. let r = missing_among facts b a (subst (Among a) (missing-held m b a' facts h) i) in (suc r.0, r.1))
      (λ h. first (missing m (appended (a' ∷ []) b) facts) (missing_among facts (appended (a' ∷ []) b) a) (subst (Among a) (missing-more m b a' facts h) i))
      (cases_Bool (held m b a'))
    where
      first : (new : List Assertion) → (Among a new → Among a facts) → Among a (a' ∷ new) → Among a (a' ∷ facts)
      first new k (zero, e) = (0, e)
      first new k (suc n, e) = let r = k (n, e) in (suc r.0, r.1)

  -- what is missing is not held where those before it stand behind the branch
  pub missing_absent : (facts : List Assertion) (b : Branch) (earlier later : List Assertion) (a : Assertion) → missing m b facts ≡ earlier ++ a ∷ later → held m (appended earlier b) a ≡ false
  missing_absent [] b [] later a e = let z : ◌≡◌ {A = ℕ} 0 1 = cc in absurd (omega arith)
  missing_absent [] b (a' ∷ earlier) later a e = let z : ◌≡◌ {A = ℕ} 0 1 = cc in absurd (omega arith)
  missing_absent (a' ∷ facts) b earlier later a e =
      ⊎_elim
      (λ h. missing_absent facts b earlier later a (sym (missing-held m b a' facts h) ∙ e))
      (λ h. first earlier h (missing_absent facts (appended (a' ∷ []) b)) (sym (missing-more m b a' facts h) ∙ e))
      (cases_Bool (held m b a'))
    where
      first :
          (earlier : List Assertion) → held m b a' ≡ false
          → ((earlier later : List Assertion) (a : Assertion) → missing m (appended (a' ∷ []) b) facts ≡ earlier ++ a ∷ later → held m (appended earlier (appended (a' ∷ []) b)) a ≡ false)
          → a' ∷ missing m (appended (a' ∷ []) b) facts ≡ earlier ++ a ∷ later → held m (appended earlier b) a ≡ false
      first [] h k p =
          let q : a' ≡ a = cc in
          ap (λ b. held m b a) (appended-none b) ∙ ap (held m b) (sym q) ∙ h
      first (a'' ∷ earlier) h k p =
          let q : a' ≡ a'' = cc in
          let r : missing m (appended (a' ∷ []) b) facts ≡ earlier ++ a ∷ later = cc in
          ap (λ a''. held m (appended (a'' ∷ earlier) b) a) (sym q) ∙ ap (λ b. held m b a) (sym (appended_cons a' earlier b)) ∙ k earlier later a r

  module _ (held_stays : HeldStays) where
    -- each fact that can be a row is held where what was missing stands behind the branch
    pub missing-present : (facts : List Assertion) (b : Branch) (a : Assertion) → Among a facts → listed a ≡ true → held m (appended (missing m b facts) b) a ≡ true
    missing-present [] b a (n, e) l = let z : ◌≡◌ {A = ℕ} 0 1 = cc in absurd (omega arith)
    missing-present (a' ∷ facts) b a i l =
        ⊎_elim
        (λ h. subst (λ new. held m (appended new b) a ≡ true) (sym (missing-held m b a' facts h))
        (first b (missing m b facts) (λ _. h) (λ j. missing-present facts b a j l) i))
        (λ h. subst (λ new. held m (appended new b) a ≡ true) (sym (missing-more m b a' facts h))
        (subst (λ b'. held m b' a ≡ true) (appended_cons a' (missing m (appended (a' ∷ []) b) facts) b)
        (first (appended (a' ∷ []) b) (missing m (appended (a' ∷ []) b) facts) (written_held a' b) (λ j. missing-present facts (appended (a' ∷ []) b) a j l) i)))
        (cases_Bool (held m b a'))
      where
        first : (b : Branch) (new : List Assertion) → (listed a' ≡ true → held m b a' ≡ true) → (Among a facts → held m (appended new b) a ≡ true) → Among a (a' ∷ facts) → held m (appended new b) a ≡ true
        first b new h k (zero, e) =
            let p : a' ≡ a = cc in
            held_stays m b (appended new b) (appended_extends new b) a (subst (λ x. held m b x ≡ true) p (h (ap listed p ∙ l)))
        first b new h k (suc n, e) = k (n, e)
