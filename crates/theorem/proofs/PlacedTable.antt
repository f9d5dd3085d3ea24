-- What the lines of the table write, over a base in range and on a branch whose rows lie as they should.
use Rattle.std.proofs.Common.{◌≡◌, ℕ, ◌%◌, ◌<◌, Bool, true, false, ◌&&◌, eqb, ltb, ◌⊎◌, List, [], ◌∷◌, length, Ok, Err, Result, sym, refl, subst, inl, inr, ⊎_elim, arith}
use Rattle.std.proofs.lemmas.Bool.{and_from, and_parts, eqb-true, ltb-true}
use Rattle.std.specs.List.{AllByRecursion, list_all}
use Rattle.rows.proofs.RowLaws.{row_at-found}
use Rattle.rows.specs.declared.fault.RowFault.{RowFault}
use Rattle.rows.specs.Rows.{row_at}
use Rattle.kb.proofs.NameLaws.{complement_entry}
use Rattle.kb.specs.declared.axioms.Assertion.{Assertion}
use Rattle.kb.specs.declared.axioms.Assertion.TheVariants.{Is, Joins, Same, Different, Unlisted}
use Rattle.kb.specs.declared.axioms.Key.{Key as KeyRow}
use Rattle.kb.specs.declared.axioms.Key.TheVariants.{Link, Unlisted as UnlistedKey}
use Rattle.kb.specs.declared.axioms.RolePair.{RolePair}
use Rattle.kb.specs.declared.axioms.RolePairs.{RolePairs}
use Rattle.kb.specs.declared.axioms.RolePairs.TheVariants.{One, Two, Three, Four}
use Rattle.kb.specs.declared.lexicon.Entry.{Entry}
use Rattle.kb.specs.declared.lexicon.Entry.TheVariants.{Top, Name, Both as BothEntry, Some as SomeEntry, Unlisted as UnlistedEntry}
use Rattle.kb.specs.declared.names.Concept.{Concept}
use Rattle.kb.specs.declared.names.Individual.{Individual}
use Rattle.kb.specs.declared.names.Role.{Role}
use Rattle.kb.specs.Check.{InRange}
use Rattle.kb.specs.Meanings.{Meaning, counts_of}
use Rattle.kb.specs.Names.{complement, entry_number}
use Rattle.kb.specs.Numbers.{pair_list}
use Rattle.kb.specs.Range.{assertion_in_range, concept_in_range, entry_in_range, inclusion_in_range, individual_in_range, role_in_range}
use Rattle.calculus.proofs.EqualityLaws.{equal-from-Equal}
use Rattle.calculus.proofs.HeldLaws.{held-means}
use Rattle.calculus.specs.declared.fault.StepFault.{StepFault}
use Rattle.calculus.specs.declared.fault.StepFault.TheVariants.{Kind}
use Rattle.calculus.specs.declared.shape.Shape.{Shape}
use Rattle.calculus.specs.declared.shape.Shape.TheVariants.{Plain, Both as BothShape, Some as SomeShape, NotBoth, NotSome}
use Rattle.calculus.specs.declared.step.Step.{Step}
use Rattle.calculus.specs.declared.step.Step.TheVariants.{Take, Both, All as AllStep, Some as SomeStep, Include, Key, Either, Cut, Clash, Apart}
use Rattle.calculus.specs.Branches.{Branch, equal, held}
use Rattle.calculus.specs.Table.{Rule, adding, adding_fresh, all_below, all_rule, below, both_rule, closing, either_rule, entry_shape, include_rule, key_rule, row_in, rule, shape_in, shape_of, sharing, some_rule, splitting}
use Rattle.calculus.proofs.Accepting.{Err_not_Ok, Ok_injective, and_then_Ok, cond_Ok, inside_Ok, row_in_Ok}
use Rattle.theorem.proofs.PlacedEqual.{sharing-cases}
use Rattle.theorem.proofs.PlacedRows.{Placeable}
use Rattle.theorem.proofs.TableSound.{row-passes}
use Rattle.theorem.specs.Placed.{OfBase, OfBranch, Placed}

module _ (m : Meaning) where
  -- A concept of the base.
  abbrev Known : Concept → Type 0
  Known c = entry_number c < length m.entries

  complement-known : (c : Concept) → Known c → Known (complement c)
  complement-known c h = omega (arith, complement_entry c)

  -- What a shape names is of the base.
  abbrev ShapeKnown : Shape → Type 0
  ShapeKnown Plain = Unit {0}
  ShapeKnown (BothShape d e) = Known d × Known e
  ShapeKnown (SomeShape r d) = (r.0 < m.roles) × Known d
  ShapeKnown (NotBoth d e) = Known d × Known e
  ShapeKnown (NotSome r d) = (r.0 < m.roles) × Known d

  both-known : (k : ℕ) (d e : Concept) → k < length m.entries → entry_in_range (counts_of m) k (BothEntry d e) ≡ true → Known d × Known e
  both-known k d e l r =
      let s = and_parts (ltb (entry_number d) k) (ltb (entry_number e) k) r in
      (omega (arith, ltb-true (entry_number d) k s.0), omega (arith, ltb-true (entry_number e) k s.1))

  some_known : (k : ℕ) (s : Role) (d : Concept) → k < length m.entries → entry_in_range (counts_of m) k (SomeEntry s d) ≡ true → (s.0 < m.roles) × Known d
  some_known k s d l r =
      let u = and_parts (role_in_range (counts_of m) s) (ltb (entry_number d) k) r in
      (ltb-true s.0 m.roles u.0, omega (arith, ltb-true (entry_number d) k u.1))

  shape_of-known : (k : ℕ) (t : Entry) (even : Bool) → k < length m.entries → entry_in_range (counts_of m) k t ≡ true → ShapeKnown (shape_of even t)
  shape_of-known k Top even l r = tt
  shape_of-known k Name even l r = tt
  shape_of-known k (BothEntry d e) true l r = both-known k d e l r
  shape_of-known k (BothEntry d e) false l r = both-known k d e l r
  shape_of-known k (SomeEntry s d) true l r = some_known k s d l r
  shape_of-known k (SomeEntry s d) false l r = some_known k s d l r
  shape_of-known k (UnlistedEntry kind) even l r = tt

  -- A line that writes only what may be written: facts, facts that are held already, a new individual with its row, a
  -- split; or that closes.
  pub data Line (b : Branch) : Rule → Type 0 where
    adds-rows : (needs adds : List Assertion) → AllByRecursion (Placeable m b.individuals) adds → Line b (adding needs adds)
    adds-held : (needs adds : List Assertion) → list_all (held m b) adds ≡ true → Line b (adding needs adds)
    adds-new :
        (needs : List Assertion) (r : Role) (x : Individual) (d : Concept) → r.0 < m.roles → OfBranch b x → entry_number d < length m.entries
        → Line b (adding_fresh needs (Joins r x (record { 0 = b.individuals }) ∷ Is d (record { 0 = b.individuals }) ∷ []))
    splits :
        (needs : List Assertion) (left right : Concept) (x : Individual) → entry_number left < length m.entries → entry_number right < length m.entries
        → OfBranch b x → Line b (splitting needs left right x)
    closes : (needs : List Assertion) → Line b (closing needs)

  module _ (range : InRange m) where
    -- What a concept that was looked up tells: the numbers are in range, it is of the base, and so is what its shape names.
    record Shaped (in_range : Bool) (c : Concept) (s : Shape) : Type 0 where
      within : in_range ≡ true
      known : Known c
      shape : ShapeKnown s

    shaped : (n : ℕ) (in_range : Bool) (c : Concept) (s : Shape) → shape_in m n in_range c ≡ Ok s → Shaped in_range c s
    shaped n in_range c s e = by_entry (row_at m.entries (entry_number c)) refl e
      where
        by_entry : (t : Result Entry RowFault) → row_at m.entries (entry_number c) ≡ t → entry_shape in_range c t ≡ Ok s → Shaped in_range c s
        by_entry (Ok t) f e =
            let q = inside_Ok in_range (shape_of (eqb (c.0 % 2) 0) t) s e in
            let l = row_at-found m.entries (entry_number c) t f in
            let r = row-passes (entry_in_range (counts_of m)) m.entries (entry_number c) t f (range.entries (entry_number c) l) in
            record { within = q.0; known = l; shape = subst ShapeKnown q.1 (shape_of-known (entry_number c) t (eqb (c.0 % 2) 0) l r) }
        by_entry (Err g) f e = Err_not_Ok e

    module _ (b : Branch) (placed : Placed m b) where
      abbrev n : ℕ
      n = b.individuals

      line-is : {r s : Rule} → ◌≡◌ {A = Result Rule StepFault} (Ok r) (Ok s) → Line b r → Line b s
      line-is e h = subst (Line b) (Ok_injective e) h

      -- one concept more
      adds-concept : (needs : List Assertion) (c : Concept) (x : Individual) → Known c → x.0 < n → Line b (adding needs (Is c x ∷ []))
      adds-concept needs c x h l = adds-rows needs (Is c x ∷ []) ((h, l), tt)

      -- an assertion of the base may be written
      taken_placeable : (a : Assertion) → assertion_in_range (counts_of m) a ≡ true → Placeable m n a
      taken_placeable (Is c x) r =
          let p = and_parts (concept_in_range (counts_of m) c) (individual_in_range (counts_of m) x) r in
          (ltb-true (entry_number c) (length m.entries) p.0, omega (arith, ltb-true x.0 m.individuals p.1, placed.base_first))
      taken_placeable (Joins s x y) r =
          let p = and_parts (role_in_range (counts_of m) s) (individual_in_range (counts_of m) x && individual_in_range (counts_of m) y) r in
          let q = and_parts (individual_in_range (counts_of m) x) (individual_in_range (counts_of m) y) p.1 in
          (ltb-true s.0 m.roles p.0, ltb-true x.0 m.individuals q.0, ltb-true y.0 m.individuals q.1)
      taken_placeable (Same x y) r =
          let q = and_parts (individual_in_range (counts_of m) x) (individual_in_range (counts_of m) y) r in
          (ltb-true x.0 m.individuals q.0, ltb-true y.0 m.individuals q.1)
      taken_placeable (Different x y) r =
          let q = and_parts (individual_in_range (counts_of m) x) (individual_in_range (counts_of m) y) r in
          (ltb-true x.0 m.individuals q.0, ltb-true y.0 m.individuals q.1)
      taken_placeable (Unlisted kind) r = tt

      both-line : (c : Concept) (x : Individual) (r : Rule) (s : Shape) → ShapeKnown s → x.0 < n → both_rule c x s ≡ Ok r → Line b r
      both-line c x r Plain h l e = Err_not_Ok e
      both-line c x r (BothShape d f) h l e = line-is e (adds-rows (Is c x ∷ []) (Is d x ∷ Is f x ∷ []) ((h.0, l), ((h.1, l), tt)))
      both-line c x r (SomeShape s d) h l e = Err_not_Ok e
      both-line c x r (NotBoth d f) h l e = Err_not_Ok e
      both-line c x r (NotSome s d) h l e = Err_not_Ok e

      all_line : (c : Concept) (x y : Individual) (r : Rule) (s : Shape) → ShapeKnown s → y.0 < n → all_rule c x y s ≡ Ok r → Line b r
      all_line c x y r Plain h l e = Err_not_Ok e
      all_line c x y r (BothShape d f) h l e = Err_not_Ok e
      all_line c x y r (SomeShape s d) h l e = Err_not_Ok e
      all_line c x y r (NotBoth d f) h l e = Err_not_Ok e
      all_line c x y r (NotSome s d) h l e = line-is e (adds-concept (Is c x ∷ Joins s x y ∷ []) (complement d) y (complement-known d h.1) l)

      some-line : (c : Concept) (x : Individual) (r : Rule) (s : Shape) → ShapeKnown s → x.0 < n → some_rule c x (record { 0 = n }) s ≡ Ok r → Line b r
      some-line c x r Plain h l e = Err_not_Ok e
      some-line c x r (BothShape d f) h l e = Err_not_Ok e
      some-line c x r (SomeShape s d) h l e = line-is e (adds-new (Is c x ∷ []) s x d h.0 l h.1)
      some-line c x r (NotBoth d f) h l e = Err_not_Ok e
      some-line c x r (NotSome s d) h l e = Err_not_Ok e

      either-line : (c : Concept) (x : Individual) (r : Rule) (s : Shape) → ShapeKnown s → x.0 < n → either_rule c x s ≡ Ok r → Line b r
      either-line c x r Plain h l e = Err_not_Ok e
      either-line c x r (BothShape d f) h l e = Err_not_Ok e
      either-line c x r (SomeShape s d) h l e = Err_not_Ok e
      either-line c x r (NotBoth d f) h l e =
          line-is e (splits (Is c x ∷ []) (complement d) (complement f) x (complement-known d h.0) (complement-known f h.1) l)
      either-line c x r (NotSome s d) h l e = Err_not_Ok e

      -- two that share the value of a pair are equal already, or both are of the base
      pair-shared :
          (x y : Individual) (p : RolePair) (ps : List RolePair) (zs : List Individual) → length zs ≡ length (p ∷ ps)
          → list_all (held m b) (sharing x y (p ∷ ps) zs) ≡ true → (equal b.pairs x y ≡ true) ⊎ (OfBase m x × OfBase m y)
      pair-shared x y p ps [] l e = absurd (omega arith)
      pair-shared x y p ps (z ∷ zs) l e =
          let f = and_parts (held m b (Joins p.left x z)) _ e in
          let g = and_parts (held m b (Joins p.right y z)) (list_all (held m b) (sharing x y ps zs)) f.1 in
          ⊎_elim (λ q. inl (equal-from-Equal b.pairs x y q)) inr
          (sharing-cases m b placed p.left p.right x y z (held-means m b (Joins p.left x z) f.0) (held-means m b (Joins p.right y z) g.0))

      -- a key has a pair
      key-shared :
          (x y : Individual) (pairs : RolePairs) (zs : List Individual) → length zs ≡ length (pair_list pairs)
          → list_all (held m b) (sharing x y (pair_list pairs) zs) ≡ true → (equal b.pairs x y ≡ true) ⊎ (OfBase m x × OfBase m y)
      key-shared x y (One p) zs l e = pair-shared x y p [] zs l e
      key-shared x y (Two p q) zs l e = pair-shared x y p (q ∷ []) zs l e
      key-shared x y (Three p q s) zs l e = pair-shared x y p (q ∷ s ∷ []) zs l e
      key-shared x y (Four p q s t) zs l e = pair-shared x y p (q ∷ s ∷ t ∷ []) zs l e

      key_line_lem : (x y : Individual) (zs : List Individual) (key : KeyRow) (r : Rule) → key_rule x y zs key ≡ Ok r → list_all (held m b) r.needs ≡ true → Line b r
      key_line_lem x y zs (UnlistedKey count) r e h = Err_not_Ok e
      key_line_lem x y zs (Link c d pairs) r e h =
          let needs = Is c x ∷ Is d y ∷ sharing x y (pair_list pairs) zs in
          let q = cond_Ok (eqb (length zs) (length (pair_list pairs))) (Ok (adding needs (Same x y ∷ []))) Kind r e in
          let is : adding needs (Same x y ∷ []) ≡ r = Ok_injective q.1 in
          let held-needs : list_all (held m b) needs ≡ true = subst (λ (u : Rule). list_all (held m b) u.needs ≡ true) (sym is) h in
          let f = and_parts (held m b (Is c x)) (list_all (held m b) (Is d y ∷ sharing x y (pair_list pairs) zs)) held-needs in
          let g = and_parts (held m b (Is d y)) (list_all (held m b) (sharing x y (pair_list pairs) zs)) f.1 in
          subst (Line b) is
          (⊎_elim
          (λ t. adds-held needs (Same x y ∷ []) (and_from (equal b.pairs x y) true t refl))
          (λ t. adds-rows needs (Same x y ∷ []) (t, tt))
          (key-shared x y pairs zs (eqb-true (length zs) (length (pair_list pairs)) q.0) g.1))

      -- Every line of the table whose needs are held writes only what may be written.
      pub table-placed : (t : Step) (r : Rule) → rule m n t ≡ Ok r → list_all (held m b) r.needs ≡ true → Line b r
      table-placed (Take k) r e h =
          let p = and_then_Ok (row_in m n true (row_at m.assertions k)) (λ a. Ok (adding [] (a ∷ []))) r e in
          let q = row_in_Ok m n true (row_at m.assertions k) p.0 p.1 in
          let l = row_at-found m.assertions k p.0 q.1 in
          let i = row-passes (λ _. assertion_in_range (counts_of m)) m.assertions k p.0 q.1 (range.assertions k l) in
          line-is p.2 (adds-rows [] (p.0 ∷ []) (taken_placeable p.0 i, tt))
      table-placed (Both c x) r e h =
          let p = and_then_Ok (shape_in m n (below n x) c) (both_rule c x) r e in
          let s = shaped n (below n x) c p.0 p.1 in
          both-line c x r p.0 s.shape (ltb-true x.0 n s.within) p.2
      table-placed (AllStep c x y) r e h =
          let p = and_then_Ok (shape_in m n (below n x && below n y) c) (all_rule c x y) r e in
          let s = shaped n (below n x && below n y) c p.0 p.1 in
          let w = and_parts (below n x) (below n y) s.within in
          all_line c x y r p.0 s.shape (ltb-true y.0 n w.1) p.2
      table-placed (SomeStep c x) r e h =
          let p = and_then_Ok (shape_in m n (below n x) c) (some_rule c x (record { 0 = n })) r e in
          let s = shaped n (below n x) c p.0 p.1 in
          some-line c x r p.0 s.shape (ltb-true x.0 n s.within) p.2
      table-placed (Include k x) r e h =
          let p = and_then_Ok (row_in m n (below n x) (row_at m.inclusions k)) (include_rule x) r e in
          let i = p.0 in
          let q = row_in_Ok m n (below n x) (row_at m.inclusions k) i p.1 in
          let l = row_at-found m.inclusions k i q.1 in
          let passes = row-passes (λ _. inclusion_in_range (counts_of m)) m.inclusions k i q.1 (range.inclusions k l) in
          let both = and_parts (concept_in_range (counts_of m) i.sub) (concept_in_range (counts_of m) i.sup) passes in
          line-is p.2 (adds-concept (Is i.sub x ∷ []) i.sup x (ltb-true (entry_number i.sup) (length m.entries) both.1) (ltb-true x.0 n q.0))
      table-placed (Key k x y zs) r e h =
          let p = and_then_Ok (row_in m n (below n x && (below n y && all_below n zs.now)) (row_at m.keys k)) (key_rule x y zs.now) r e in
          key_line_lem x y zs.now p.0 r p.2 h
      table-placed (Either c x) r e h =
          let p = and_then_Ok (shape_in m n (below n x) c) (either_rule c x) r e in
          let s = shaped n (below n x) c p.0 p.1 in
          either-line c x r p.0 s.shape (ltb-true x.0 n s.within) p.2
      table-placed (Cut c x) r e h =
          let p = and_then_Ok (shape_in m n (below n x) c) (λ _. Ok (splitting [] c (complement c) x)) r e in
          let s = shaped n (below n x) c p.0 p.1 in
          line-is p.2 (splits [] c (complement c) x s.known (complement-known c s.known) (ltb-true x.0 n s.within))
      table-placed (Clash c x) r e h =
          let p = and_then_Ok (shape_in m n (below n x) c) (λ _. Ok (closing (Is c x ∷ Is (complement c) x ∷ []))) r e in
          line-is p.2 (closes (Is c x ∷ Is (complement c) x ∷ []))
      table-placed (Apart x y) r e h =
          let q = inside_Ok (below n x && below n y) (closing (Different x y ∷ Same x y ∷ [])) r e in
          subst (Line b) q.1 (closes (Different x y ∷ Same x y ∷ []))
