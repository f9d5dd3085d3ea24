-- Walks: how they go on, where they end, and which of them a role joins.
use Rattle.std.proofs.Common.{◌≡◌, ℕ, ◌<◌, ◌≤◌, true, false, ◌&&◌, eqb, ltb, ◌⊎◌, List, [], ◌∷◌, ◌++◌, Ok, Decides, sym, refl, ap, ◌∙◌, subst, inl, inr, ⊎_elim, arith}
use mathlib.Core.Bool.{false≢true}
use Rattle.std.proofs.lemmas.Bool.{and_from, and_parts, cases_Bool, cond_both, eq-eqb, eqb-true, lt-ltb, ltb-true}
use Rattle.std.proofs.lemmas.Bool.Decides.{Decides-and, Decides-eqb}
use Rattle.rows.specs.Rows.{row_at}
use Rattle.kb.specs.declared.axioms.Assertion.TheVariants.{Is, Joins}
use Rattle.kb.specs.declared.names.Concept.{Concept}
use Rattle.kb.specs.declared.names.Individual.{Individual}
use Rattle.kb.specs.declared.names.Role.{Role}
use Rattle.kb.specs.Meanings.{Meaning}
use Rattle.calculus.specs.declared.row_kinds.PairRow.TheVariants.{Same as SameRow}
use Rattle.calculus.specs.declared.row_kinds.RoleRow.{RoleRow}
use Rattle.calculus.specs.Branches.{Branch, Equal, turned, chained, equal, head_of, held}
use Rattle.calculus.specs.Holding.{Held}
use Rattle.calculus.specs.Review.{blocked, blocker, individual, new}
use Rattle.calculus.specs.Walks.{after, after_by, goes_on, joins_from, joins_walks, last_from, some_role, target, walk}
use Rattle.calculus.proofs.BlockingLaws.{blocker_of_blocked, covers-means, decides_blocked, decides_new}
use Rattle.calculus.proofs.ConditionLaws.{decides_held}
use Rattle.calculus.proofs.DecidingLaws.{decides_some_under, decides_true}
use Rattle.calculus.proofs.EqualityLaws.{Equal-respected, equal-from-Equal, head_from_Equal, head_le, head_reached}
use Rattle.calculus.proofs.HeldLaws.{any-from, held-from, held-means}
use Rattle.theorem.proofs.Standing.{Standing}

module _ (m : Meaning) (b : Branch) where
  -- the target of a new individual is it or its blocker

  pub target_le : (s : ℕ) → target m b s ≤ s
  target_le s =
      cond_both (blocked m b s) (blocker m b s) s (λ t. t ≤ s)
      (λ h. omega (arith, (blocker_of_blocked m b s h).before)) (λ _. omega arith)

  pub target-new : (s : ℕ) → m.individuals ≤ s → m.individuals ≤ target m b s
  target-new s l =
      cond_both (blocked m b s) (blocker m b s) s (λ t. m.individuals ≤ t) (λ h. (blocker_of_blocked m b s h).is_new) (λ _. l)

  pub target-not-blocked : (s : ℕ) → blocked m b (target m b s) ≡ false
  target-not-blocked s =
      cond_both (blocked m b s) (blocker m b s) s (λ t. blocked m b t ≡ false) (λ h. (blocker_of_blocked m b s h).not_blocked) (λ f. f)

  -- what is held of an individual is held of its target
  pub target-held : (s : ℕ) (c : Concept) → Held m b (Is c (individual s)) → Held m b (Is c (individual (target m b s)))
  target-held s c e =
      cond_both (blocked m b s) (blocker m b s) s (λ t. Held m b (Is c (individual t)))
      (λ h. held-means m b (Is c (individual (blocker m b s))) (covers-means m b (blocker m b s) s (blocker_of_blocked m b s h).covering c (held-from m b (Is c (individual s)) e)))
      (λ _. e)

  pub base-not-blocked : (x : ℕ) → x < m.individuals → blocked m b x ≡ false
  base-not-blocked x l =
      ⊎_elim (λ h. absurd (omega (arith, ((decides_blocked m b x).0 h).0))) (λ f. f) (cases_Bool (blocked m b x))

  -- a step of a walk is by a new individual

  pub decides_after : (u v : ℕ) → Decides (after m b u v) ((s : ℕ) × (s < b.individuals) × ((m.individuals ≤ s) × ((some_role m b u s ≡ true) × (target m b s ≡ v))))
  decides_after u v =
      decides_some_under
      (λ s. Decides-and (new m b s) (some_role m b u s && eqb (target m b s) v) (decides_new m b s)
      (Decides-and (some_role m b u s) (eqb (target m b s) v) (decides_true (some_role m b u s)) (Decides-eqb (target m b s) v)))
      b.individuals

  pub decides_after_by : (r : Role) (u v : ℕ) → Decides (after_by m b r u v) ((s : ℕ) × (s < b.individuals) × ((m.individuals ≤ s) × (Held m b (Joins r (individual u) (individual s)) × (target m b s ≡ v))))
  decides_after_by r u v =
      decides_some_under
      (λ s. Decides-and (new m b s) (held m b (Joins r (individual u) (individual s)) && eqb (target m b s) v) (decides_new m b s)
      (Decides-and (held m b (Joins r (individual u) (individual s))) (eqb (target m b s) v) (decides_held m b (Joins r (individual u) (individual s))) (Decides-eqb (target m b s) v)))
      b.individuals

  pub some_role-from : (r : Role) (u s : ℕ) → Held m b (Joins r (individual u) (individual s)) → some_role m b u s ≡ true
  some_role-from r u s (n, w, e, f, g, h) =
      any-from (λ (w : RoleRow). equal b.pairs w.from (individual u) && equal b.pairs w.to (individual s)) b.roles n w e
      (and_from (equal b.pairs w.from (individual u)) (equal b.pairs w.to (individual s)) (equal-from-Equal b.pairs w.from (individual u) g) (equal-from-Equal b.pairs w.to (individual s) h))

  pub after-from : (r : Role) (u s : ℕ) → s < b.individuals → m.individuals ≤ s → Held m b (Joins r (individual u) (individual s)) → after m b u (target m b s) ≡ true
  after-from r u s l n h = (decides_after u (target m b s)).1 (s, l, (n, (some_role-from r u s h, refl)))

  pub after_by-from : (r : Role) (u s : ℕ) → s < b.individuals → m.individuals ≤ s → Held m b (Joins r (individual u) (individual s)) → after_by m b r u (target m b s) ≡ true
  after_by-from r u s l n h = (decides_after_by r u (target m b s)).1 (s, l, (n, (h, refl)))

  -- what comes after is new, on the sheet and not blocked
  pub after-new : (u v : ℕ) → after m b u v ≡ true → m.individuals ≤ v
  after-new u v h =
      let (s, l, (n, (_, e))) = (decides_after u v).0 h in
      subst (λ t. m.individuals ≤ t) e (target-new s n)

  pub after-within : (u v : ℕ) → after m b u v ≡ true → v < b.individuals
  after-within u v h =
      let (s, l, (n, (_, e))) = (decides_after u v).0 h in
      omega (arith, l, e, target_le s)

  pub after-not-blocked : (u v : ℕ) → after m b u v ≡ true → blocked m b v ≡ false
  after-not-blocked u v h =
      let (s, l, (n, (_, e))) = (decides_after u v).0 h in
      subst (λ t. blocked m b t ≡ false) e (target-not-blocked s)

  -- going on by one more individual

  pub last_from-push : (u : ℕ) (w : List ℕ) (v : ℕ) → last_from m b u (w ++ v ∷ []) ≡ v
  last_from-push u [] v = refl
  last_from-push u (x ∷ w) v = last_from-push x w v

  pub goes_on-push : (u : ℕ) (w : List ℕ) (v : ℕ) → goes_on m b u w ≡ true → after m b (last_from m b u w) v ≡ true → goes_on m b u (w ++ v ∷ []) ≡ true
  goes_on-push u [] v h a = and_from (after m b u v) true a refl
  goes_on-push u (x ∷ w) v h a =
      let (first, rest) = and_parts (after m b u x) (goes_on m b x w) h in
      and_from (after m b u x) (goes_on m b x (w ++ v ∷ [])) first (goes_on-push x w v rest a)

  pub goes_on-parts : (u : ℕ) (w : List ℕ) (v : ℕ) → goes_on m b u (w ++ v ∷ []) ≡ true → (goes_on m b u w ≡ true) × (after m b (last_from m b u w) v ≡ true)
  goes_on-parts u [] v h = (refl, (and_parts (after m b u v) true h).0)
  goes_on-parts u (x ∷ w) v h =
      let (first, rest) = and_parts (after m b u x) (goes_on m b x (w ++ v ∷ [])) h in
      let (goes, last) = goes_on-parts x w v rest in
      (and_from (after m b u x) (goes_on m b x w) first goes, last)

  -- a walk begins at an individual of the base that is its own head
  pub walk_first : (u : ℕ) (w : List ℕ) → walk m b (u ∷ w) ≡ true → (u < m.individuals) × (head_of b.pairs u ≡ u) × (goes_on m b u w ≡ true)
  unfolding walk
  walk_first u w h =
      let (start, goes) = and_parts (ltb u m.individuals && eqb (head_of b.pairs u) u) (goes_on m b u w) h in
      let (low, own) = and_parts (ltb u m.individuals) (eqb (head_of b.pairs u) u) start in
      (ltb-true u m.individuals low, eqb-true (head_of b.pairs u) u own, goes)

  pub walk_from : (u : ℕ) (w : List ℕ) → u < m.individuals → head_of b.pairs u ≡ u → goes_on m b u w ≡ true → walk m b (u ∷ w) ≡ true
  unfolding walk
  walk_from u w l e goes =
      and_from (ltb u m.individuals && eqb (head_of b.pairs u) u) (goes_on m b u w)
      (and_from (ltb u m.individuals) (eqb (head_of b.pairs u) u) (lt-ltb u m.individuals l) (eq-eqb (head_of b.pairs u) u e)) goes

  pub no_empty_walk : walk m b [] ≡ true → ⊥
  unfolding walk
  no_empty_walk h = false≢true h

  pub walk-push : (u : ℕ) (w : List ℕ) (v : ℕ) → walk m b (u ∷ w) ≡ true → after m b (last_from m b u w) v ≡ true → walk m b (u ∷ w ++ v ∷ []) ≡ true
  walk-push u w v h a =
      let (l, e, goes) = walk_first u w h in
      walk_from u (w ++ v ∷ []) l e (goes_on-push u w v goes a)

  pub walk-parts : (u : ℕ) (w : List ℕ) (v : ℕ) → walk m b (u ∷ w ++ v ∷ []) ≡ true → (walk m b (u ∷ w) ≡ true) × (after m b (last_from m b u w) v ≡ true)
  walk-parts u w v h =
      let (l, e, goes) = walk_first u (w ++ v ∷ []) h in
      let (before, last) = goes_on-parts u w v goes in
      (walk_from u w l e before, last)

  -- the head of an individual of the base is a walk
  pub head_walk : (x : ℕ) → x < m.individuals → walk m b (head_of b.pairs x ∷ []) ≡ true
  head_walk x l =
      walk_from (head_of b.pairs x) [] (omega (arith, head_le b.pairs x)) (sym (head_from_Equal b.pairs (head_reached b.pairs (individual x)))) refl

  -- where a walk ends

  last_new : (u : ℕ) (w : List ℕ) → m.individuals ≤ u → goes_on m b u w ≡ true → m.individuals ≤ last_from m b u w
  last_new u [] l h = l
  last_new u (v ∷ w) l h =
      let (first, rest) = and_parts (after m b u v) (goes_on m b v w) h in
      last_new v w (after-new u v first) rest

  -- a walk that ends in an individual of the base is that individual alone
  pub walk-one : (u : ℕ) (w : List ℕ) → walk m b (u ∷ w) ≡ true → last_from m b u w < m.individuals → w ≡ []
  walk-one u [] h l = refl
  walk-one u (v ∷ w) h l =
      let (_, _, goes) = walk_first u (v ∷ w) h in
      let (first, rest) = and_parts (after m b u v) (goes_on m b v w) goes in
      absurd (omega (arith, l, last_new v w (after-new u v first) rest))

  last_within : (u : ℕ) (w : List ℕ) → u < b.individuals → goes_on m b u w ≡ true → last_from m b u w < b.individuals
  last_within u [] l h = l
  last_within u (v ∷ w) l h =
      let (first, rest) = and_parts (after m b u v) (goes_on m b v w) h in
      last_within v w (after-within u v first) rest

  last_not_blocked : (u : ℕ) (w : List ℕ) → blocked m b u ≡ false → goes_on m b u w ≡ true → blocked m b (last_from m b u w) ≡ false
  last_not_blocked u [] f h = f
  last_not_blocked u (v ∷ w) f h =
      let (first, rest) = and_parts (after m b u v) (goes_on m b v w) h in
      last_not_blocked v w (after-not-blocked u v first) rest

  pub walk-not-blocked : (u : ℕ) (w : List ℕ) → walk m b (u ∷ w) ≡ true → blocked m b (last_from m b u w) ≡ false
  walk-not-blocked u w h =
      let (l, _, goes) = walk_first u w h in
      last_not_blocked u w (base-not-blocked u l) goes

  -- which walks a role joins

  pub joins_walks-one : (r : Role) (u v : ℕ) → Held m b (Joins r (individual u) (individual v)) → joins_walks m b r (u ∷ []) (v ∷ []) ≡ true
  unfolding joins_walks
  joins_walks-one r u v h = held-from m b (Joins r (individual u) (individual v)) h

  joins_from-push : (r : Role) (u : ℕ) (w : List ℕ) (v : ℕ) → after_by m b r (last_from m b u w) v ≡ true → joins_from m b r u w (w ++ v ∷ []) ≡ true
  joins_from-push r u [] v h = h
  joins_from-push r u (x ∷ w) v h =
      and_from (eqb x x) (joins_from m b r x w (w ++ v ∷ [])) (eq-eqb x x refl) (joins_from-push r x w v h)

  pub joins_walks-push : (r : Role) (u : ℕ) (w : List ℕ) (v : ℕ) → after_by m b r (last_from m b u w) v ≡ true → joins_walks m b r (u ∷ w) (u ∷ w ++ v ∷ []) ≡ true
  unfolding joins_walks
  joins_walks-push r u [] v h = and_from (eqb u u) (joins_from m b r u [] (v ∷ [])) (eq-eqb u u refl) h
  joins_walks-push r u (x ∷ w) v h =
      and_from (eqb u u) (joins_from m b r u (x ∷ w) (x ∷ w ++ v ∷ [])) (eq-eqb u u refl) (joins_from-push r u (x ∷ w) v h)

  joins_from-cases : (r : Role) (u : ℕ) (w f : List ℕ) → joins_from m b r u w f ≡ true → (v : ℕ) × (f ≡ w ++ v ∷ []) × (after_by m b r (last_from m b u w) v ≡ true)
  joins_from-cases r u [] [] h = absurd (false≢true h)
  joins_from-cases r u [] (v ∷ []) h = (v, refl, h)
  joins_from-cases r u [] (v ∷ v' ∷ f) h = absurd (false≢true h)
  joins_from-cases r u (x ∷ w) [] h = absurd (false≢true h)
  joins_from-cases r u (x ∷ w) (x' ∷ f) h =
      let (same, rest) = and_parts (eqb x x') (joins_from m b r x w f) h in
      let e = eqb-true x x' same in
      let (v, more, by) = joins_from-cases r x w f rest in
      (v, ap (λ y. y ∷ f) (sym e) ∙ ap (λ g. x ∷ g) more, by)

  -- A walk of one individual and another that a role joins; a walk and one that goes one individual further.
  abbrev pub Beside : Role → ℕ → List ℕ → List ℕ → Type 0
  Beside r u w f = (v : ℕ) × (f ≡ v ∷ []) × (w ≡ []) × Held m b (Joins r (individual u) (individual v))

  abbrev pub Further : Role → ℕ → List ℕ → List ℕ → Type 0
  Further r u w f = (v : ℕ) × (f ≡ u ∷ w ++ v ∷ []) × (after_by m b r (last_from m b u w) v ≡ true)

  pub joins_walks-cases : (r : Role) (u : ℕ) (w f : List ℕ) → joins_walks m b r (u ∷ w) f ≡ true → Beside r u w f ⊎ Further r u w f
  unfolding joins_walks
  joins_walks-cases r u w [] h = absurd (false≢true h)
  joins_walks-cases r u [] (v ∷ []) h = inl (v, refl, refl, held-means m b (Joins r (individual u) (individual v)) h)
  joins_walks-cases r u [] (u' ∷ v ∷ f) h =
      let (same, rest) = and_parts (eqb u u') (joins_from m b r u [] (v ∷ f)) h in
      let e = eqb-true u u' same in
      let (x, more, by) = joins_from-cases r u [] (v ∷ f) rest in
      inr (x, ap (λ y. y ∷ v ∷ f) (sym e) ∙ ap (λ g. u ∷ g) more, by)
  joins_walks-cases r u (v ∷ w) (u' ∷ f) h =
      let (same, rest) = and_parts (eqb u u') (joins_from m b r u (v ∷ w) f) h in
      let e = eqb-true u u' same in
      let (x, more, by) = joins_from-cases r u (v ∷ w) f rest in
      inr (x, ap (λ y. y ∷ f) (sym e) ∙ ap (λ g. u ∷ g) more, by)

  -- what is held of an individual is held of its head, and roles are held between heads

  pub held_of_equal : (c : Concept) (x y : Individual) → Equal b.pairs x y → Held m b (Is c x) → Held m b (Is c y)
  held_of_equal c x y e (inl z) = inl z
  held_of_equal c x y e (inr (n, r, there, says, like)) = inr (n, r, there, says, chained like e)

  pub joins_of_equal : (r : Role) (x y x' y' : Individual) → Equal b.pairs x x' → Equal b.pairs y y' → Held m b (Joins r x y) → Held m b (Joins r x' y')
  joins_of_equal r x y x' y' e f (n, w, there, says, from, to) = (n, w, there, says, chained from e, chained to f)

  module _ (placed : Standing m b) where
    pub walk-within : (u : ℕ) (w : List ℕ) → walk m b (u ∷ w) ≡ true → last_from m b u w < b.individuals
    walk-within u w h =
        let (l, _, goes) = walk_first u w h in
        last_within u w (omega (arith, l, placed.base_first)) goes

    -- an individual equal to one of the base is of the base
    pub equal_of_base : (x y : Individual) → Equal b.pairs x y → x.0 < m.individuals → y.0 < m.individuals
    equal_of_base x y e l =
        ltb-true y.0 m.individuals
        (sym (Equal-respected b.pairs (λ z. ltb z.0 m.individuals) both e) ∙ lt-ltb x.0 m.individuals l)
      where
        both : (x y : Individual) (n : ℕ) → row_at b.pairs n ≡ Ok (SameRow x y) → ltb x.0 m.individuals ≡ ltb y.0 m.individuals
        both x y n q =
            let (lx, ly) = placed.same_of_base n x y q in
            lt-ltb x.0 m.individuals lx ∙ sym (lt-ltb y.0 m.individuals ly)

    -- what a role joins to an individual of the base is of the base
    pub into_base_of_base : (r : Role) (x y : Individual) → Held m b (Joins r x y) → y.0 < m.individuals → x.0 < m.individuals
    into_base_of_base r x y (n, w, there, says, from, to) l =
        equal_of_base w.from x from (placed.into_base n w there (equal_of_base y w.to (turned to) l))
