-- One row more keeps the rows of a branch where they should lie.
use Rattle.std.proofs.Common.{◌≡◌, ℕ, zero, suc, ◌+◌, ◌<◌, ◌≤◌, ◌⊎◌, List, [], ◌∷◌, ◌++◌, length, Ok, sym, refl, ap, ◌∙◌, subst, inl, inr, ⊎_elim, arith}
use Rattle.std.proofs.lemmas.Bool.{cases_eq, cond_both}
use Rattle.rows.specs.Rows.{row_at}
use Rattle.kb.specs.declared.axioms.Assertion.{Assertion}
use Rattle.kb.specs.declared.axioms.Assertion.TheVariants.{Is, Joins, Same, Different, Unlisted}
use Rattle.kb.specs.declared.names.Individual.{Individual}
use Rattle.kb.specs.declared.names.Role.{Role}
use Rattle.kb.specs.Meanings.{Meaning}
use Rattle.kb.specs.Names.{entry_number}
use Rattle.ledger.specs.Books.{Book, filled, push}
use Rattle.calculus.proofs.EqualityLaws.{row_at-append-found}
use Rattle.calculus.specs.declared.row_kinds.ConceptRow.{ConceptRow}
use Rattle.calculus.specs.declared.row_kinds.PairRow.{PairRow}
use Rattle.calculus.specs.declared.row_kinds.PairRow.TheVariants.{Same as SameRow, Different as DifferentRow}
use Rattle.calculus.specs.declared.row_kinds.RoleRow.{RoleRow}
use Rattle.calculus.specs.Branches.{Branch, held}
use Rattle.calculus.specs.Playing.{write}
use Rattle.calculus.specs.States.{Ledgers, branch_of}
use Rattle.calculus.proofs.Accepting.{Err_not_Ok, Ok_injective}
use Rattle.theorem.proofs.Growing.{with_side}
use Rattle.theorem.specs.Placed.{New, OfBase, OfBranch, PairBelow, Placed}

-- a row of a list with one row more is a row of the list, or is that one
pub rowAt-push-cases :
    {X : Type 0} (xs : List X) (x : X) (n : ℕ) (w : X) → row_at (xs ++ x ∷ []) n ≡ Ok w → (row_at xs n ≡ Ok w) ⊎ ((n ≡ length xs) × (x ≡ w))
rowAt-push-cases [] x zero w e = inr (refl, Ok_injective e)
rowAt-push-cases [] x (suc n) w e = Err_not_Ok e
rowAt-push-cases (y ∷ ys) x zero w e = inl e
rowAt-push-cases (y ∷ ys) x (suc n) w e =
    ⊎_elim inl (λ h. inr (ap suc h.0, h.1)) (rowAt-push-cases ys x n w e)

pub row_at_push_last : {X : Type 0} (xs : List X) (x : X) → row_at (xs ++ x ∷ []) (length xs) ≡ Ok x
row_at_push_last [] x = refl
row_at_push_last (y ∷ ys) x = row_at_push_last ys x

-- what holds of every row of a list and of one row more holds of every row of the longer list
pub rows-push :
    {X : Type 0} (P : X → Type 0) (xs : List X) (x : X) → ((n : ℕ) (w : X) → row_at xs n ≡ Ok w → P w) → P x
    → (n : ℕ) (w : X) → row_at (xs ++ x ∷ []) n ≡ Ok w → P w
rows-push P xs x k p n w e = ⊎_elim (k n w) (λ h. subst P h.1 p) (rowAt-push-cases xs x n w e)

-- what holds with and without one row more holds of a ledger after the push
pub push-either : {A : Type 0} (P : List A → Type 0) (x : A) (b : Book A) → P b.rows → P (b.rows ++ x ∷ []) → P (push x b).rows
push-either P x b p q = filled-either b.rows b.free p q
  where
    filled-either : (rows places : List _) → P rows → P (rows ++ x ∷ []) → P (filled x rows places).rows
    filled-either rows [] p q = p
    filled-either rows (y ∷ ys) p q = q

pair_below_more : (n k : ℕ) (w : PairRow) → n ≤ k → PairBelow n w → PairBelow k w
pair_below_more n k (SameRow x y) l h = let p = h.0 in let q = h.1 in (omega arith, omega arith)
pair_below_more n k (DifferentRow x y) l h = let p = h.0 in let q = h.1 in (omega arith, omega arith)

module _ (m : Meaning) where
  -- No two role rows of a list go into one new individual.
  abbrev OneIntoNew : List RoleRow → Type 0
  OneIntoNew rows = (j k : ℕ) (v w : RoleRow) → row_at rows j ≡ Ok v → row_at rows k ≡ Ok w → v.to ≡ w.to → New m w.to → j ≡ k

  -- one role row more, where no row goes into its individual if that is new
  one-into-push :
      (rows : List RoleRow) (w : RoleRow) → OneIntoNew rows
      → ((j : ℕ) (v : RoleRow) → row_at rows j ≡ Ok v → v.to ≡ w.to → New m w.to → ⊥) → OneIntoNew (rows ++ w ∷ [])
  one-into-push rows w old none j k u v eu ev t h =
      ⊎_elim
      (λ a. ⊎_elim
      (λ c. old j k u v a c t h)
      (λ c. absurd (none j u a (t ∙ ap (λ (r : RoleRow). r.to) (sym c.1)) (subst (λ (r : RoleRow). New m r.to) (sym c.1) h)))
      (rowAt-push-cases rows w k v ev))
      (λ a. ⊎_elim
      (λ c. let q : v.to ≡ w.to = sym t ∙ ap (λ (r : RoleRow). r.to) (sym a.1) in absurd (none k v c q (subst (New m) q h)))
      (λ c. a.0 ∙ sym c.0)
      (rowAt-push-cases rows w k v ev))
      (rowAt-push-cases rows w j u eu)

  -- a concept of the base, of an individual of the branch
  pub placed-concept :
      (b : Branch) (w : ConceptRow) → Placed m b → entry_number w.concept < length m.entries → OfBranch b w.individual
      → Placed m (record { concepts = b.concepts ++ w ∷ []; roles = b.roles; pairs = b.pairs; individuals = b.individuals })
  placed-concept b w k c l =
      record {
        base_first = k.base_first;
        concept_rows = rows-push (λ (v : ConceptRow). (entry_number v.concept < length m.entries) × OfBranch b v.individual) b.concepts w k.concept_rows (c, l);
        role_rows = k.role_rows;
        pair_rows = k.pair_rows;
        same_rows = k.same_rows;
        into_base = k.into_base;
        row_into_new = k.row_into_new;
        one_into_new = k.one_into_new;
      }

  -- a role of the base, from one of its individuals to one
  pub placed-role :
      (b : Branch) (w : RoleRow) → Placed m b → w.role.0 < m.roles → OfBase m w.from → OfBase m w.to
      → Placed m (record { concepts = b.concepts; roles = b.roles ++ w ∷ []; pairs = b.pairs; individuals = b.individuals })
  placed-role b w k r f t =
      let first = k.base_first in
      record {
        base_first = k.base_first;
        concept_rows = k.concept_rows;
        role_rows = rows-push (λ (v : RoleRow). (v.role.0 < m.roles) × OfBranch b v.from × OfBranch b v.to) b.roles w k.role_rows (r, omega arith, omega arith);
        pair_rows = k.pair_rows;
        same_rows = k.same_rows;
        into_base = rows-push (λ (v : RoleRow). OfBase m v.to → OfBase m v.from) b.roles w k.into_base (λ _. f);
        row_into_new = λ x n o. let q = k.row_into_new x n o in (q.0, q.1, row_at-append-found b.roles (w ∷ []) q.0 q.1 q.2, q.3);
        one_into_new = one-into-push b.roles w k.one_into_new (λ j v e q n. omega arith);
      }

  -- a same or different row between individuals of the base
  pub placed_pair :
      (b : Branch) (w : PairRow) → Placed m b → PairBelow m.individuals w
      → Placed m (record { concepts = b.concepts; roles = b.roles; pairs = b.pairs ++ w ∷ []; individuals = b.individuals })
  placed_pair b w k l =
      record {
        base_first = k.base_first;
        concept_rows = k.concept_rows;
        role_rows = k.role_rows;
        pair_rows = rows-push (PairBelow b.individuals) b.pairs w k.pair_rows (pair_below_more m.individuals b.individuals w k.base_first l);
        same_rows = λ n x y e.
            ⊎_elim (k.same_rows n x y) (λ h. subst (PairBelow m.individuals) h.1 l) (rowAt-push-cases b.pairs w n (SameRow x y) e);
        into_base = k.into_base;
        row_into_new = k.row_into_new;
        one_into_new = k.one_into_new;
      }

  -- a new individual, and a role of the base from an individual of the branch to it
  pub placed-new :
      (b : Branch) (r : Role) (x : Individual) → Placed m b → r.0 < m.roles → OfBranch b x
      → Placed m (record {
        concepts = b.concepts;
        roles = b.roles ++ record { role = r; from = x; to = record { 0 = b.individuals } } ∷ [];
        pairs = b.pairs;
        individuals = b.individuals + 1;
      })
  placed-new b r x k l o =
      let n = b.individuals in
      let w : RoleRow = record { role = r; from = x; to = record { 0 = n } } in
      let first = k.base_first in
      record {
        base_first = omega arith;
        concept_rows = λ i v e. let h = k.concept_rows i v e in let p = h.1 in (h.0, omega arith);
        role_rows =
            rows-push (λ (v : RoleRow). (v.role.0 < m.roles) × (v.from.0 < n + 1) × (v.to.0 < n + 1)) b.roles w
            (λ i v e. let h = k.role_rows i v e in let p = h.1 in let q = h.2 in (h.0, omega arith, omega arith)) (l, omega arith, omega arith);
        pair_rows = λ i v e. pair_below_more n (n + 1) v (omega arith) (k.pair_rows i v e);
        same_rows = k.same_rows;
        into_base = rows-push (λ (v : RoleRow). OfBase m v.to → OfBase m v.from) b.roles w k.into_base (λ h. absurd (omega arith));
        row_into_new = λ y h g.
            ⊎_elim
            (λ (q : y.0 ≡ n). (length b.roles, w, row_at_push_last b.roles w, ap (λ (i : ℕ). record { 0 = i }) (sym q)))
            (λ (q : y.0 ≡ n → ⊥). let u = k.row_into_new y h (omega arith) in (u.0, u.1, row_at-append-found b.roles (w ∷ []) u.0 u.1 u.2, u.3))
            (cases_eq y.0 n);
        one_into_new = one-into-push b.roles w k.one_into_new (λ j v e q h.
            let p = (k.role_rows j v e).2 in let s : v.to.0 ≡ n = ap (λ (i : Individual). i.0) q in omega arith);
      }

  -- What may be written on a branch of n individuals.
  abbrev pub Placeable : ℕ → Assertion → Type 0
  Placeable n (Is c x) = (entry_number c < length m.entries) × (x.0 < n)
  Placeable n (Joins r x y) = (r.0 < m.roles) × OfBase m x × OfBase m y
  Placeable n (Same x y) = OfBase m x × OfBase m y
  Placeable n (Different x y) = OfBase m x × OfBase m y
  Placeable n (Unlisted kind) = Unit {0}

  pub write-placed : (n : ℕ) (l : Ledgers) (a : Assertion) → Placeable n a → Placed m (branch_of l n) → Placed m (branch_of (write a l) n)
  write-placed n l (Is c x) h k =
      let w : ConceptRow = record { concept = c; individual = x } in
      push-either (λ rows. Placed m (record { concepts = rows; roles = l.roles.rows; pairs = l.pairs.rows; individuals = n })) w l.concepts
      k (placed-concept (branch_of l n) w k h.0 h.1)
  write-placed n l (Joins r x y) h k =
      let w : RoleRow = record { role = r; from = x; to = y } in
      push-either (λ rows. Placed m (record { concepts = l.concepts.rows; roles = rows; pairs = l.pairs.rows; individuals = n })) w l.roles
      k (placed-role (branch_of l n) w k h.0 h.1 h.2)
  write-placed n l (Same x y) h k =
      push-either (λ rows. Placed m (record { concepts = l.concepts.rows; roles = l.roles.rows; pairs = rows; individuals = n })) (SameRow x y) l.pairs
      k (placed_pair (branch_of l n) (SameRow x y) k h)
  write-placed n l (Different x y) h k =
      push-either (λ rows. Placed m (record { concepts = l.concepts.rows; roles = l.roles.rows; pairs = rows; individuals = n })) (DifferentRow x y) l.pairs
      k (placed_pair (branch_of l n) (DifferentRow x y) k h)
  write-placed n l (Unlisted kind) h k = k

  -- a side that may be written
  pub side-placed :
      (b : Branch) (q : ConceptRow) → Placed m b → entry_number q.concept < length m.entries → OfBranch b q.individual → Placed m (with_side m q b)
  side-placed b q k c l =
      cond_both (held m b (Is q.concept q.individual)) b
      (record { concepts = b.concepts ++ q ∷ []; roles = b.roles; pairs = b.pairs; individuals = b.individuals }) (Placed m)
      (λ _. k) (λ _. placed-concept b q k c l)
