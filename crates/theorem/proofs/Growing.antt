-- Branches that grow by rows: what was noted of a branch stays as it was, and what is written is all that is new.
use Rattle.std.proofs.Common.{◌≡◌, ℕ, suc, ◌+◌, ◌-◌, ◌≤◌, true, cond, ltb, List, [], ◌∷◌, ◌++◌, reverse, length, take, Some, None, Ok, Err, sym, refl, ap, ◌∙◌, subst, ⊎_elim, arith}
use Rattle.std.proofs.ByRecursion.{All-append}
use Rattle.std.proofs.lemmas.List.{append_assoc, append-nil, reverse-append, take_all, take-append-le}
use Rattle.std.proofs.lemmas.Bool.{cases_Bool, cond_both, cond-false, cond-true, ltb-true}
use Rattle.std.specs.List.{AllByRecursion}
use Rattle.kb.specs.declared.axioms.Assertion.{Assertion}
use Rattle.kb.specs.declared.axioms.Assertion.TheVariants.{Is, Joins, Same, Different, Unlisted}
use Rattle.kb.specs.Meanings.{Meaning}
use Rattle.ledger.specs.Books.{Book, filled, push}
use Rattle.calculus.specs.declared.fault.StepFault.TheVariants.{Full}
use Rattle.calculus.specs.declared.row_kinds.ConceptRow.{ConceptRow}
use Rattle.calculus.specs.declared.row_kinds.PairRow.TheVariants.{Same as SameRow, Different as DifferentRow}
use Rattle.calculus.specs.declared.row_kinds.PendingRow.{PendingRow}
use Rattle.calculus.specs.declared.row_kinds.RoleRow.{RoleRow}
use Rattle.calculus.specs.Branches.{Branch, held}
use Rattle.calculus.specs.Playing.{Written, free, last_of, room, rows_of, write, write_missing}
use Rattle.calculus.specs.States.{Ledgers, branch_of}
use Rattle.calculus.proofs.Accepting.{Ok_injective, cond_Ok}

-- A list with more behind it.
abbrev pub Longer : {A : Type 0} → List A → List A → Type 0
Longer {A} xs ys = (more : List A) × (ys ≡ xs ++ more)

pub longer_refl : {A : Type 0} (xs : List A) → Longer xs xs
longer_refl xs = ([], sym (append-nil xs))

pub longer_trans : {A : Type 0} (xs ys zs : List A) → Longer xs ys → Longer ys zs → Longer xs zs
longer_trans xs ys zs p q = (p.0 ++ q.0, q.1 ∙ ap (λ us. us ++ q.0) p.1 ∙ append_assoc xs p.0 q.0)

pub longer_push : {A : Type 0} (x : A) (b : Book A) → Longer b.rows (push x b).rows
longer_push x b = filled_longer b.rows b.free
  where
    filled_longer : (rows free : List _) → Longer rows (filled x rows free).rows
    filled_longer rows [] = longer_refl rows
    filled_longer rows (y ∷ ys) = (x ∷ [], refl)

pub take_longer : {A : Type 0} (n : ℕ) (xs ys : List A) → Longer xs ys → n ≤ length xs → take n ys ≡ take n xs
take_longer n xs ys p l = ap (take n) p.1 ∙ take-append-le n xs p.0 l

-- One row more stands in a ledger that has a free place.
pub push-rows : {A : Type 0} (x : A) (b : Book A) → free b ≡ true → (push x b).rows ≡ b.rows ++ x ∷ []
push-rows x b f = filled-rows b.rows b.free f
  where
    filled-rows : (rows places : List _) → ltb 0 (length places) ≡ true → (filled x rows places).rows ≡ rows ++ x ∷ []
    filled-rows rows [] f = absurd (omega (arith, ltb-true 0 0 f))
    filled-rows rows (y ∷ ys) f = refl

pub all_pushed : {A : Type 0} (P : A → Type 0) (x : A) (b : Book A) → AllByRecursion P b.rows → P x → AllByRecursion P (push x b).rows
all_pushed P x b a p = all_filled b.rows b.free a
  where
    all_filled : (rows places : List _) → AllByRecursion P rows → AllByRecursion P (filled x rows places).rows
    all_filled rows [] a = a
    all_filled rows (y ∷ ys) a = All-append P rows (x ∷ []) a (p, tt)

pub all_reverse : {A : Type 0} (P : A → Type 0) (xs : List A) → AllByRecursion P xs → AllByRecursion P (reverse xs)
all_reverse P [] a = tt
all_reverse P (x ∷ xs) a =
    subst (AllByRecursion P) (sym (reverse-append (x ∷ []) xs)) (All-append P (reverse xs) (x ∷ []) (all_reverse P xs a.1) (a.0, tt))

-- The last pending row stands first in the reversed list.
pub reverse-push : {A : Type 0} (xs : List A) (x : A) → reverse (xs ++ x ∷ []) ≡ x ∷ reverse xs
reverse-push xs x = reverse-append xs (x ∷ [])

pub last_of_None : {A : Type 0} (xs : List A) → last_of xs ≡ None → xs ≡ []
last_of_None [] e = refl
last_of_None (x ∷ []) e = let z : ◌≡◌ {A = ℕ} 0 1 = cc in absurd (omega arith)
last_of_None (x ∷ y ∷ ys) e = let z = last_of_None (y ∷ ys) e in let z : ◌≡◌ {A = ℕ} 0 1 = cc in absurd (omega arith)

pub last_of_Some : {A : Type 0} (xs : List A) (x : A) → last_of xs ≡ Some x → xs ≡ take (length xs - 1) xs ++ x ∷ []
last_of_Some [] x e = let z : ◌≡◌ {A = ℕ} 0 1 = cc in absurd (omega arith)
last_of_Some (y ∷ []) x e = let p : y ≡ x = cc in ap (λ u. u ∷ []) p
last_of_Some (y ∷ z ∷ zs) x e =
    let p : length (y ∷ z ∷ zs) - 1 ≡ suc (length (z ∷ zs) - 1) = omega arith in
    rw p (ap (λ us. y ∷ us) (last_of_Some (z ∷ zs) x e))

-- A branch that has the rows of another, and more behind them.
pub record Grown (b b' : Branch) : Type 0 where
  pub concepts : Longer b.concepts b'.concepts
  pub roles : Longer b.roles b'.roles
  pub pairs : Longer b.pairs b'.pairs

-- What a pending row notes is no more than the branch has.
pub record Within (b : Branch) (p : PendingRow) : Type 0 where
  pub concepts : p.concepts ≤ length b.concepts
  pub roles : p.roles ≤ length b.roles
  pub pairs : p.pairs ≤ length b.pairs

-- The branch as it was when a pending row was noted.
abbrev pub cut_branch : PendingRow → Branch → Branch
cut_branch p b =
    record { concepts = take p.concepts b.concepts; roles = take p.roles b.roles; pairs = take p.pairs b.pairs; individuals = p.individuals }

-- The right side of a split, noted with the lengths of the branch: cutting back to it gives the branch again.
abbrev pub noted : Branch → ConceptRow → PendingRow
noted b side = record { side = side; concepts = length b.concepts; roles = length b.roles; pairs = length b.pairs; individuals = b.individuals }

pub cut-noted : (b : Branch) (side : ConceptRow) → cut_branch (noted b side) b ≡ b
cut-noted b side = λ i. record {
  concepts = take_all (length b.concepts) b.concepts (omega arith) i;
  roles = take_all (length b.roles) b.roles (omega arith) i;
  pairs = take_all (length b.pairs) b.pairs (omega arith) i;
  individuals = b.individuals;
}

pub within-noted : (b : Branch) (side : ConceptRow) → Within b (noted b side)
within-noted b side = record { concepts = omega arith; roles = omega arith; pairs = omega arith }

-- A branch with a side behind its concept rows, unless it is held.
abbrev pub with_side : Meaning → ConceptRow → Branch → Branch
with_side m q b =
    cond (held m b (Is q.concept q.individual)) b
    (record { concepts = b.concepts ++ q ∷ []; roles = b.roles; pairs = b.pairs; individuals = b.individuals })

-- The branch that a pending row takes up.
abbrev pub reopened : Meaning → PendingRow → Branch → Branch
reopened m p b = with_side m p.side (cut_branch p b)

pub grown-with_side : (m : Meaning) (q : ConceptRow) (b : Branch) → Grown b (with_side m q b)
grown-with_side m q b =
    cond_both (held m b (Is q.concept q.individual)) b
    (record { concepts = b.concepts ++ q ∷ []; roles = b.roles; pairs = b.pairs; individuals = b.individuals }) (Grown b)
    (λ _. record { concepts = longer_refl b.concepts; roles = longer_refl b.roles; pairs = longer_refl b.pairs })
    (λ _. record { concepts = (q ∷ [], refl); roles = longer_refl b.roles; pairs = longer_refl b.pairs })

-- Cutting after growing gives the same as cutting before.
pub cut-grown : (b b' : Branch) (p : PendingRow) → Grown b b' → Within b p → cut_branch p b' ≡ cut_branch p b
cut-grown b b' p g w = λ i. record {
  concepts = take_longer p.concepts b.concepts b'.concepts g.concepts w.concepts i;
  roles = take_longer p.roles b.roles b'.roles g.roles w.roles i;
  pairs = take_longer p.pairs b.pairs b'.pairs g.pairs w.pairs i;
  individuals = p.individuals;
}

pub reopened-grown : (m : Meaning) (b b' : Branch) (p : PendingRow) → Grown b b' → Within b p → reopened m p b' ≡ reopened m p b
reopened-grown m b b' p g w = ap (with_side m p.side) (cut-grown b b' p g w)

-- A property that each written fact keeps is kept by what is written.
pub write_missing_keeps : (m : Meaning) (n : ℕ) (P : Ledgers → Type 0) (Q : Assertion → Type 0) →
    ((l : Ledgers) (a : Assertion) → Q a → P l → P (write a l)) →
    (facts : List Assertion) → AllByRecursion Q facts → (w v : Written) → P w.ledgers → write_missing m n facts w ≡ Ok v → P v.ledgers
write_missing_keeps m n P Q k [] a w v h e = subst (λ (u : Written). P u.ledgers) (Ok_injective e) h
write_missing_keeps m n P Q k (f ∷ facts) a w v h e =
    let w' : Written = record { ledgers = write f w.ledgers; rows = w.rows + rows_of f } in
    let b = held m (branch_of w.ledgers n) f in
    let written = cond (room f w.ledgers) (write_missing m n facts w') (Err Full) in
    ⊎_elim
    (λ t. write_missing_keeps m n P Q k facts a.1 w v h (sym (cond-true b (write_missing m n facts w) written t) ∙ e))
    (λ t. let q = cond_Ok (room f w.ledgers) (write_missing m n facts w') Full v (sym (cond-false b (write_missing m n facts w) written t) ∙ e) in
    write_missing_keeps m n P Q k facts a.1 w' v (k w.ledgers f a.0 h) q.1)
    (cases_Bool b)

-- Written facts make the branch grow, and leave the pending rows.
pub record LedgersGrown (l l' : Ledgers) : Type 0 where
  pub branch : (k k' : ℕ) → Grown (branch_of l k) (branch_of l' k')
  pub pending : l'.pending ≡ l.pending

ledgers-same : (l : Ledgers) → LedgersGrown l l
ledgers-same l =
    record {
      branch = λ k k'. record { concepts = longer_refl l.concepts.rows; roles = longer_refl l.roles.rows; pairs = longer_refl l.pairs.rows };
      pending = refl;
    }

ledgers-write : (l₀ l : Ledgers) (a : Assertion) → LedgersGrown l₀ l → LedgersGrown l₀ (write a l)
ledgers-write l₀ l (Is c x) g =
    let w : ConceptRow = record { concept = c; individual = x } in
    record {
      branch = λ k k'. let b = g.branch k k' in
          record { concepts = longer_trans l₀.concepts.rows l.concepts.rows (push w l.concepts).rows b.concepts (longer_push w l.concepts); roles = b.roles; pairs = b.pairs };
      pending = g.pending;
    }
ledgers-write l₀ l (Joins r x y) g =
    let w : RoleRow = record { role = r; from = x; to = y } in
    record {
      branch = λ k k'. let b = g.branch k k' in
          record { concepts = b.concepts; roles = longer_trans l₀.roles.rows l.roles.rows (push w l.roles).rows b.roles (longer_push w l.roles); pairs = b.pairs };
      pending = g.pending;
    }
ledgers-write l₀ l (Same x y) g =
    record {
      branch = λ k k'. let b = g.branch k k' in
          record { concepts = b.concepts; roles = b.roles; pairs = longer_trans l₀.pairs.rows l.pairs.rows (push (SameRow x y) l.pairs).rows b.pairs (longer_push (SameRow x y) l.pairs) };
      pending = g.pending;
    }
ledgers-write l₀ l (Different x y) g =
    record {
      branch = λ k k'. let b = g.branch k k' in
          record { concepts = b.concepts; roles = b.roles; pairs = longer_trans l₀.pairs.rows l.pairs.rows (push (DifferentRow x y) l.pairs).rows b.pairs (longer_push (DifferentRow x y) l.pairs) };
      pending = g.pending;
    }
ledgers-write l₀ l (Unlisted kind) g = g

all_units : (facts : List Assertion) → AllByRecursion (λ _. Unit {0}) facts
all_units [] = tt
all_units (a ∷ facts) = (tt, all_units facts)

pub write_missing-grown : (m : Meaning) (n : ℕ) (facts : List Assertion) (w v : Written) → write_missing m n facts w ≡ Ok v → LedgersGrown w.ledgers v.ledgers
write_missing-grown m n facts w v e =
    write_missing_keeps m n (LedgersGrown w.ledgers) (λ _. Unit {0}) (λ l a _ g. ledgers-write w.ledgers l a g) facts (all_units facts) w v (ledgers-same w.ledgers) e

-- One side written, unless it is held, gives the branch with that side.
pub write_missing-side : (m : Meaning) (n : ℕ) (q : ConceptRow) (w v : Written) → write_missing m n (Is q.concept q.individual ∷ []) w ≡ Ok v → branch_of v.ledgers n ≡ with_side m q (branch_of w.ledgers n)
write_missing-side m n q w v e =
    let b = branch_of w.ledgers n in
    let l = w.ledgers in
    let more : Branch = record { concepts = b.concepts ++ q ∷ []; roles = b.roles; pairs = b.pairs; individuals = n } in
    let w' : Written = record { ledgers = write (Is q.concept q.individual) l; rows = w.rows + 1 } in
    let is_held = held m b (Is q.concept q.individual) in
    ⊎_elim
    (λ t. let p : w ≡ v = Ok_injective (sym (cond-true is_held (Ok w) (cond (free l.concepts) (Ok w') (Err Full)) t) ∙ e) in
    ap (λ (u : Written). branch_of u.ledgers n) (sym p) ∙ sym (cond-true is_held b more t))
    (λ t. let c = cond_Ok (free l.concepts) (Ok w') Full v (sym (cond-false is_held (Ok w) (cond (free l.concepts) (Ok w') (Err Full)) t) ∙ e) in
    let p : w' ≡ v = Ok_injective c.1 in
    ap (λ (u : Written). branch_of u.ledgers n) (sym p)
    ∙ (λ i. record { concepts = push-rows q l.concepts c.0 i; roles = b.roles; pairs = b.pairs; individuals = n })
    ∙ sym (cond-false is_held b more t))
    (cases_Bool is_held)
