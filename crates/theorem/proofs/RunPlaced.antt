-- The rows of every sheet that is reached lie as they should, on its branch and on those that its pending rows take up.
use Rattle.std.proofs.Common.{◌≡◌, ℕ, ◌+◌, ◌-◌, ◌<◌, true, false, cond, ◌&&◌, ltb, leb, List, [], ◌∷◌, reverse, length, take, Some, None, Ok, Err, Option, Result, sym, refl, ap, ◌∙◌, subst, ⊎_elim, arith}
use Rattle.std.proofs.lemmas.Bool.{and_parts, cases_Bool, cond-false, cond-true}
use Rattle.std.specs.List.{AllByRecursion, list_all}
use Rattle.kb.specs.declared.axioms.Assertion.{Assertion}
use Rattle.kb.specs.declared.axioms.Assertion.TheVariants.{Is, Joins}
use Rattle.kb.specs.declared.names.Concept.{Concept}
use Rattle.kb.specs.declared.names.Individual.{Individual}
use Rattle.kb.specs.declared.names.Role.{Role}
use Rattle.kb.specs.Check.{InRange}
use Rattle.kb.specs.Meanings.{Meaning}
use Rattle.kb.specs.Names.{entry_number}
use Rattle.calculus.proofs.HeldLaws.{held-means}
use Rattle.calculus.specs.declared.fault.StepFault.{StepFault}
use Rattle.calculus.specs.declared.fault.StepFault.TheVariants.{Changed, Closed, Full, Premise}
use Rattle.calculus.specs.declared.row_kinds.ConceptRow.{ConceptRow}
use Rattle.calculus.specs.declared.row_kinds.PendingRow.{PendingRow}
use Rattle.calculus.specs.declared.row_kinds.RoleRow.{RoleRow}
use Rattle.calculus.specs.declared.step.Step.{Step}
use Rattle.calculus.specs.Branches.{Branch, held}
use Rattle.calculus.specs.Holding.{Held}
use Rattle.calculus.specs.Playing.{Played, Written, accepted, close, cut_to, extend, free, individuals_after, last_of, left, note, noteable, opened, perform, play, ready, write, write_missing}
use Rattle.calculus.specs.Runs.{Run, start, step}
use Rattle.calculus.specs.States.{Ledgers, State, branch, branch_of, fits}
use Rattle.calculus.specs.Table.{Rule, and_then, rule}
use Rattle.calculus.proofs.Accepting.{Err_not_Ok, Ok_injective, and_then_Ok, cond_Ok}
use Rattle.theorem.proofs.Growing.{cut-grown, cut-noted, Grown, grown-with_side, last_of_Some, noted, push-rows, reopened, reopened-grown, reverse-push, Within, within-noted, with_side, write_missing-grown, write_missing_keeps, write_missing-side}
use Rattle.theorem.proofs.PlacedEqual.{new_alone_right}
use Rattle.theorem.proofs.PlacedRows.{Placeable, placed-new, side-placed, write-placed}
use Rattle.theorem.proofs.PlacedTable.{Line, adds-held, adds-new, adds-rows, closes, splits, table-placed}
use Rattle.theorem.proofs.RunSound.{opening_Ok, run_in_range, stack}
use Rattle.theorem.proofs.SheetFits.{all_within, rows_fit_lem}
use Rattle.theorem.specs.Placed.{OfBranch, Placed}

-- facts that are held are not written
pub write_missing-held : (m : Meaning) (n : ℕ) (facts : List Assertion) (w : Written) → list_all (held m (branch_of w.ledgers n)) facts ≡ true → write_missing m n facts w ≡ Ok w
write_missing-held m n [] w h = refl
write_missing-held m n (a ∷ facts) w h =
    let p = and_parts (held m (branch_of w.ledgers n) a) (list_all (held m (branch_of w.ledgers n)) facts) h in
    cond-true (held m (branch_of w.ledgers n) a) (write_missing m n facts w) _ p.0 ∙ write_missing-held m n facts w p.1

module _ (m : Meaning) where
  -- The branch that the last pending row takes up is placed, and so on to the first.
  abbrev pub PendingPlaced : Branch → List PendingRow → Type 0
  PendingPlaced b [] = Unit {0}
  PendingPlaced b (p ∷ ps) = Placed m (reopened m p b) × PendingPlaced (reopened m p b) ps

  -- What holds of every sheet that is reached.
  pub record SheetPlaced (s : State) : Type 0 where
    pub now : Placed m (branch s)
    pub pending : PendingPlaced (branch s) (stack s)

  -- rows are written: what is pending is as it was
  grown-pending : (b b' : Branch) (ps : List PendingRow) → Grown b b' → AllByRecursion (Within b) ps → PendingPlaced b ps → PendingPlaced b' ps
  grown-pending b b' [] g w k = tt
  grown-pending b b' (p ∷ ps) g w k = subst (λ c. Placed m c × PendingPlaced c ps) (sym (reopened-grown m b b' p g w.0)) k

  module _ (s : State) (good : fits m s ≡ true) (placed : SheetPlaced s) where
    abbrev l : Ledgers
    l = s.ledgers

    abbrev n : ℕ
    n = s.numbers.individuals

    within : AllByRecursion (Within (branch s)) (stack s)
    within = all_within s.numbers.base n l n (rows_fit_lem m s good)

    -- An accepted rule that does not close: what was written, and from where.
    record Extended (r : Rule) (p : Played) : Type 0 where
      written : Written
      places : noteable r.split l ≡ true
      writes : write_missing m (individuals_after r.fresh n) r.adds (record { ledgers = note r.split n l; rows = 0 }) ≡ Ok written
      leaves : accepted s.numbers (individuals_after r.fresh n) false written ≡ p

    extended : (r : Rule) (p : Played) → extend m s r ≡ Ok p → Extended r p
    extended r p e =
        let after = individuals_after r.fresh n in
        let write-all = write_missing m after r.adds (record { ledgers = note r.split n l; rows = 0 }) in
        let q = cond_Ok (leb after 1024 && noteable r.split l) (and_then write-all (λ w. Ok (accepted s.numbers after false w))) Full p e in
        let u = and_then_Ok write-all (λ w. Ok (accepted s.numbers after false w)) p q.1 in
        record { written = u.0; places = (and_parts (leb after 1024) (noteable r.split l) q.0).1; writes = u.1; leaves = Ok_injective u.2 }

    -- without a split, what is pending stays
    unsplit-placed :
        (after : ℕ) (facts : List Assertion) (v : Written) → write_missing m after facts (record { ledgers = l; rows = 0 }) ≡ Ok v
        → Placed m (branch_of v.ledgers after) → SheetPlaced (accepted s.numbers after false v).state
    unsplit-placed after facts v e k =
        let w : Written = record { ledgers = l; rows = 0 } in
        let g = write_missing-grown m after facts w v e in
        record {
          now = k;
          pending = subst (λ ps. PendingPlaced (branch_of v.ledgers after) (reverse ps.rows)) (sym g.pending)
              (grown-pending (branch s) (branch_of v.ledgers after) (stack s) (g.branch n after) within placed.pending);
        }

    -- no row goes into the next individual
    new-not-held : (r : Role) (x : Individual) → held m (branch s) (Joins r x (record { 0 = n })) ≡ false
    new-not-held r x =
        let fact = Joins r x (record { 0 = n }) in
        ⊎_elim (λ t. absurd (none (held-means m (branch s) fact t))) (λ f. f) (cases_Bool (held m (branch s) fact))
      where
        none : Held m (branch s) (Joins r x (record { 0 = n })) → ⊥
        none (i, w, e, _, _, t) =
            let q = new_alone_right m (branch s) placed.now w.to (record { 0 = n }) t placed.now.base_first in
            let below = (placed.now.role_rows i w e).2 in
            let is : w.to.0 ≡ n = ap (λ (y : Individual). y.0) q in
            omega arith

    -- the next individual is reached by the row that is written for it
    new-placed :
        (r : Role) (x : Individual) (d : Concept) → r.0 < m.roles → OfBranch (branch s) x → entry_number d < length m.entries → (v : Written)
        → write_missing m (n + 1) (Joins r x (record { 0 = n }) ∷ Is d (record { 0 = n }) ∷ []) (record { ledgers = l; rows = 0 }) ≡ Ok v
        → Placed m (branch_of v.ledgers (n + 1))
    new-placed r x d hr hx hd v e =
        let new : Individual = record { 0 = n } in
        let w : Written = record { ledgers = l; rows = 0 } in
        let w' : Written = record { ledgers = write (Joins r x new) l; rows = 0 + 1 } in
        let row : RoleRow = record { role = r; from = x; to = new } in
        let rest = write_missing m (n + 1) (Is d new ∷ []) w' in
        let f = cond-false (held m (branch_of l (n + 1)) (Joins r x new)) (write_missing m (n + 1) (Is d new ∷ []) w) (cond (free l.roles) rest (Err Full)) (new-not-held r x) in
        let q = cond_Ok (free l.roles) rest Full v (sym f ∙ e) in
        let k : Placed m (branch_of w'.ledgers (n + 1)) =
        subst (λ rows. Placed m (record { concepts = l.concepts.rows; roles = rows; pairs = l.pairs.rows; individuals = n + 1 }))
        (sym (push-rows row l.roles q.0)) (placed-new m (branch s) r x placed.now hr hx) in
        write_missing_keeps m (n + 1) (λ u. Placed m (branch_of u (n + 1))) (Placeable m (n + 1)) (write-placed m (n + 1)) (Is d new ∷ []) ((hd, omega arith), tt) w' v k q.1

    -- a split: the branch goes on with the left side, and its right side is noted
    split-placed :
        (side : ConceptRow) (facts : List Assertion) (v : Written) → AllByRecursion (Placeable m n) facts → Placeable m n (Is side.concept side.individual)
        → noteable (Some side) l ≡ true → write_missing m n facts (record { ledgers = note (Some side) n l; rows = 0 }) ≡ Ok v
        → SheetPlaced (accepted s.numbers n false v).state
    split-placed side facts v h hs places e =
        let w : Written = record { ledgers = note (Some side) n l; rows = 0 } in
        let g = write_missing-grown m n facts w v e in
        let b = branch s in
        let b' = branch_of v.ledgers n in
        let c = with_side m side b in
        let grown : Grown b b' = let u = g.branch n n in record { concepts = u.concepts; roles = u.roles; pairs = u.pairs } in
        let room = and_parts (free l.pending) (free l.concepts) places in
        let order : reverse v.ledgers.pending.rows ≡ noted (branch s) side ∷ stack s =
        ap (λ ps. reverse ps.rows) g.pending ∙ ap reverse (push-rows (noted (branch s) side) l.pending room.0) ∙ reverse-push l.pending.rows (noted (branch s) side) in
        let takes-up : reopened m (noted (branch s) side) b' ≡ c = ap (with_side m side) (cut-grown b b' (noted (branch s) side) grown (within-noted (branch s) side) ∙ cut-noted (branch s) side) in
        let right : Placed m c × PendingPlaced c (stack s) =
        (side-placed m b side placed.now hs.0 hs.1, grown-pending b c (stack s) (grown-with_side m side b) within placed.pending) in
        record {
          now = write_missing_keeps m n (λ u. Placed m (branch_of u n)) (Placeable m n) (write-placed m n) facts h w v placed.now e;
          pending = subst (PendingPlaced b') (sym order) (subst (λ d. Placed m d × PendingPlaced d (stack s)) (sym takes-up) right);
        }

    -- a branch ends: the last pending row is taken up, if there is one
    close-placed : (o : Option PendingRow) → last_of l.pending.rows ≡ o → (p : Played) → close m s o ≡ Ok p → SheetPlaced p.state
    close-placed None o p e = subst (λ (x : Played). SheetPlaced x.state) (Ok_injective e) (record { now = placed.now; pending = placed.pending })
    close-placed (Some row) o p e =
        let w : Written = record { ledgers = cut_to row l; rows = 0 } in
        let side = Is row.side.concept row.side.individual ∷ [] in
        let u = and_then_Ok (write_missing m row.individuals side w) (λ w. Ok (accepted s.numbers row.individuals false w)) p e in
        let v = u.0 in
        let rest = take (length l.pending.rows - 1) l.pending.rows in
        let order : stack s ≡ row ∷ reverse rest = ap reverse (last_of_Some l.pending.rows row o) ∙ reverse-push rest row in
        let b : branch_of v.ledgers row.individuals ≡ reopened m row (branch s) = write_missing-side m row.individuals row.side w v u.1 in
        let g = write_missing-grown m row.individuals side w v u.1 in
        let k : PendingPlaced (branch s) (row ∷ reverse rest) = subst (PendingPlaced (branch s)) order placed.pending in
        subst (λ (x : Played). SheetPlaced x.state) (Ok_injective u.2)
        (record {
          now = subst (Placed m) (sym b) k.0;
          pending = subst (λ c. PendingPlaced c (reverse v.ledgers.pending.rows)) (sym b)
              (subst (λ ps. PendingPlaced (reopened m row (branch s)) (reverse ps.rows)) (sym g.pending) k.1);
        })

    -- a line that writes only what may be written
    extend-placed : (r : Rule) → Line m (branch s) r → (p : Played) → cond r.closes (close m s (last_of l.pending.rows)) (extend m s r) ≡ Ok p → SheetPlaced p.state
    extend-placed r (adds-rows needs adds h) p e =
        let x = extended r p e in
        let w : Written = record { ledgers = l; rows = 0 } in
        subst (λ (q : Played). SheetPlaced q.state) x.leaves
        (unsplit-placed n adds x.written x.writes
        (write_missing_keeps m n (λ u. Placed m (branch_of u n)) (Placeable m n) (write-placed m n) adds h w x.written placed.now x.writes))
    extend-placed r (adds-held needs adds h) p e =
        let x = extended r p e in
        let w : Written = record { ledgers = l; rows = 0 } in
        let same : w ≡ x.written = Ok_injective (sym (write_missing-held m n adds w h) ∙ x.writes) in
        subst (λ (q : Played). SheetPlaced q.state) x.leaves
        (unsplit-placed n adds x.written x.writes (subst (λ (u : Written). Placed m (branch_of u.ledgers n)) same placed.now))
    extend-placed r (adds-new needs role x d hr hx hd) p e =
        let q = extended r p e in
        subst (λ (q : Played). SheetPlaced q.state) q.leaves
        (unsplit-placed (n + 1) r.adds q.written q.writes (new-placed role x d hr hx hd q.written q.writes))
    extend-placed r (splits needs left right x hl hr hx) p e =
        let q = extended r p e in
        subst (λ (q : Played). SheetPlaced q.state) q.leaves
        (split-placed (record { concept = right; individual = x }) (Is left x ∷ []) q.written ((hl, hx), tt) (hr, hx) q.places q.writes)
    extend-placed r (closes needs) p e = close-placed (last_of l.pending.rows) refl p e

  module _ (range : InRange m) where
    -- an accepted step keeps the rows placed, and a refused one changes nothing
    pub play-placed : (s : State) (scratch : ℕ) (t : Step) → SheetPlaced s → SheetPlaced (left s (play m scratch t s))
    play-placed s scratch t k = by_answer (play m scratch t s) refl
      where
        accepted-placed : (p : Played) → play m scratch t s ≡ Ok p → SheetPlaced p.state
        accepted-placed p e =
            let u = and_then_Ok (ready m scratch s) (λ _. and_then (rule m s.numbers.individuals t) (perform m s)) p e in
            let good = cond_Ok (fits m s) (cond (leb 1024 scratch) (cond s.numbers.closed (Err Closed) (Ok tt)) (Err Full)) Changed u.0 u.1 in
            let v = and_then_Ok (rule m s.numbers.individuals t) (perform m s) p u.2 in
            let r = v.0 in
            let does = cond r.closes (close m s (last_of s.ledgers.pending.rows)) (extend m s r) in
            let q = cond_Ok (list_all (held m (branch s)) r.needs) (cond (ltb s.numbers.steps 1000000) does (Err Full)) Premise p v.2 in
            let d = cond_Ok (ltb s.numbers.steps 1000000) does Full p q.1 in
            extend-placed s good.0 k r (table-placed m range (branch s) k.now t r v.1 q.0) p d.1

        by_answer : (r : Result Played StepFault) → play m scratch t s ≡ r → SheetPlaced (left s r)
        by_answer (Ok p) e = accepted-placed p e
        by_answer (Err f) e = k

  -- an opened sheet has no rows, and only the individuals of the base
  pub opened-placed : (l : Ledgers) → SheetPlaced (opened m l)
  opened-placed l =
      record {
        now = record {
          base_first = omega arith;
          concept_rows = λ n w e. Err_not_Ok e;
          role_rows = λ n w e. Err_not_Ok e;
          pair_rows = λ n w e. Err_not_Ok e;
          same_rows = λ n x y e. Err_not_Ok e;
          into_base = λ n w e. Err_not_Ok e;
          row_into_new = λ x h g. absurd (omega arith);
          one_into_new = λ j k v w e. Err_not_Ok e;
        };
        pending = tt;
      }

pub run_sheet_placed : (m : Meaning) (s : State) → Run m s → SheetPlaced m s
run_sheet_placed m s (start l e) = subst (SheetPlaced m) (opening_Ok m l s e).1 (opened-placed m l)
run_sheet_placed m s (step {s = before} r scratch t) = play-placed m (run_in_range m before r) before scratch t (run_sheet_placed m before r)

-- the rows of every sheet that is reached lie as they should
pub run_placed : (m : Meaning) (s : State) → Run m s → Placed m (branch s)
run_placed m s r = (run_sheet_placed m s r).now
