-- Over a base that an interpretation satisfies, no run closes a sheet: of the branch and the branches that its pending
-- rows take up, one is satisfiable.
use Rattle.std.proofs.Common.{◌≡◌, ℕ, ◌-◌, ◌≤◌, Bool, true, false, cond, ◌&&◌, ltb, leb, ◌⊎◌, List, [], ◌∷◌, ◌++◌, reverse, length, take, Some, None, Ok, Err, Option, Result, sym, refl, ap, ◌∙◌, subst, inl, inr, ⊎_elim, arith}
use Rattle.std.proofs.lemmas.Bool.{and_parts, both_ways, cond_both, cond-true}
use Rattle.std.specs.List.{AllByRecursion, list_all}
use Rattle.kb.proofs.CheckLaws.{checked_means}
use Rattle.kb.specs.declared.axioms.Assertion.TheVariants.{Is}
use Rattle.kb.specs.declared.fault.BaseFault.TheVariants.{Size}
use Rattle.kb.specs.Check.{InRange, checked_base, checked_rows, sizes_accepted}
use Rattle.kb.specs.Interpretations.{Element, Interpretation, Lawful, Satisfies}
use Rattle.kb.specs.Meanings.{Meaning, counts_of}
use Rattle.calculus.specs.declared.fault.StepFault.{StepFault}
use Rattle.calculus.specs.declared.fault.StepFault.TheVariants.{Changed, Closed, Full, Premise}
use Rattle.calculus.specs.declared.row_kinds.ConceptRow.{ConceptRow}
use Rattle.calculus.specs.declared.row_kinds.PendingRow.{PendingRow}
use Rattle.calculus.specs.declared.step.Step.{Step}
use Rattle.calculus.specs.Branches.{Branch, held}
use Rattle.calculus.specs.Playing.{Played, Written, accepted, close, cut_to, extend, free, individuals_after, last_of, left, note, noteable, opened, perform, play, ready, write_missing}
use Rattle.calculus.specs.Runs.{Run, lengths_accepted, opening, start, step}
use Rattle.calculus.specs.States.{Ledgers, State, branch, branch_of, fits, rows_fit, sizes_of}
use Rattle.calculus.specs.Table.{Rule, and_then, rule}
use Rattle.calculus.proofs.Accepting.{Ok_injective, and_then_Ok, cond_Ok}
use Rattle.theorem.proofs.Growing.{cut-grown, cut-noted, cut_branch, Grown, grown-with_side, last_of_None, last_of_Some, noted, push-rows, reopened, reopened-grown, reverse-push, Within, within-noted, with_side, write_missing-grown, write_missing-side}
use Rattle.theorem.proofs.SheetFits.{all_within, rows_agree, rows_fit_lem}
use Rattle.theorem.proofs.TableSound.{Agree, Assigns, Continues, Follows, SideTrue, table_sound}
use Rattle.theorem.proofs.Truth.{ConceptTrue, RowsTrue, needs_true}
use Rattle.theorem.proofs.WritingTrue.{side_true, write_missing_true}

-- The pending rows, the last first.
abbrev pub stack : State → List PendingRow
stack s = reverse s.ledgers.pending.rows

with_side-individuals : (m : Meaning) (q : ConceptRow) (b : Branch) → (with_side m q b).individuals ≡ b.individuals
with_side-individuals m q b =
    cond_both (held m b (Is q.concept q.individual)) b
    (record { concepts = b.concepts ++ q ∷ []; roles = b.roles; pairs = b.pairs; individuals = b.individuals })
    (λ (c : Branch). c.individuals ≡ b.individuals) (λ _. refl) (λ _. refl)

individuals-more : (fresh : Bool) (n : ℕ) → n ≤ individuals_after fresh n
individuals-more true n = omega arith
individuals-more false n = omega arith

module _ (I : Interpretation) (m : Meaning) where
  -- An assignment satisfies a branch: each individual of the base has its own element, and every row is true.
  pub record Satisfied (b : Branch) (at : ℕ → List ℕ) : Type 0 where
    pub assigns : Assigns I m b.individuals at
    pub rows : RowsTrue I at b

  -- Some assignment does.
  abbrev pub Satisfiable : Branch → Type 0
  Satisfiable b = (at : ℕ → List ℕ) × Satisfied b at

  -- The branch is satisfiable, or the branch that the last pending row takes up is, and so on to the first.
  pub data SomeSatisfiable : Branch → List PendingRow → Type 0 where
    here : {b : Branch} {ps : List PendingRow} → Satisfiable b → SomeSatisfiable b ps
    later : {b : Branch} {p : PendingRow} {ps : List PendingRow} → SomeSatisfiable (reopened m p b) ps → SomeSatisfiable b (p ∷ ps)

  -- an assignment that agrees on the individuals there are gives those of the base their own elements
  assigns-more : (n k : ℕ) (at next : ℕ → List ℕ) → Assigns I m n at → ((x : ℕ) → Element I (next x)) → Agree n at next → n ≤ k → Assigns I m k next
  assigns-more n k at next a el agree l =
      record {
        elements = el;
        named = λ x h. let base = a.base in agree x.0 (omega arith) ∙ a.named x h;
        base = let base = a.base in omega arith;
      }

  -- rows are written: what is pending is as it was
  pub grown-satisfiable : (b b' : Branch) (ps : List PendingRow) → Grown b b' → AllByRecursion (Within b) ps → (Satisfiable b → Satisfiable b') → SomeSatisfiable b ps → SomeSatisfiable b' ps
  grown-satisfiable b b' ps g w f (here h) = here (f h)
  grown-satisfiable b b' (p ∷ ps) g w f (later a) =
      later (subst (λ c. SomeSatisfiable c ps) (sym (reopened-grown m b b' p g w.0)) a)

  -- a split: p notes the branch as it was, and takes it up with the right side
  pub split-satisfiable : (b b' : Branch) (p : PendingRow) (ps : List PendingRow) → Grown b b' → Within b p → cut_branch p b ≡ b → AllByRecursion (Within b) ps →
      (Satisfiable b → Satisfiable b' ⊎ Satisfiable (with_side m p.side b)) → SomeSatisfiable b ps → SomeSatisfiable b' (p ∷ ps)
  split-satisfiable b b' p ps g wp c w f a =
      let q : reopened m p b' ≡ with_side m p.side b = ap (with_side m p.side) (cut-grown b b' p g wp ∙ c) in
      by-branch ps w a (λ h. ⊎_elim here (λ t. later (subst (λ d. SomeSatisfiable d ps) (sym q) (here t))) (f h))
      (λ r. later (subst (λ d. SomeSatisfiable d ps) (sym q) r))
    where
      by-branch : (ps : List PendingRow) → AllByRecursion (Within b) ps → SomeSatisfiable b ps → (Satisfiable b → SomeSatisfiable b' (p ∷ ps)) → (SomeSatisfiable (with_side m p.side b) ps → SomeSatisfiable b' (p ∷ ps)) → SomeSatisfiable b' (p ∷ ps)
      by-branch ps w (here h) f k = f h
      by-branch (q ∷ ps) w (later a) f k =
          k (later (subst (λ d. SomeSatisfiable d ps) (sym (reopened-grown m b (with_side m p.side b) q (grown-with_side m p.side b) w.0)) a))

  -- What holds of every sheet that is reached.
  pub record Invariant (s : State) : Type 0 where
    pub satisfiable : SomeSatisfiable (branch s) (stack s)
    pub not_closed : s.numbers.closed ≡ false

  module _ (s : State) (good : fits m s ≡ true) (a : SomeSatisfiable (branch s) (stack s)) where
    -- the sheet's ledgers and its number of individuals
    abbrev l : Ledgers
    l = s.ledgers

    abbrev n : ℕ
    n = s.numbers.individuals

    fit-rows : rows_fit s.numbers.base n l ≡ true
    fit-rows = rows_fit_lem m s good

    within : AllByRecursion (Within (branch s)) (stack s)
    within = all_within s.numbers.base n l n fit-rows

    -- a true side may be written
    side_satisfied : (side : ConceptRow) (at : ℕ → List ℕ) → Assigns I m n at → RowsTrue I at (branch s) → ConceptTrue I at side → Satisfied (with_side m side (branch s)) at
    side_satisfied side at h t q =
        record {
          assigns = subst (λ k. Assigns I m k at) (sym (with_side-individuals m side (branch s))) h;
          rows = side_true I at m side (branch s) q t;
        }

    module _ (r : Rule) (after : ℕ) (more : n ≤ after) (goes_on : (at : ℕ → List ℕ) → Satisfied (branch s) at → Continues I n at r) where
      -- the rows are true by the assignment that goes on
      next-rows : (at : ℕ → List ℕ) (f : Satisfied (branch s) at) → RowsTrue I (goes_on at f).next (branch s)
      next-rows at f = rows_agree s.numbers.base n l I at (goes_on at f).next (goes_on at f).agree n n fit-rows f.rows

      next-assigns : (at : ℕ → List ℕ) (f : Satisfied (branch s) at) (k : ℕ) → n ≤ k → Assigns I m k (goes_on at f).next
      next-assigns at f k h = assigns-more n k at (goes_on at f).next f.assigns (goes_on at f).elements (goes_on at f).agree h

      -- a rule that does not close: with no split, and with one
      extend-satisfiable : (o : Option ConceptRow) → r.split ≡ o → noteable o l ≡ true → (v : Written) →
          write_missing m after r.adds (record { ledgers = note o n l; rows = 0 }) ≡ Ok v →
          SomeSatisfiable (branch_of v.ledgers after) (reverse v.ledgers.pending.rows)
      extend-satisfiable None o room v e =
          let w : Written = record { ledgers = l; rows = 0 } in
          let g = write_missing-grown m after r.adds w v e in
          subst (λ ps. SomeSatisfiable (branch_of v.ledgers after) (reverse ps.rows)) (sym g.pending)
          (grown-satisfiable (branch s) (branch_of v.ledgers after) (stack s) (g.branch n after) within
          (λ f. let at = f.0 in let h = f.1 in
          let next = (goes_on at h).next in
          let t = next-rows at h in (
            next,
            record {
              assigns = next-assigns at h after more;
              rows = ⊎_elim
                  (λ adds. write_missing_true I next m after after r.adds w v e adds (record { concepts = t.concepts; roles = t.roles; pairs = t.pairs }))
                  (λ side. absurd (subst (SideTrue I next) o side))
                  (goes_on at h).either;
            },
          )) a)
      extend-satisfiable (Some side) o room v e =
          let w : Written = record { ledgers = note (Some side) n l; rows = 0 } in
          let g = write_missing-grown m after r.adds w v e in
          let b' = branch_of v.ledgers after in
          let grown : Grown (branch s) b' = let h = g.branch n after in record { concepts = h.concepts; roles = h.roles; pairs = h.pairs } in
          let places = and_parts (free l.pending) (free l.concepts) room in
          let pending : reverse v.ledgers.pending.rows ≡ noted (branch s) side ∷ stack s =
          ap (λ ps. reverse ps.rows) g.pending ∙ ap reverse (push-rows (noted (branch s) side) l.pending places.0) ∙ reverse-push l.pending.rows (noted (branch s) side) in
          subst (SomeSatisfiable b') (sym pending)
          (split-satisfiable (branch s) b' (noted (branch s) side) (stack s) grown (within-noted (branch s) side) (cut-noted (branch s) side) within
          (λ f. let at = f.0 in let h = f.1 in
          let next = (goes_on at h).next in
          let t = next-rows at h in
          ⊎_elim
          (λ adds. inl (
            next,
            record {
              assigns = next-assigns at h after more;
              rows = write_missing_true I next m after after r.adds w v e adds (record { concepts = t.concepts; roles = t.roles; pairs = t.pairs });
            },
          ))
          (λ q. let true-side : ConceptTrue I next side = subst (SideTrue I next) o q in
          inr (next, side_satisfied side next (next-assigns at h n (omega arith)) t true-side))
          (goes_on at h).either) a)

    extend_invariant : (r : Rule) → ((at : ℕ → List ℕ) → Satisfied (branch s) at → Continues I n at r) → (p : Played) → extend m s r ≡ Ok p → Invariant p.state
    extend_invariant r goes_on p e =
        let after = individuals_after r.fresh n in
        let w : Written = record { ledgers = note r.split n l; rows = 0 } in
        let write-all = write_missing m after r.adds w in
        let q = cond_Ok (leb after 1024 && noteable r.split l) (and_then write-all (λ w. Ok (accepted s.numbers after false w))) Full p e in
        let u = and_then_Ok write-all (λ w. Ok (accepted s.numbers after false w)) p q.1 in
        let v = u.0 in
        let places = and_parts (leb after 1024) (noteable r.split l) q.0 in
        subst (λ (x : Played). Invariant x.state) (Ok_injective u.2)
        (record { satisfiable = extend-satisfiable r after (individuals-more r.fresh n) goes_on r.split refl places.1 v u.1; not_closed = refl })

    -- a branch that is not satisfiable ends, and the last pending row is taken up: there must be one
    close_invariant : (Satisfiable (branch s) → ⊥) → (o : Option PendingRow) → last_of l.pending.rows ≡ o → (p : Played) → close m s o ≡ Ok p → Invariant p.state
    close_invariant none None o p e = absurd (nothing_left (subst (λ ps. SomeSatisfiable (branch s) (reverse ps)) (last_of_None l.pending.rows o) a))
      where
        nothing_left : SomeSatisfiable (branch s) [] → ⊥
        nothing_left (here h) = none h
    close_invariant none (Some row) o p e =
        let w : Written = record { ledgers = cut_to row l; rows = 0 } in
        let side = Is row.side.concept row.side.individual ∷ [] in
        let u = and_then_Ok (write_missing m row.individuals side w) (λ w. Ok (accepted s.numbers row.individuals false w)) p e in
        let v = u.0 in
        let rest = take (length l.pending.rows - 1) l.pending.rows in
        let order : stack s ≡ row ∷ reverse rest = ap reverse (last_of_Some l.pending.rows row o) ∙ reverse-push rest row in
        let b : branch_of v.ledgers row.individuals ≡ reopened m row (branch s) = write_missing-side m row.individuals row.side w v u.1 in
        let g = write_missing-grown m row.individuals side w v u.1 in
        subst (λ (x : Played). Invariant x.state) (Ok_injective u.2)
        (record {
          satisfiable = subst (λ c. SomeSatisfiable c (reverse v.ledgers.pending.rows)) (sym b)
              (subst (λ ps. SomeSatisfiable (reopened m row (branch s)) (reverse ps.rows)) (sym g.pending)
              (taken_up (reverse rest) (subst (SomeSatisfiable (branch s)) order a)));
          not_closed = refl;
        })
      where
        taken_up : (ps : List PendingRow) → SomeSatisfiable (branch s) (row ∷ ps) → SomeSatisfiable (reopened m row (branch s)) ps
        taken_up ps (here h) = absurd (none h)
        taken_up ps (later h) = h

    module _ (range : InRange m) (lawful : Lawful I m.entries) (satisfies : Satisfies I m) where
      -- a line of the table whose needs are held
      perform_invariant : (t : Step) (r : Rule) → rule m n t ≡ Ok r → (p : Played) → perform m s r ≡ Ok p → Invariant p.state
      perform_invariant t r is-rule p e =
          let ends = close m s (last_of l.pending.rows) in
          let q = cond_Ok (list_all (held m (branch s)) r.needs) (cond (ltb s.numbers.steps 1000000) (cond r.closes ends (extend m s r)) (Err Full)) Premise p e in
          let u = cond_Ok (ltb s.numbers.steps 1000000) (cond r.closes ends (extend m s r)) Full p q.1 in
          by-closing r.closes (λ at f. follows q.0 at f) u.1
        where
          follows : list_all (held m (branch s)) r.needs ≡ true → (at : ℕ → List ℕ) → Satisfied (branch s) at → Follows I n at r.closes r
          follows needs at f =
              table_sound I m range lawful satisfies n at f.assigns t r is-rule
              (needs_true I at m (branch s) f.rows (λ x. lawful.top (at x) (f.assigns.elements x)) r.needs needs)

          by-closing : (c : Bool) → ((at : ℕ → List ℕ) → Satisfied (branch s) at → Follows I n at c r) → cond c (close m s (last_of l.pending.rows)) (extend m s r) ≡ Ok p → Invariant p.state
          by-closing true f e = close_invariant (λ h. f h.0 h.1) (last_of l.pending.rows) refl p e
          by-closing false f e = extend_invariant r f p e

  module _ (range : InRange m) (lawful : Lawful I m.entries) (satisfies : Satisfies I m) where
    -- an accepted step keeps the invariant, and a refused one changes nothing
    pub play_invariant : (s : State) (scratch : ℕ) (t : Step) → Invariant s → Invariant (left s (play m scratch t s))
    play_invariant s scratch t k = by_answer (play m scratch t s) refl
      where
        accepted_invariant : (p : Played) → play m scratch t s ≡ Ok p → Invariant p.state
        accepted_invariant p e =
            let u = and_then_Ok (ready m scratch s) (λ _. and_then (rule m s.numbers.individuals t) (perform m s)) p e in
            let good = cond_Ok (fits m s) (cond (leb 1024 scratch) (cond s.numbers.closed (Err Closed) (Ok tt)) (Err Full)) Changed u.0 u.1 in
            let v = and_then_Ok (rule m s.numbers.individuals t) (perform m s) p u.2 in
            perform_invariant s good.0 k.satisfiable range lawful satisfies t v.0 v.1 p v.2

        by_answer : (r : Result Played StepFault) → play m scratch t s ≡ r → Invariant (left s r)
        by_answer (Ok p) e = accepted_invariant p e
        by_answer (Err f) e = k

    -- on an opened sheet, each individual has its own element
    pub opened_invariant : (l : Ledgers) → Invariant (opened m l)
    opened_invariant l =
        record {
          satisfiable = here (
            (λ x. I.individual (record { 0 = x })),
            record {
              assigns = record { elements = λ x. lawful.individuals (record { 0 = x }); named = λ x h. refl; base = omega arith };
              rows = record { concepts = tt; roles = tt; pairs = tt };
            },
          );
          not_closed = refl;
        }

-- what an accepted opening says of the base and the sheet
pub opening_Ok : (m : Meaning) (l : Ledgers) (s : State) → opening m l ≡ Ok s → InRange m × (opened m l ≡ s)
opening_Ok m l s e =
    let sizes = sizes_accepted (counts_of m) && lengths_accepted (sizes_of l) in
    let opens = and_then (checked_rows (counts_of m) m) (λ _. Ok (opened m l)) in
    let q = cond_Ok sizes opens Size s e in
    let p = and_parts (sizes_accepted (counts_of m)) (lengths_accepted (sizes_of l)) q.0 in
    let u = and_then_Ok (checked_rows (counts_of m) m) (λ _. Ok (opened m l)) s q.1 in
    let checked : checked_base m ≡ Ok u.0 = cond-true (sizes_accepted (counts_of m)) (checked_rows (counts_of m) m) (Err Size) p.0 ∙ u.1 in
    (((checked_means m (checked_base m) refl).accepts u.0 checked).2, Ok_injective u.2)

-- a base over which there is a run is in range
pub run_in_range : (m : Meaning) (s : State) → Run m s → InRange m
run_in_range m s (start l e) = (opening_Ok m l s e).0
run_in_range m s (step {s = before} r scratch t) = run_in_range m before r

-- over a base that an interpretation satisfies, the invariant holds of every sheet that is reached
pub run_invariant : (I : Interpretation) (m : Meaning) → Lawful I m.entries → Satisfies I m → (s : State) → Run m s → Invariant I m s
run_invariant I m lawful satisfies s (start l e) =
    let o = opening_Ok m l s e in
    subst (Invariant I m) o.1 (opened_invariant I m o.0 lawful satisfies l)
run_invariant I m lawful satisfies s (step {s = before} r scratch t) =
    play_invariant I m (run_in_range m before r) lawful satisfies before scratch t (run_invariant I m lawful satisfies before r)

-- so no interpretation satisfies the base of a closed sheet
pub closed_is_sound : (m : Meaning) (s : State) → Run m s → s.numbers.closed ≡ true → (I : Interpretation) → Lawful I m.entries → Satisfies I m → ⊥
closed_is_sound m s r c I lawful satisfies = both_ways s.numbers.closed (run_invariant I m lawful satisfies s r).not_closed c
