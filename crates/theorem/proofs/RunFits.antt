-- On every sheet that is reached, base and ledgers are the sheet's: no step or review of a run is refused with 5.
use Rattle.std.proofs.Common.{◌≡◌, ℕ, ◌<◌, ◌≤◌, Bool, true, ◌⊎◌, List, [], ◌∷◌, ◌++◌, reverse, length, take, Some, None, Ok, Err, Option, Result, sym, refl, ap, ◌∙◌, subst, inl, inr, ⊎_elim, arith, length-append}
use Rattle.std.specs.List.{AllByRecursion, list_all}
use Rattle.std.proofs.ByRecursion.{All-weaker}
use Rattle.std.proofs.lemmas.List.{length-take-le, reverse-reverse}
use Rattle.std.proofs.lemmas.Bool.{and_from, cases_Bool, eq-eqb, le-leb, lt-ltb}
use Rattle.rows.specs.Rows.{row_at}
use Rattle.kb.specs.declared.counts.Counts.{Counts}
use Rattle.kb.specs.Meanings.{Meaning, counts_of}
use Rattle.kb.specs.Names.{entry_number}
use Rattle.ledger.specs.Books.{Book, cut, size}
use Rattle.calculus.specs.declared.fault.StepFault.{StepFault}
use Rattle.calculus.specs.declared.lengths.Lengths.{Lengths}
use Rattle.calculus.specs.declared.row_kinds.ConceptRow.{ConceptRow}
use Rattle.calculus.specs.declared.row_kinds.PairRow.{PairRow}
use Rattle.calculus.specs.declared.row_kinds.PairRow.TheVariants.{Same as SameRow, Different as DifferentRow}
use Rattle.calculus.specs.declared.row_kinds.PendingRow.{PendingRow}
use Rattle.calculus.specs.declared.step.Step.{Step}
use Rattle.calculus.specs.Branches.{held}
use Rattle.calculus.specs.Playing.{Played, left, opened, play}
use Rattle.calculus.specs.Runs.{Run, start, step}
use Rattle.calculus.specs.States.{Ledgers, State, branch, fits, pair_row_fits, pending_row_fits, row_counts, rows_fit, same_counts, same_lengths, sizes_of}
use Rattle.calculus.specs.StepLaws.{ClosedSheet, Extended, StepLaw, TakenUp, cut_back, side_of}
use Rattle.calculus.specs.Table.{Rule, rule}
use Rattle.calculus.proofs.AcceptedLaws.{step-law}
use Rattle.calculus.proofs.HeldLaws.{held_stays}
use Rattle.calculus.proofs.StepOutcomes.{every-from}
use Rattle.theorem.proofs.Growing.{all_reverse, reverse-push}
use Rattle.theorem.proofs.PlacedTable.{Line, adds-held, adds-new, adds-rows, closes, splits, table-placed}
use Rattle.theorem.proofs.RunPlaced.{run_placed}
use Rattle.theorem.proofs.RunSound.{opening_Ok, run_in_range}
use Rattle.theorem.specs.Placed.{Placed}

-- a list is empty or has a last item
snoc_view : {A : Type 0} (xs : List A) → (xs ≡ []) ⊎ ((front : List A) × (last : A) × (xs ≡ front ++ last ∷ []))
snoc_view [] = inl refl
snoc_view (x ∷ xs) =
    inr (⊎_elim (λ e. ([], x, ap (λ ys. x ∷ ys) e)) (λ v. (x ∷ v.0, v.1, ap (λ ys. x ∷ ys) v.2)) (snoc_view xs))

all_every : {A : Type 0} (P : A → Type 0) (test : A → Bool) → ((x : A) → P x → test x ≡ true) → (xs : List A) → AllByRecursion P xs → list_all test xs ≡ true
all_every P test passes [] a = refl
all_every P test passes (x ∷ xs) a = and_from (test x) (list_all test xs) (passes x a.0) (all_every P test passes xs a.1)

same_lengths_lem : (a b : Lengths) → a ≡ b → same_lengths a b ≡ true
same_lengths_lem a b e =
    and_from _ _ (eq-eqb a.concepts b.concepts (ap (λ (n : Lengths). n.concepts) e))
    (and_from _ _ (eq-eqb a.roles b.roles (ap (λ (n : Lengths). n.roles) e))
    (and_from _ _ (eq-eqb a.pairs b.pairs (ap (λ (n : Lengths). n.pairs) e))
    (eq-eqb a.pending b.pending (ap (λ (n : Lengths). n.pending) e))))

same_counts_lem : (a b : Counts) → a ≡ b → same_counts a b ≡ true
same_counts_lem a b e =
    and_from _ _ (eq-eqb a.entries b.entries (ap (λ (n : Counts). n.entries) e))
    (and_from _ _ (eq-eqb a.roles b.roles (ap (λ (n : Counts). n.roles) e))
    (and_from _ _ (eq-eqb a.individuals b.individuals (ap (λ (n : Counts). n.individuals) e))
    (and_from _ _ (eq-eqb a.assertions b.assertions (ap (λ (n : Counts). n.assertions) e))
    (and_from _ _ (eq-eqb a.inclusions b.inclusions (ap (λ (n : Counts). n.inclusions) e))
    (eq-eqb a.keys b.keys (ap (λ (n : Counts). n.keys) e))))))

appended_le : {A : Type 0} (xs zs ys : List A) → ys ≡ xs ++ zs → length xs ≤ length ys
appended_le xs zs ys e = omega (arith, ap length e, length-append xs zs)

size-emptied : {A : Type 0} (b : Book A) → size (cut 0 b) ≡ size b
size-emptied b = omega (arith, length-append b.rows b.free)

module _ (m : Meaning) where
  -- A pending row notes no more than so many concept rows, role rows, pair rows and individuals, and names what there is.
  record Noted (c r p n : ℕ) (d : PendingRow) : Type 0 where
    concept : entry_number d.side.concept < length m.entries
    side : d.side.individual.0 < d.individuals
    base : m.individuals ≤ d.individuals
    individuals : d.individuals ≤ n
    concepts : d.concepts ≤ c
    roles : d.roles ≤ r
    pairs : d.pairs ≤ p

  -- Pending rows, the last first: each notes no more than there is, and the one before it no more than it.
  Notes : ℕ → ℕ → ℕ → ℕ → List PendingRow → Type 0
  Notes c r p n [] = Unit {0}
  Notes c r p n (d ∷ ds) = Noted c r p n d × Notes d.concepts d.roles d.pairs d.individuals ds

  noted_more : (c r p n c' r' p' n' : ℕ) → c ≤ c' → r ≤ r' → p ≤ p' → n ≤ n' → (d : PendingRow) → Noted c r p n d → Noted c' r' p' n' d
  noted_more c r p n c' r' p' n' hc hr hp hn d k =
      record {
        concept = k.concept;
        side = k.side;
        base = k.base;
        individuals = omega (arith, k.individuals);
        concepts = omega (arith, k.concepts);
        roles = omega (arith, k.roles);
        pairs = omega (arith, k.pairs);
      }

  notes-more : (c r p n c' r' p' n' : ℕ) → c ≤ c' → r ≤ r' → p ≤ p' → n ≤ n' → (ds : List PendingRow) → Notes c r p n ds → Notes c' r' p' n' ds
  unfolding Notes
  notes-more c r p n c' r' p' n' hc hr hp hn [] k = tt
  notes-more c r p n c' r' p' n' hc hr hp hn (d ∷ ds) k = (noted_more c r p n c' r' p' n' hc hr hp hn d k.0, k.1)

  notes_all : (c r p n : ℕ) (ds : List PendingRow) → Notes c r p n ds → AllByRecursion (Noted c r p n) ds
  unfolding Notes
  notes_all c r p n [] k = tt
  notes_all c r p n (d ∷ ds) k =
      let h = k.0 in (
        h,
        All-weaker (Noted d.concepts d.roles d.pairs d.individuals) (Noted c r p n)
            (noted_more d.concepts d.roles d.pairs d.individuals c r p n h.concepts h.roles h.pairs h.individuals) ds
            (notes_all d.concepts d.roles d.pairs d.individuals ds k.1),
      )

  -- What is pending on a sheet is noted so.
  PendingNoted : State → Type 0
  PendingNoted s =
      Notes (length s.ledgers.concepts.rows) (length s.ledgers.roles.rows) (length s.ledgers.pairs.rows) s.numbers.individuals
      (reverse s.ledgers.pending.rows)

  record Kept (s : State) : Type 0 where
    base : counts_of m ≡ s.numbers.base
    sizes : sizes_of s.ledgers ≡ s.numbers.sizes
    rows : row_counts s.ledgers ≡ s.numbers.rows
    notes : PendingNoted s

  noted-fits : (s : State) (d : PendingRow) → Noted (length s.ledgers.concepts.rows) (length s.ledgers.roles.rows) (length s.ledgers.pairs.rows) s.numbers.individuals d → pending_row_fits (counts_of m) s.numbers.individuals (row_counts s.ledgers) d ≡ true
  noted-fits s d k =
      and_from _ _ (lt-ltb (entry_number d.side.concept) (length m.entries) k.concept)
      (and_from _ _ (lt-ltb d.side.individual.0 d.individuals k.side)
      (and_from _ _ (le-leb m.individuals d.individuals k.base)
      (and_from _ _ (le-leb d.individuals s.numbers.individuals k.individuals)
      (and_from _ _ (le-leb d.concepts (length s.ledgers.concepts.rows) k.concepts)
      (and_from _ _ (le-leb d.roles (length s.ledgers.roles.rows) k.roles)
      (le-leb d.pairs (length s.ledgers.pairs.rows) k.pairs))))))

  pending-fits : (s : State) → PendingNoted s → list_all (pending_row_fits (counts_of m) s.numbers.individuals (row_counts s.ledgers)) s.ledgers.pending.rows ≡ true
  unfolding PendingNoted
  pending-fits s k =
      let c = length s.ledgers.concepts.rows in
      let r = length s.ledgers.roles.rows in
      let p = length s.ledgers.pairs.rows in
      let n = s.numbers.individuals in
      let P : PendingRow → Type 0 = Noted c r p n in
      let all = all_reverse P (reverse s.ledgers.pending.rows) (notes_all c r p n (reverse s.ledgers.pending.rows) k) in
      all_every P _ (noted-fits s) s.ledgers.pending.rows (subst (AllByRecursion P) (reverse-reverse s.ledgers.pending.rows) all)

  rows-placed : (s : State) → Placed m (branch s) → PendingNoted s → rows_fit (counts_of m) s.numbers.individuals s.ledgers ≡ true
  rows-placed s placed k =
      and_from _ _ (every-from _ s.ledgers.concepts.rows (λ w i. let h = placed.concept_rows i.0 w i.1 in
      and_from _ _ (lt-ltb (entry_number w.concept) (length m.entries) h.0) (lt-ltb w.individual.0 s.numbers.individuals h.1)))
      (and_from _ _ (every-from _ s.ledgers.roles.rows (λ w i. let h = placed.role_rows i.0 w i.1 in
      and_from _ _ (lt-ltb w.role.0 m.roles h.0) (and_from _ _ (lt-ltb w.from.0 s.numbers.individuals h.1) (lt-ltb w.to.0 s.numbers.individuals h.2))))
      (and_from _ _ (every-from _ s.ledgers.pairs.rows (λ w i. pair_fits w i.0 i.1)) (pending-fits s k)))
    where
      pair_fits : (w : PairRow) (n : ℕ) → row_at s.ledgers.pairs.rows n ≡ Ok w → pair_row_fits (counts_of m) s.numbers.individuals w ≡ true
      pair_fits (SameRow x y) n e = let h = placed.pair_rows n (SameRow x y) e in and_from _ _ (lt-ltb x.0 s.numbers.individuals h.0) (lt-ltb y.0 s.numbers.individuals h.1)
      pair_fits (DifferentRow x y) n e = let h = placed.pair_rows n (DifferentRow x y) e in and_from _ _ (lt-ltb x.0 s.numbers.individuals h.0) (lt-ltb y.0 s.numbers.individuals h.1)

  kept-fits : (s : State) → Placed m (branch s) → Kept s → fits m s ≡ true
  kept-fits s placed k =
      and_from _ _ (same_counts_lem (counts_of m) s.numbers.base k.base)
      (and_from _ _ (same_lengths_lem (sizes_of s.ledgers) s.numbers.sizes k.sizes)
      (and_from _ _ (same_lengths_lem (row_counts s.ledgers) s.numbers.rows k.rows)
      (subst (λ (b : Counts). rows_fit b s.numbers.individuals s.ledgers ≡ true) k.base (rows-placed s placed k.notes))))

  kept-opened : (l : Ledgers) → Kept (opened m l)
  unfolding PendingNoted Notes
  kept-opened l =
      record {
        base = refl;
        sizes = λ i. record {
          concepts = size-emptied l.concepts i;
          roles = size-emptied l.roles i;
          pairs = size-emptied l.pairs i;
          pending = size-emptied l.pending i;
        };
        rows = refl;
        notes = tt;
      }

  -- the right side of a split is of the base and of the sheet
  split-noted : (s : State) (q : Rule) (side : ConceptRow) → Line m (branch s) q → q.split ≡ Some side → (entry_number side.concept < length m.entries) × (side.individual.0 < s.numbers.individuals)
  split-noted s q side (adds-rows needs adds h) e = let z : ◌≡◌ {A = ℕ} 0 1 = cc in absurd (omega arith)
  split-noted s q side (adds-held needs adds h) e = let z : ◌≡◌ {A = ℕ} 0 1 = cc in absurd (omega arith)
  split-noted s q side (adds-new needs r x d h i k) e = let z : ◌≡◌ {A = ℕ} 0 1 = cc in absurd (omega arith)
  split-noted s q side (splits needs left right x h i k) e =
      let p : record { concept = right; individual = x } ≡ side = cc in
      subst (λ (w : ConceptRow). (entry_number w.concept < length m.entries) × (w.individual.0 < s.numbers.individuals)) p (i, k)
  split-noted s q side (closes needs) e = let z : ◌≡◌ {A = ℕ} 0 1 = cc in absurd (omega arith)

  module _ (s : State) (run : Run m s) (kept : Kept s) (scratch : ℕ) (t : Step) (p : Played) (e : play m scratch t s ≡ Ok p) where
    law : StepLaw m scratch t s
    law = step-law m scratch t s held_stays

    line : (q : Rule) × (rule m s.numbers.individuals t ≡ Ok q) × (list_all (held m (branch s)) q.needs ≡ true)
    unfolding law
    line = let a = law.accepted.exactly.0 (p, e) in (a.0, a.1.table, every-from _ a.0.needs a.1.needs)

    individuals_grow : (q : Rule) → Extended m s q p → s.numbers.individuals ≤ p.state.numbers.individuals
    individuals_grow q x = ⊎_elim (λ f. omega (arith, x.fresh f)) (λ f. omega (arith, x.known f)) (cases_Bool q.fresh)

    -- rows are appended: what was noted is no more than there is now
    grown-notes : (q : Rule) → Extended m s q p → Notes (length p.state.ledgers.concepts.rows) (length p.state.ledgers.roles.rows) (length p.state.ledgers.pairs.rows) p.state.numbers.individuals (reverse s.ledgers.pending.rows)
    unfolding PendingNoted
    grown-notes q x =
        notes-more _ _ _ _ _ _ _ _
        (appended_le _ _ _ x.concepts) (appended_le _ _ _ x.roles) (appended_le _ _ _ x.pairs) (individuals_grow q x)
        (reverse s.ledgers.pending.rows) kept.notes

    extended-notes : (q : Rule) → Line m (branch s) q → Extended m s q p → PendingNoted p.state
    unfolding PendingNoted Notes
    extended-notes q l x = by-split q.split refl
      where
        by-split : (side : Option ConceptRow) → q.split ≡ side → PendingNoted p.state
        by-split None f = rw (x.unsplit f) (grown-notes q x)
        by-split (Some side) f =
            let known = split-noted s q side l f in
            rw (x.split side f, reverse-push) (
              record {
                concept = known.0;
                side = known.1;
                base = (run_placed m s run).base_first;
                individuals = individuals_grow q x;
                concepts = appended_le _ _ _ x.concepts;
                roles = appended_le _ _ _ x.roles;
                pairs = appended_le _ _ _ x.pairs;
              },
              kept.notes,
            )

    closed-notes : ClosedSheet s p → PendingNoted p.state
    unfolding PendingNoted
    closed-notes c = rw (c.ledgers, c.individuals) kept.notes

    taken_notes : (earlier : List PendingRow) (d : PendingRow) → s.ledgers.pending.rows ≡ earlier ++ d ∷ [] → TakenUp m s earlier d p → PendingNoted p.state
    unfolding PendingNoted Notes
    taken_notes earlier d f x =
        let before = subst (Notes (length s.ledgers.concepts.rows) (length s.ledgers.roles.rows) (length s.ledgers.pairs.rows) s.numbers.individuals) (ap reverse f ∙ reverse-push earlier d) kept.notes in
        let k = before.0 in
        rw x.pending
        (notes-more _ _ _ _ _ _ _ _
        (taken_concepts earlier d k x)
        (omega (arith, ap length x.roles, length-take-le d.roles s.ledgers.roles.rows k.roles))
        (omega (arith, ap length x.pairs, length-take-le d.pairs s.ledgers.pairs.rows k.pairs))
        (omega (arith, x.individuals)) (reverse earlier) before.1)
      where
        taken_concepts : (earlier : List PendingRow) (d : PendingRow) → Noted (length s.ledgers.concepts.rows) (length s.ledgers.roles.rows) (length s.ledgers.pairs.rows) s.numbers.individuals d → TakenUp m s earlier d p → d.concepts ≤ length p.state.ledgers.concepts.rows
        taken_concepts earlier d k x =
            let l = length-take-le d.concepts s.ledgers.concepts.rows k.concepts in
            ⊎_elim
            (λ h. omega (arith, ap length (x.standing h).0, l))
            (λ h. omega (arith, appended_le (take d.concepts s.ledgers.concepts.rows) (d.side ∷ []) p.state.ledgers.concepts.rows (x.missing h).0, l))
            (cases_Bool (held m (cut_back s d) (side_of d)))

    played-notes : PendingNoted p.state
    unfolding line law
    played-notes =
        let q = line.0 in
        ⊎_elim
        (λ c. ⊎_elim
        (λ f. closed-notes (law.closed.sheet p q e line.1 c f))
        (λ v. taken_notes v.0 v.1 v.2 (law.closed.taken p q e line.1 c v.0 v.1 v.2))
        (snoc_view s.ledgers.pending.rows))
        (λ c. extended-notes q (table-placed m (run_in_range m s run) (branch s) (run_placed m s run) t q line.1 line.2) (law.accepted.extended p q e line.1 c))
        (cases_Bool q.closes)

    kept-played : Kept p.state
    unfolding law
    kept-played =
        let c = law.accepted.counted p e in
        record {
          base = kept.base ∙ sym c.base;
          sizes = c.places ∙ kept.sizes ∙ sym c.sizes;
          rows = sym c.rows;
          notes = played-notes;
        }

  kept-left : (s : State) → Run m s → Kept s → (scratch : ℕ) (t : Step) (outcome : Result Played StepFault) → play m scratch t s ≡ outcome → Kept (left s outcome)
  kept-left s r k scratch t (Ok p) e = kept-played s r k scratch t p e
  kept-left s r k scratch t (Err f) e = k

  run_kept : (s : State) → Run m s → Kept s
  run_kept s (start l e) = subst Kept (opening_Ok m l s e).1 (kept-opened l)
  run_kept s (step {s = before} r scratch t) = kept-left before r (run_kept before r) scratch t (play m scratch t before) refl

-- base and ledgers are the sheet's, on every sheet that is reached
pub run_fits : (m : Meaning) (s : State) → Run m s → fits m s ≡ true
run_fits m s run = kept-fits m s (run_placed m s run) (run_kept m s run)
