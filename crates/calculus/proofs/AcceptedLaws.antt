-- When a step is accepted, and what an accepted step leaves.
use Rattle.std.proofs.Common.{◌≡◌, ℕ, ◌+◌, ◌-◌, ◌<◌, ◌≤◌, Bool, true, false, ◌&&◌, leb, ◌⊎◌, List, [], ◌∷◌, ◌++◌, length, take, drop, Some, None, Ok, Err, Option, Result, sym, refl, ap, ◌∙◌, subst, inl, inr, ⊎_elim, arith}
use Rattle.std.proofs.lemmas.List.{append-nil, length-append, length-drop, take-append-drop, take_at}
use Rattle.std.proofs.lemmas.Bool.{and_from, and_parts, both_ways, cases_Bool, cases_lt, cond-false, cond-true, le-leb, leb-true, lt-ltb, ltb-true}
use Rattle.kb.specs.declared.axioms.Assertion.{Assertion}
use Rattle.kb.specs.Meanings.{Meaning}
use Rattle.ledger.specs.Books.{Book, cut, filled, size}
use Rattle.calculus.specs.declared.fault.StepFault.{StepFault}
use Rattle.calculus.specs.declared.fault.StepFault.TheVariants.{Full}
use Rattle.calculus.specs.declared.row_kinds.ConceptRow.{ConceptRow}
use Rattle.calculus.specs.declared.row_kinds.PendingRow.{PendingRow}
use Rattle.calculus.specs.declared.step.Step.{Step}
use Rattle.calculus.specs.Branches.{Branch, held}
use Rattle.calculus.specs.Playing.{Played, Written, accepted, close, cut_to, extend, individuals_after, last_of, note, noteable, play, write_missing}
use Rattle.calculus.specs.States.{Ledgers, State, branch, branch_of, sizes_of}
use Rattle.calculus.specs.HeldLaws.{Extends, HeldStays}
use Rattle.calculus.specs.StepLaws.{Among, Acceptable, AcceptedStep, ClosedBranch, ClosedSheet, Counted, Extended, RoomToExtend, RoomToTakeUp, StepLaw, TakenUp, appended, concept_rows, cut_back, entered, listed, missing, pair_rows, role_rows, side_of, written}
use Rattle.calculus.specs.Table.{Rule, and_then, rule}
use Rattle.calculus.proofs.Accepting.{and_then_Ok}
use Rattle.calculus.proofs.MissingLaws.{missing_absent, missing_among, missing-present}
use Rattle.calculus.proofs.StepLaws.{accepted-carried, accepted-line, play-carried, refused_changes_nothing, refused_in_order}
use Rattle.calculus.proofs.StepOutcomes.{carried}
use Rattle.calculus.proofs.WriteLaws.{Places, Wrote, appended-branch, appended-places, appended-sizes, missing-held, missing-more, push-behind, rows_in, write_missing-room, write_missing-wrote}

zero_plus : (n : ℕ) → 0 + n ≡ n
zero_plus n = omega arith

module _ {A : Type 0} where
  filled-size : (x : A) (rows free : List A) → size (filled x rows free) ≡ length rows + length free
  filled-size x rows [] = refl
  filled-size x rows (y ∷ ys) = omega (arith, length-append rows (x ∷ []))

  cut-size : (n : ℕ) (b : Book A) → size (cut n b) ≡ size b
  cut-size n b =
      omega (arith, length-append (take n b.rows) (drop n b.rows), ap length (take-append-drop n b.rows), length-append (drop n b.rows) b.free)

  -- the last of a list, if it has one
  last_of-push : (xs : List A) (x : A) → last_of (xs ++ x ∷ []) ≡ Some x
  last_of-push [] x = refl
  last_of-push (y ∷ []) x = refl
  last_of-push (y ∷ z ∷ zs) x = last_of-push (z ∷ zs) x

  -- a list is empty or has a last item
  pub none_or_last : (xs : List A) → (xs ≡ []) ⊎ ((ys : List A) × (y : A) × (xs ≡ ys ++ y ∷ []))
  none_or_last [] = inl refl
  none_or_last (x ∷ xs) =
      inr (⊎_elim (λ e. ([], x, ap (λ l. x ∷ l) e)) (λ r. (x ∷ r.0, r.1, ap (λ l. x ∷ l) r.2)) (none_or_last xs))

-- noting a right side leaves the branch and the sizes
note-branch : (side : Option ConceptRow) (n k : ℕ) (l : Ledgers) → branch_of (note side n l) k ≡ branch_of l k
note-branch None n k l = refl
note-branch (Some side) n k l = refl

note-sizes : (side : Option ConceptRow) (n : ℕ) (l : Ledgers) → sizes_of (note side n l) ≡ sizes_of l
note-sizes None n l = refl
note-sizes (Some side) n l =
    let e = filled-size (record { side = side; concepts = length l.concepts.rows; roles = length l.roles.rows; pairs = length l.pairs.rows; individuals = n }) l.pending.rows l.pending.free in
    λ i. record { concepts = size l.concepts; roles = size l.roles; pairs = size l.pairs; pending = e i }

note-places : (side : Option ConceptRow) (n : ℕ) (l : Ledgers) (facts : List Assertion) → Places facts (note side n l) → Places facts l
note-places None n l facts h = h
note-places (Some side) n l facts h = record { concepts = h.concepts; roles = h.roles; pairs = h.pairs }

places-note : (side : Option ConceptRow) (n : ℕ) (l : Ledgers) (facts : List Assertion) → Places facts l → Places facts (note side n l)
places-note None n l facts h = h
places-note (Some side) n l facts h = record { concepts = h.concepts; roles = h.roles; pairs = h.pairs }

-- what is accepted is counted
accepted-counted : (s : State) (n : ℕ) (closed : Bool) (w : Written) → sizes_of w.ledgers ≡ sizes_of s.ledgers → Counted s (accepted s.numbers n closed w)
accepted-counted s n closed w e = record { steps = refl; base = refl; sizes = refl; places = e; rows = refl }

module _ (m : Meaning) (s : State) (q : Rule) where
  abbrev after : ℕ
  after = individuals_after q.fresh s.numbers.individuals

  abbrev noted : Written
  noted = record { ledgers = note q.split s.numbers.individuals s.ledgers; rows = 0 }

  -- a rule that does not close, carried out
  record Extension (p : Played) : Type 0 where
    individuals : after ≤ 1024
    places : noteable q.split s.ledgers ≡ true
    facts : Written
    wrote : Wrote m after (written m s q) noted facts
    result : p ≡ accepted s.numbers after false facts

  noted-missing : missing m (branch_of noted.ledgers after) q.adds ≡ written m s q
  noted-missing = ap (λ b. missing m b q.adds) (note-branch q.split s.numbers.individuals after s.ledgers)

  extend_extension : (p : Played) → extend m s q ≡ Ok p → Extension p
  extend_extension p e =
      ⊎_elim
      (λ h.
      let g = and_parts (leb after 1024) (noteable q.split s.ledgers) h in
      let a = and_then_Ok (write_missing m after q.adds noted) (λ w. Ok (accepted s.numbers after false w)) p (sym (cond-true (leb after 1024 && noteable q.split s.ledgers) _ _ h) ∙ e) in
      let r : accepted s.numbers after false a.0 ≡ p = cc a.2 in
      record {
        individuals = leb-true after 1024 g.0;
        places = g.1;
        facts = a.0;
        wrote = subst (λ new. Wrote m after new noted a.0) noted-missing (write_missing-wrote m after q.adds noted a.0 a.1);
        result = sym r;
      })
      (λ h. let k : ◌≡◌ {A = Result Played StepFault} (Err Full) (Ok p) = sym (cond-false (leb after 1024 && noteable q.split s.ledgers) _ _ h) ∙ e in
      let z : ◌≡◌ {A = ℕ} 0 1 = cc in absurd (omega arith))
      (cases_Bool (leb after 1024 && noteable q.split s.ledgers))

  extension_counted : (p : Played) → Extension p → Counted s p
  extension_counted p x =
      subst (Counted s) (sym x.result)
      (accepted-counted s after false x.facts
      (appended-sizes (written m s q) noted.ledgers x.facts.ledgers x.wrote.appended ∙ note-sizes q.split s.numbers.individuals s.ledgers))

  -- the branch afterwards is the branch before with what is written behind
  extension_branch : (p : Played) → Extension p → branch p.state ≡ appended (written m s q) (entered s q)
  extension_branch p x =
      ap (λ (p : Played). branch p.state) x.result
      ∙ appended-branch (written m s q) noted.ledgers x.facts.ledgers after x.wrote.appended
      ∙ ap (appended (written m s q)) (note-branch q.split s.numbers.individuals after s.ledgers)

  extension_pending : (p : Played) → Extension p → p.state.ledgers.pending ≡ (note q.split s.numbers.individuals s.ledgers).pending
  extension_pending p x = ap (λ (p : Played). p.state.ledgers.pending) x.result ∙ x.wrote.appended.pending

  extension_room : (p : Played) → Extension p → RoomToExtend m s q
  extension_room p x =
      let h = note-places q.split s.numbers.individuals s.ledgers (written m s q) (appended-places (written m s q) noted.ledgers x.facts.ledgers x.wrote.appended) in
      record {
        individuals = x.individuals;
        split = λ side e.
            let g = and_parts _ _ (subst (λ o. noteable o s.ledgers ≡ true) e x.places) in
            (ltb-true 0 (length s.ledgers.pending.free) g.0, ltb-true 0 (length s.ledgers.concepts.free) g.1);
        concepts = h.concepts;
        roles = h.roles;
        pairs = h.pairs;
      }

  split-noteable : RoomToExtend m s q → (side : Option ConceptRow) → q.split ≡ side → noteable side s.ledgers ≡ true
  split-noteable h None e = refl
  split-noteable h (Some side) e =
      let k = h.split side e in
      and_from _ _ (lt-ltb 0 (length s.ledgers.pending.free) k.0) (lt-ltb 0 (length s.ledgers.concepts.free) k.1)

  -- with room a rule that does not close is carried out
  room_extends : RoomToExtend m s q → (p : Played) × (extend m s q ≡ Ok p)
  room_extends h =
      let k = places-note q.split s.numbers.individuals s.ledgers (written m s q) (record { concepts = h.concepts; roles = h.roles; pairs = h.pairs }) in
      let r = write_missing-room m after q.adds noted (subst (λ new. Places new noted.ledgers) (sym noted-missing) k) in
      let g = and_from (leb after 1024) (noteable q.split s.ledgers) (le-leb after 1024 h.individuals) (split-noteable h q.split refl) in (
        accepted s.numbers after false r.0,
        cond-true (leb after 1024 && noteable q.split s.ledgers) _ _ g ∙ ap (λ a. and_then a (λ w. Ok (accepted s.numbers after false w))) r.1,
      )

  extension_extended : HeldStays → (p : Played) → Extension p → Extended m s q p
  extension_extended held_stays p x =
      let b = extension_branch p x in
      record {
        concepts = ap (λ (b : Branch). b.concepts) b;
        roles = ap (λ (b : Branch). b.roles) b;
        pairs = ap (λ (b : Branch). b.pairs) b;
        answered = ap (λ (p : Played). p.rows) x.result ∙ x.wrote.rows ∙ zero_plus (rows_in (written m s q));
        adds = λ a i. missing_among m q.adds (entered s q) a i;
        absent = λ earlier later a e. missing_absent m q.adds (entered s q) earlier later a e;
        present = λ a i l. subst (λ b. held m b a ≡ true) (sym b) (missing-present m held_stays q.adds (entered s q) a i l);
        unsplit = λ e. ap (λ (b : Book PendingRow). b.rows) (extension_pending p x ∙ ap (λ o. (note o s.numbers.individuals s.ledgers).pending) e);
        split = λ side e.
            ap (λ (b : Book PendingRow). b.rows) (extension_pending p x ∙ ap (λ o. (note o s.numbers.individuals s.ledgers).pending) e)
            ∙ (push-behind _ s.ledgers.pending (lt-ltb 0 (length s.ledgers.pending.free) ((extension_room p x).split side e).0)).rows;
        fresh = λ e. ap (λ (p : Played). p.state.numbers.individuals) x.result ∙ cond-true q.fresh _ _ e;
        known = λ e. ap (λ (p : Played). p.state.numbers.individuals) x.result ∙ cond-false q.fresh _ _ e;
        unclosed = ap (λ (p : Played). p.state.numbers.closed) x.result;
      }

module _ (m : Meaning) (s : State) where
  abbrev reopened : PendingRow → Written
  reopened d = record { ledgers = cut_to d s.ledgers; rows = 0 }

  -- a right side taken up
  record TakingUp (d : PendingRow) (p : Played) : Type 0 where
    facts : Written
    wrote : Wrote m d.individuals (missing m (cut_back s d) (side_of d ∷ [])) (reopened d) facts
    result : p ≡ accepted s.numbers d.individuals false facts

  close_takes : (d : PendingRow) (p : Played) → close m s (Some d) ≡ Ok p → TakingUp d p
  close_takes d p e =
      let a = and_then_Ok (write_missing m d.individuals (side_of d ∷ []) (reopened d)) (λ w. Ok (accepted s.numbers d.individuals false w)) p e in
      let r : accepted s.numbers d.individuals false a.0 ≡ p = cc a.2 in
      record { facts = a.0; wrote = write_missing-wrote m d.individuals (side_of d ∷ []) (reopened d) a.0 a.1; result = sym r }

  side-held : (d : PendingRow) → held m (cut_back s d) (side_of d) ≡ true → missing m (cut_back s d) (side_of d ∷ []) ≡ []
  side-held d h = missing-held m (cut_back s d) (side_of d) [] h

  side-missing : (d : PendingRow) → held m (cut_back s d) (side_of d) ≡ false → missing m (cut_back s d) (side_of d ∷ []) ≡ side_of d ∷ []
  side-missing d h = missing-more m (cut_back s d) (side_of d) [] h

  -- a right side is no role row and no pair row
  side-rows : (d : PendingRow) → (role_rows (missing m (cut_back s d) (side_of d ∷ [])) ≡ []) × (pair_rows (missing m (cut_back s d) (side_of d ∷ [])) ≡ [])
  side-rows d =
      ⊎_elim (λ h. (ap role_rows (side-held d h), ap pair_rows (side-held d h))) (λ h. (ap role_rows (side-missing d h), ap pair_rows (side-missing d h))) (cases_Bool (held m (cut_back s d) (side_of d)))

  cut_to-sizes : (d : PendingRow) (l : Ledgers) → sizes_of (cut_to d l) ≡ sizes_of l
  cut_to-sizes d l =
      let c = cut-size d.concepts l.concepts in
      let r = cut-size d.roles l.roles in
      let p = cut-size d.pairs l.pairs in
      let e = cut-size (length l.pending.rows - 1) l.pending in
      λ i. record { concepts = c i; roles = r i; pairs = p i; pending = e i }

  taking_counted : (d : PendingRow) (p : Played) → TakingUp d p → Counted s p
  taking_counted d p x =
      subst (Counted s) (sym x.result)
      (accepted-counted s d.individuals false x.facts
      (appended-sizes (missing m (cut_back s d) (side_of d ∷ [])) (cut_to d s.ledgers) x.facts.ledgers x.wrote.appended ∙ cut_to-sizes d s.ledgers))

  taking_taken : (earlier : List PendingRow) (d : PendingRow) (p : Played) → s.ledgers.pending.rows ≡ earlier ++ d ∷ [] → TakingUp d p → TakenUp m s earlier d p
  taking_taken earlier d p e x =
      let l = s.ledgers in
      let is = ap (λ (p : Played). p.state.ledgers) x.result in
      let a = x.wrote.appended in
      record {
        standing = λ h. (
          ap (λ (l : Ledgers). l.concepts.rows) is ∙ a.concepts.rows ∙ ap (λ new. take d.concepts l.concepts.rows ++ concept_rows new) (side-held d h) ∙ append-nil (take d.concepts l.concepts.rows),
          ap (λ (p : Played). p.rows) x.result ∙ x.wrote.rows ∙ ap (λ new. 0 + rows_in new) (side-held d h),
        );
        missing = λ h. (
          ap (λ (l : Ledgers). l.concepts.rows) is ∙ a.concepts.rows ∙ ap (λ new. take d.concepts l.concepts.rows ++ concept_rows new) (side-missing d h),
          ap (λ (p : Played). p.rows) x.result ∙ x.wrote.rows ∙ ap (λ new. 0 + rows_in new) (side-missing d h),
        );
        roles = ap (λ (l : Ledgers). l.roles.rows) is ∙ a.roles.rows ∙ ap (λ new. take d.roles l.roles.rows ++ new) (side-rows d).0 ∙ append-nil (take d.roles l.roles.rows);
        pairs = ap (λ (l : Ledgers). l.pairs.rows) is ∙ a.pairs.rows ∙ ap (λ new. take d.pairs l.pairs.rows ++ new) (side-rows d).1 ∙ append-nil (take d.pairs l.pairs.rows);
        pending =
            ap (λ (l : Ledgers). l.pending.rows) is ∙ ap (λ (b : Book PendingRow). b.rows) a.pending ∙ ap (λ rows. take (length rows - 1) rows) e
            ∙ take_at earlier (d ∷ []) (length (earlier ++ d ∷ []) - 1) (omega (arith, length-append earlier (d ∷ [])));
        individuals = ap (λ (p : Played). p.state.numbers.individuals) x.result;
        unclosed = ap (λ (p : Played). p.state.numbers.closed) x.result;
      }

  -- the first of the free places of a ledger that is cut
  cut-free : {A : Type 0} (n : ℕ) (b : Book A) → 0 < length (cut n b).free → (n < length b.rows) ⊎ (0 < length b.free)
  cut-free n b h =
      let e : length (drop n b.rows ++ b.free) ≡ (length b.rows - n) + length b.free = length-append (drop n b.rows) b.free ∙ ap (λ k. k + length b.free) (length-drop n b.rows) in
      ⊎_elim inl (λ l. inr (omega arith)) (cases_lt n (length b.rows))

  free-cut : {A : Type 0} (n : ℕ) (b : Book A) → (n < length b.rows) ⊎ (0 < length b.free) → 0 < length (cut n b).free
  free-cut n b h =
      let e : length (drop n b.rows ++ b.free) ≡ (length b.rows - n) + length b.free = length-append (drop n b.rows) b.free ∙ ap (λ k. k + length b.free) (length-drop n b.rows) in
      ⊎_elim (λ l. omega arith) (λ l. omega arith) h

  taking_room : (d : PendingRow) (p : Played) → TakingUp d p → (held m (cut_back s d) (side_of d) ≡ true) ⊎ ((d.concepts < length s.ledgers.concepts.rows) ⊎ (0 < length s.ledgers.concepts.free))
  taking_room d p x =
      ⊎_elim inl
      (λ h.
      let k = subst (λ new. Places new (cut_to d s.ledgers)) (side-missing d h) (appended-places (missing m (cut_back s d) (side_of d ∷ [])) (cut_to d s.ledgers) x.facts.ledgers x.wrote.appended) in
      let l = k.concepts in
      inr (cut-free d.concepts s.ledgers.concepts (omega arith)))
      (cases_Bool (held m (cut_back s d) (side_of d)))

  side-places : (d : PendingRow) → (held m (cut_back s d) (side_of d) ≡ true) ⊎ ((d.concepts < length s.ledgers.concepts.rows) ⊎ (0 < length s.ledgers.concepts.free)) → Places (missing m (cut_back s d) (side_of d ∷ [])) (cut_to d s.ledgers)
  side-places d k =
      ⊎_elim
      (λ h. subst (λ new. Places new (cut_to d s.ledgers)) (sym (side-held d h)) (record { concepts = omega arith; roles = omega arith; pairs = omega arith }))
      (λ h. subst (λ new. Places new (cut_to d s.ledgers)) (sym (side-missing d h)) (record { concepts = ⊎_elim (λ t. absurd (both_ways (held m (cut_back s d) (side_of d)) h t)) (λ f. free-cut d.concepts s.ledgers.concepts f) k; roles = omega arith; pairs = omega arith }))
      (cases_Bool (held m (cut_back s d) (side_of d)))

  -- with room a branch is closed
  room-closes : RoomToTakeUp m s → (p : Played) × (close m s (last_of s.ledgers.pending.rows) ≡ Ok p)
  room-closes h =
      ⊎_elim
      (λ e. (accepted s.numbers s.numbers.individuals true (record { ledgers = s.ledgers; rows = 0 }), ap (λ rows. close m s (last_of rows)) e))
      (λ r.
      let d = r.1 in
      let w = write_missing-room m d.individuals (side_of d ∷ []) (reopened d) (side-places d (h r.0 d r.2)) in (
        accepted s.numbers d.individuals false w.0,
        ap (λ rows. close m s (last_of rows)) r.2 ∙ ap (close m s) (last_of-push r.0 d) ∙ ap (λ a. and_then a (λ w. Ok (accepted s.numbers d.individuals false w))) w.1,
      ))
      (none_or_last s.ledgers.pending.rows)

  -- what a branch that is closed comes to
  close-none : (p : Played) → s.ledgers.pending.rows ≡ [] → close m s (last_of s.ledgers.pending.rows) ≡ Ok p → p ≡ accepted s.numbers s.numbers.individuals true (record { ledgers = s.ledgers; rows = 0 })
  close-none p e k =
      let h : ◌≡◌ {A = Result Played StepFault} (Ok (accepted s.numbers s.numbers.individuals true (record { ledgers = s.ledgers; rows = 0 }))) (Ok p) = sym (ap (λ rows. close m s (last_of rows)) e) ∙ k in
      cc

  close_last : (earlier : List PendingRow) (d : PendingRow) (p : Played) → s.ledgers.pending.rows ≡ earlier ++ d ∷ [] → close m s (last_of s.ledgers.pending.rows) ≡ Ok p → TakingUp d p
  close_last earlier d p e k = close_takes d p (sym (ap (λ rows. close m s (last_of rows)) e ∙ ap (close m s) (last_of-push earlier d)) ∙ k)

  close-sheet : (p : Played) → p ≡ accepted s.numbers s.numbers.individuals true (record { ledgers = s.ledgers; rows = 0 }) → ClosedSheet s p
  close-sheet p e =
      record {
        closed = ap (λ (p : Played). p.state.numbers.closed) e;
        ledgers = ap (λ (p : Played). p.state.ledgers) e;
        individuals = ap (λ (p : Played). p.state.numbers.individuals) e;
        answered = ap (λ (p : Played). p.rows) e;
      }

  close-counted : (p : Played) → close m s (last_of s.ledgers.pending.rows) ≡ Ok p → Counted s p
  close-counted p k =
      ⊎_elim
      (λ e. subst (Counted s) (sym (close-none p e k)) (accepted-counted s s.numbers.individuals true (record { ledgers = s.ledgers; rows = 0 }) refl))
      (λ r. taking_counted r.1 p (close_last r.0 r.1 p r.2 k))
      (none_or_last s.ledgers.pending.rows)

module _ (m : Meaning) (scratch : ℕ) (t : Step) (s : State) where
  -- an accepted step by a rule that does not close, and by one that does
  accepted_extends : (p : Played) (q : Rule) → carried m scratch t s q ≡ Ok p → q.closes ≡ false → Extension m s q p
  accepted_extends p q e h = extend_extension m s q p (sym (cond-false q.closes _ _ h) ∙ e)

  accepted-closes : (p : Played) (q : Rule) → carried m scratch t s q ≡ Ok p → q.closes ≡ true → close m s (last_of s.ledgers.pending.rows) ≡ Ok p
  accepted-closes p q e h = sym (cond-true q.closes _ _ h) ∙ e

  -- what is written is appended
  pub written-appended : (p : Played) (q : Rule) → play m scratch t s ≡ Ok p → rule m s.numbers.individuals t ≡ Ok q → q.closes ≡ false → branch p.state ≡ appended (written m s q) (entered s q)
  written-appended p q e r h = extension_branch m s q p (accepted_extends p q (accepted-line m scratch t s p q e r) h)

  pub step_extends : (p : Played) (q : Rule) → play m scratch t s ≡ Ok p → rule m s.numbers.individuals t ≡ Ok q → q.closes ≡ false → Extends (branch s) (branch p.state)
  step_extends p q e r h =
      let b = written-appended p q e r h in
      record {
        more_concepts = concept_rows (written m s q);
        more_roles = role_rows (written m s q);
        more_pairs = pair_rows (written m s q);
        concepts = ap (λ (b : Branch). b.concepts) b;
        roles = ap (λ (b : Branch). b.roles) b;
        pairs = ap (λ (b : Branch). b.pairs) b;
      }

  pub accepted_acceptable : (p : Played) → play m scratch t s ≡ Ok p → (q : Rule) × Acceptable m scratch t s q
  accepted_acceptable p e =
      let c = accepted-carried m scratch t s p e in (
        c.line,
        record {
          ready = c.ready;
          table = c.table;
          needs = c.needs;
          steps = c.steps;
          extending = λ h. extension_room m s c.line p (accepted_extends p c.line c.result h);
          closing = λ h earlier d k. taking_room m s d p (close_last m s earlier d p k (accepted-closes p c.line c.result h));
        },
      )

  pub acceptable_accepted : (q : Rule) → Acceptable m scratch t s q → (p : Played) × (play m scratch t s ≡ Ok p)
  acceptable_accepted q a =
      let e = play-carried m scratch t s a.ready q a.table a.needs a.steps in
      ⊎_elim
      (λ h. let r = room-closes m s (a.closing h) in (r.0, e ∙ cond-true q.closes _ _ h ∙ r.1))
      (λ h. let r = room_extends m s q (a.extending h) in (r.0, e ∙ cond-false q.closes _ _ h ∙ r.1))
      (cases_Bool q.closes)

  pub steps-counted : (p : Played) → play m scratch t s ≡ Ok p → Counted s p
  steps-counted p e =
      let c = accepted-carried m scratch t s p e in
      ⊎_elim
      (λ h. close-counted m s p (accepted-closes p c.line c.result h))
      (λ h. extension_counted m s c.line p (accepted_extends p c.line c.result h))
      (cases_Bool c.line.closes)

  pub closed_branch : ClosedBranch m scratch t s
  closed_branch =
      record {
        sheet = λ p q e r h k. close-sheet m s p (close-none m s p k (accepted-closes p q (accepted-line m scratch t s p q e r) h));
        taken = λ p q e r h earlier d k. taking_taken m s earlier d p k (close_last m s earlier d p k (accepted-closes p q (accepted-line m scratch t s p q e r) h));
      }

  module _ (held_stays : HeldStays) where
    pub accepted-step : AcceptedStep m scratch t s
    accepted-step =
        record {
          exactly = (λ r. accepted_acceptable r.0 r.1, λ r. acceptable_accepted r.0 r.1);
          counted = steps-counted;
          extended = λ p q e r h. extension_extended m s q held_stays p (accepted_extends p q (accepted-line m scratch t s p q e r) h);
        }

    -- an add is held afterwards
    pub adds-held : (p : Played) (q : Rule) → play m scratch t s ≡ Ok p → rule m s.numbers.individuals t ≡ Ok q → q.closes ≡ false → (a : Assertion) → Among a q.adds → listed a ≡ true → held m (branch p.state) a ≡ true
    adds-held p q e r h = (accepted-step.extended p q e r h).present

    pub step-law : StepLaw m scratch t s
    step-law =
        record {
          refused = refused_in_order m scratch t s;
          nothing = λ f e. refused_changes_nothing s (play m scratch t s) f e;
          accepted = accepted-step;
          closed = closed_branch;
        }
