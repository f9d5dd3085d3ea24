-- The order of refusals of a step, and which rule an accepted step carried out.
use Rattle.std.proofs.Common.{◌≡◌, ℕ, zero, suc, ◌<◌, ◌≤◌, Bool, true, false, ltb, leb, ◌⊎◌, List, [], ◌∷◌, Ok, Err, Result, sym, refl, ap, ◌∙◌, subst, inl, inr, arith}
use Rattle.std.proofs.lemmas.Bool.{and_left, and_right, both_ways, cond_both, cond-false, cond-true, le-leb, lt-leb, lt-ltb}
use Rattle.std.specs.List.{list_all}
use Rattle.kb.specs.Meanings.{Meaning}
use Rattle.calculus.specs.declared.fault.StepFault.{StepFault}
use Rattle.calculus.specs.declared.fault.StepFault.TheVariants.{Changed, Closed, Row, Range, Kind, Premise, Full}
use Rattle.calculus.specs.declared.step.Step.{Step}
use Rattle.calculus.specs.Branches.{held}
use Rattle.calculus.specs.Playing.{Played, close, extend, last_of, left, perform, play, ready}
use Rattle.calculus.specs.States.{State, branch, fits}
use Rattle.calculus.specs.StepLaws.{Among, NeedMissing, NeedsHeld, Ready, RefusedInOrder}
use Rattle.calculus.specs.Table.{Rule, and_then, rule}
use Rattle.calculus.proofs.StepFaults.{Faults, close_faults, extend_faults, from_table, is_full}
use Rattle.calculus.proofs.StepOutcomes.{Outcome, carried, changed, carries, closed, every-from, late, outcome, premise, short, table}

-- the fault of an answer that refuses
faults_at : {X : Type 0} (test : StepFault → Bool) (r : Result X StepFault) (f : StepFault) → Faults test r → r ≡ Err f → test f ≡ true
faults_at test (Ok x) f h e = let z : ◌≡◌ {A = ℕ} 0 1 = cc in absurd (omega arith)
faults_at test (Err g) f h e = let p : g ≡ f = cc in ap test (sym p) ∙ h

full_only : (f : StepFault) → is_full f ≡ true → f ≡ Full
full_only Changed h = let z : ◌≡◌ {A = ℕ} 0 1 = cc in absurd (omega arith)
full_only Closed h = let z : ◌≡◌ {A = ℕ} 0 1 = cc in absurd (omega arith)
full_only (Row f) h = let z : ◌≡◌ {A = ℕ} 0 1 = cc in absurd (omega arith)
full_only Range h = let z : ◌≡◌ {A = ℕ} 0 1 = cc in absurd (omega arith)
full_only Kind h = let z : ◌≡◌ {A = ℕ} 0 1 = cc in absurd (omega arith)
full_only Premise h = let z : ◌≡◌ {A = ℕ} 0 1 = cc in absurd (omega arith)
full_only Full h = refl

full_or_ok : {X : Type 0} (r : Result X StepFault) → Faults is_full r → (r ≡ Err Full) ⊎ ((x : X) × (r ≡ Ok x))
full_or_ok (Ok x) h = inr (x, refl)
full_or_ok (Err f) h = inl (ap Err (full_only f h))

every-fails : {A : Type 0} (test : A → Bool) (xs : List A) (x : A) → Among x xs → test x ≡ false → list_all test xs ≡ false
every-fails test [] x (n, e) h = let z : ◌≡◌ {A = ℕ} 0 1 = cc in absurd (omega arith)
every-fails test (y ∷ ys) x (zero, e) h = let p : y ≡ x = cc in and_left (test y) (list_all test ys) (ap test p ∙ h)
every-fails test (y ∷ ys) x (suc n, e) h = and_right (test y) (list_all test ys) (every-fails test ys x (n, e) h)

-- a refused step changes nothing
pub refused_changes_nothing : (s : State) (r : Result Played StepFault) (f : StepFault) → r ≡ Err f → left s r ≡ s
refused_changes_nothing s (Ok p) f e = let z : ◌≡◌ {A = ℕ} 0 1 = cc in absurd (omega arith)
refused_changes_nothing s (Err g) f e = refl

module _ (m : Meaning) (scratch : ℕ) (t : Step) (s : State) where
  -- the rest of a step, by what was found before the table
  abbrev rest : Result (Unit {0}) StepFault → Result Played StepFault
  rest r = and_then r (λ _. and_then (rule m s.numbers.individuals t) (perform m s))

  ready-changed : fits m s ≡ false → ready m scratch s ≡ Err Changed
  ready-changed e = cond-false (fits m s) _ _ e

  ready-short : fits m s ≡ true → scratch < 1024 → ready m scratch s ≡ Err Full
  ready-short e l = cond-true (fits m s) _ _ e ∙ cond-false (leb 1024 scratch) _ _ (lt-leb 1024 scratch l)

  ready-closed : fits m s ≡ true → 1024 ≤ scratch → s.numbers.closed ≡ true → ready m scratch s ≡ Err Closed
  ready-closed e l k = cond-true (fits m s) _ _ e ∙ cond-true (leb 1024 scratch) _ _ (le-leb 1024 scratch l) ∙ cond-true s.numbers.closed _ _ k

  ready_ok : Ready m scratch s → ready m scratch s ≡ Ok tt
  ready_ok r = cond-true (fits m s) _ _ r.unchanged ∙ cond-true (leb 1024 scratch) _ _ (le-leb 1024 scratch r.long) ∙ cond-false s.numbers.closed _ _ r.unclosed

  -- once it is ready, a step is what its line of the table comes to
  pub play-ruled : Ready m scratch s → (a : Result Rule StepFault) → rule m s.numbers.individuals t ≡ a → play m scratch t s ≡ and_then a (perform m s)
  play-ruled r a e = ap rest (ready_ok r) ∙ ap (λ a. and_then a (perform m s)) e

  -- with every need held, and steps left, it is carried out
  pub play-carried : Ready m scratch s → (q : Rule) → rule m s.numbers.individuals t ≡ Ok q → NeedsHeld m s q → s.numbers.steps < 1000000 → play m scratch t s ≡ carried m scratch t s q
  play-carried r q e h l =
      play-ruled r (Ok q) e
      ∙ cond-true (list_all (held m (branch s)) q.needs) _ _ (every-from (held m (branch s)) q.needs h)
      ∙ cond-true (ltb s.numbers.steps 1000000) _ _ (lt-ltb s.numbers.steps 1000000 l)

  carried_faults : (q : Rule) → Faults is_full (carried m scratch t s q)
  carried_faults q =
      cond_both q.closes (close m s (last_of s.ledgers.pending.rows)) (extend m s q) (Faults is_full)
      (λ _. close_faults m s (last_of s.ledgers.pending.rows)) (λ _. extend_faults m s q)

  -- what an accepted step carried out
  pub record Carried (p : Played) : Type 0 where
    pub ready : Ready m scratch s
    pub line : Rule
    pub table : rule m s.numbers.individuals t ≡ Ok line
    pub needs : NeedsHeld m s line
    pub steps : s.numbers.steps < 1000000
    pub result : carried m scratch t s line ≡ Ok p

  pub accepted-carried : (p : Played) → play m scratch t s ≡ Ok p → Carried p
  accepted-carried p e = from (play m scratch t s) (outcome m scratch t s) e
    where
      from : (r : Result Played StepFault) → Outcome m scratch t s r → r ≡ Ok p → Carried p
      from r (changed e) k = let z : ◌≡◌ {A = ℕ} 0 1 = cc in absurd (omega arith)
      from r (short e l) k = let z : ◌≡◌ {A = ℕ} 0 1 = cc in absurd (omega arith)
      from r (closed e l c) k = let z : ◌≡◌ {A = ℕ} 0 1 = cc in absurd (omega arith)
      from r (table d f e h) k = let z : ◌≡◌ {A = ℕ} 0 1 = cc in absurd (omega arith)
      from r (premise d q e h) k = let z : ◌≡◌ {A = ℕ} 0 1 = cc in absurd (omega arith)
      from r (late d q e h l) k = let z : ◌≡◌ {A = ℕ} 0 1 = cc in absurd (omega arith)
      from r (carries d q e h l) k = record { ready = d; line = q; table = e; needs = h; steps = l; result = k }

  -- its line is the table's
  pub accepted-line : (p : Played) (q : Rule) → play m scratch t s ≡ Ok p → rule m s.numbers.individuals t ≡ Ok q → carried m scratch t s q ≡ Ok p
  accepted-line p q e h =
      let c = accepted-carried p e in
      let k : c.line ≡ q = cc c.table in
      ap (carried m scratch t s) (sym k) ∙ c.result

  from-changed : play m scratch t s ≡ Err Changed → fits m s ≡ false
  from-changed e = from (play m scratch t s) (outcome m scratch t s) e
    where
      from : (r : Result Played StepFault) → Outcome m scratch t s r → r ≡ Err Changed → fits m s ≡ false
      from r (changed e) k = e
      from r (short e l) k = let z : ◌≡◌ {A = ℕ} 0 1 = cc in absurd (omega arith)
      from r (closed e l c) k = let z : ◌≡◌ {A = ℕ} 0 1 = cc in absurd (omega arith)
      from r (table d f e h) k = absurd (both_ways (from_table Changed) refl (faults_at from_table (Err f) Changed h k))
      from r (premise d q e h) k = let z : ◌≡◌ {A = ℕ} 0 1 = cc in absurd (omega arith)
      from r (late d q e h l) k = let z : ◌≡◌ {A = ℕ} 0 1 = cc in absurd (omega arith)
      from r (carries d q e h l) k = absurd (both_ways (is_full Changed) refl (faults_at is_full (carried m scratch t s q) Changed (carried_faults q) k))

  from-closed : play m scratch t s ≡ Err Closed → (fits m s ≡ true) × (1024 ≤ scratch) × (s.numbers.closed ≡ true)
  from-closed e = from (play m scratch t s) (outcome m scratch t s) e
    where
      from : (r : Result Played StepFault) → Outcome m scratch t s r → r ≡ Err Closed → (fits m s ≡ true) × (1024 ≤ scratch) × (s.numbers.closed ≡ true)
      from r (changed e) k = let z : ◌≡◌ {A = ℕ} 0 1 = cc in absurd (omega arith)
      from r (short e l) k = let z : ◌≡◌ {A = ℕ} 0 1 = cc in absurd (omega arith)
      from r (closed e l c) k = (e, l, c)
      from r (table d f e h) k = absurd (both_ways (from_table Closed) refl (faults_at from_table (Err f) Closed h k))
      from r (premise d q e h) k = let z : ◌≡◌ {A = ℕ} 0 1 = cc in absurd (omega arith)
      from r (late d q e h l) k = let z : ◌≡◌ {A = ℕ} 0 1 = cc in absurd (omega arith)
      from r (carries d q e h l) k = absurd (both_ways (is_full Closed) refl (faults_at is_full (carried m scratch t s q) Closed (carried_faults q) k))

  NeedNotHeld : Type 0
  NeedNotHeld = Ready m scratch s × ((q : Rule) × (rule m s.numbers.individuals t ≡ Ok q) × NeedMissing m s q)

  from-premise : play m scratch t s ≡ Err Premise → NeedNotHeld
  unfolding NeedNotHeld
  from-premise e = from (play m scratch t s) (outcome m scratch t s) e
    where
      from : (r : Result Played StepFault) → Outcome m scratch t s r → r ≡ Err Premise → NeedNotHeld
      from r (changed e) k = let z : ◌≡◌ {A = ℕ} 0 1 = cc in absurd (omega arith)
      from r (short e l) k = let z : ◌≡◌ {A = ℕ} 0 1 = cc in absurd (omega arith)
      from r (closed e l c) k = let z : ◌≡◌ {A = ℕ} 0 1 = cc in absurd (omega arith)
      from r (table d f e h) k = absurd (both_ways (from_table Premise) refl (faults_at from_table (Err f) Premise h k))
      from r (premise d q e h) k = (d, (q, e, h))
      from r (late d q e h l) k = let z : ◌≡◌ {A = ℕ} 0 1 = cc in absurd (omega arith)
      from r (carries d q e h l) k = absurd (both_ways (is_full Premise) refl (faults_at is_full (carried m scratch t s q) Premise (carried_faults q) k))

  to_premise : NeedNotHeld → play m scratch t s ≡ Err Premise
  unfolding NeedNotHeld
  to_premise (r, (q, e, h)) =
      play-ruled r (Ok q) e
      ∙ cond-false (list_all (held m (branch s)) q.needs) _ _ (every-fails (held m (branch s)) q.needs h.0 h.1 h.2)

  -- with every need held it is full or accepted
  pub full-or-accepted : Ready m scratch s → (q : Rule) → rule m s.numbers.individuals t ≡ Ok q → NeedsHeld m s q → (play m scratch t s ≡ Err Full) ⊎ ((p : Played) × (play m scratch t s ≡ Ok p))
  full-or-accepted r q e h =
      subst (λ a. (a ≡ Err Full) ⊎ ((p : Played) × (a ≡ Ok p)))
      (sym (play-ruled r (Ok q) e ∙ cond-true (list_all (held m (branch s)) q.needs) _ _ (every-from (held m (branch s)) q.needs h)))
      (cond_both (ltb s.numbers.steps 1000000) (carried m scratch t s q) (Err Full) (λ a. (a ≡ Err Full) ⊎ ((p : Played) × (a ≡ Ok p)))
      (λ _. full_or_ok (carried m scratch t s q) (carried_faults q))
      (λ _. inl refl))

  pub refused_in_order : RefusedInOrder m scratch t s
  unfolding NeedNotHeld
  refused_in_order =
      record {
        changed = (from-changed, λ e. ap rest (ready-changed e));
        short = λ e l. ap rest (ready-short e l);
        closed = (from-closed, λ h. ap rest (ready-closed h.0 h.1 h.2));
        table = λ r f e. play-ruled r (Err f) e;
        premise = (from-premise, to_premise);
        otherwise = full-or-accepted;
      }
