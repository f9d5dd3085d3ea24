-- The ways in which a step can come out, in the order in which they are looked at.
use Rattle.std.proofs.Common.{◌≡◌, ℕ, suc, ◌<◌, ◌≤◌, Bool, true, false, cond, ltb, leb, List, [], ◌∷◌, Ok, Err, Result, refl, ⊎_elim, arith}
use Rattle.std.proofs.lemmas.Bool.{and_cases, cond_both, leb-false, leb-true, ltb-false, ltb-true}
use Rattle.std.specs.List.{list_all}
use Rattle.kb.specs.Meanings.{Meaning}
use Rattle.calculus.specs.declared.fault.StepFault.{StepFault}
use Rattle.calculus.specs.declared.fault.StepFault.TheVariants.{Changed, Closed, Premise, Full}
use Rattle.calculus.specs.declared.step.Step.{Step}
use Rattle.calculus.specs.Branches.{held}
use Rattle.calculus.specs.Playing.{Played, close, extend, last_of, perform, play}
use Rattle.calculus.specs.States.{State, branch, fits}
use Rattle.calculus.specs.StepLaws.{Among, NeedMissing, NeedsHeld, Ready}
use Rattle.calculus.specs.Table.{Rule, and_then, rule}
use Rattle.calculus.proofs.DecidingLaws.{decides_every, decides_true}
use Rattle.calculus.proofs.StepFaults.{Faults, from_table, rule_faults}

module _ {A : Type 0} (test : A → Bool) where
  -- a test of every item, and of one
  pub every_among : (xs : List A) → list_all test xs ≡ true → (x : A) → Among x xs → test x ≡ true
  every_among xs h x (n, e) = (decides_every (λ y. decides_true (test y)) xs).0 h n x e

  pub every-from : (xs : List A) → ((x : A) → Among x xs → test x ≡ true) → list_all test xs ≡ true
  every-from xs h = (decides_every (λ y. decides_true (test y)) xs).1 (λ n x e. h x (n, e))

  pub every-not : (xs : List A) → list_all test xs ≡ false → (x : A) × Among x xs × (test x ≡ false)
  every-not [] h = let z : ◌≡◌ {A = ℕ} 0 1 = cc in absurd (omega arith)
  every-not (y ∷ ys) h =
      ⊎_elim (λ e. (y, (0, refl), e)) (λ e. let r = every-not ys e in (r.0, (suc r.1.0, r.1.1), r.2)) (and_cases (test y) (list_all test ys) h)

module _ (m : Meaning) (scratch : ℕ) (t : Step) (s : State) where
  -- what a rule comes to, once nothing else refuses
  abbrev pub carried : Rule → Result Played StepFault
  carried q = cond q.closes (close m s (last_of s.ledgers.pending.rows)) (extend m s q)

  pub data Outcome : Result Played StepFault → Type 0 where
    changed : fits m s ≡ false → Outcome (Err Changed)
    short : fits m s ≡ true → scratch < 1024 → Outcome (Err Full)
    closed : fits m s ≡ true → 1024 ≤ scratch → s.numbers.closed ≡ true → Outcome (Err Closed)
    table : Ready m scratch s → (f : StepFault) → rule m s.numbers.individuals t ≡ Err f → from_table f ≡ true → Outcome (Err f)
    premise : Ready m scratch s → (q : Rule) → rule m s.numbers.individuals t ≡ Ok q → NeedMissing m s q → Outcome (Err Premise)
    late : Ready m scratch s → (q : Rule) → rule m s.numbers.individuals t ≡ Ok q → NeedsHeld m s q → 1000000 ≤ s.numbers.steps → Outcome (Err Full)
    carries : Ready m scratch s → (q : Rule) → rule m s.numbers.individuals t ≡ Ok q → NeedsHeld m s q → s.numbers.steps < 1000000 → Outcome (carried q)

  performed : Ready m scratch s → (q : Rule) → rule m s.numbers.individuals t ≡ Ok q → Outcome (perform m s q)
  performed r q e =
      cond_both (list_all (held m (branch s)) q.needs) (cond (ltb s.numbers.steps 1000000) (carried q) (Err Full)) (Err Premise) Outcome
      (λ h. cond_both (ltb s.numbers.steps 1000000) (carried q) (Err Full) Outcome
      (λ l. carries r q e (every_among (held m (branch s)) q.needs h) (ltb-true s.numbers.steps 1000000 l))
      (λ l. late r q e (every_among (held m (branch s)) q.needs h) (ltb-false s.numbers.steps 1000000 l)))
      (λ h. premise r q e (every-not (held m (branch s)) q.needs h))

  ruled : Ready m scratch s → (a : Result Rule StepFault) → rule m s.numbers.individuals t ≡ a → Faults from_table a → Outcome (and_then a (perform m s))
  ruled r (Ok q) e h = performed r q e
  ruled r (Err f) e h = table r f e h

  after : Result (Unit {0}) StepFault → Type 0
  after r = Outcome (and_then r (λ _. and_then (rule m s.numbers.individuals t) (perform m s)))

  pub outcome : Outcome (play m scratch t s)
  unfolding after
  outcome =
      cond_both (fits m s) (cond (leb 1024 scratch) (cond s.numbers.closed (Err Closed) (Ok tt)) (Err Full)) (Err Changed) after
      (λ e. cond_both (leb 1024 scratch) (cond s.numbers.closed (Err Closed) (Ok tt)) (Err Full) after
      (λ l. cond_both s.numbers.closed (Err Closed) (Ok tt) after
      (λ k. closed e (leb-true 1024 scratch l) k)
      (λ k. ruled (record { unchanged = e; long = leb-true 1024 scratch l; unclosed = k }) (rule m s.numbers.individuals t) refl (rule_faults m s.numbers.individuals t)))
      (λ l. short e (leb-false 1024 scratch l)))
      changed
