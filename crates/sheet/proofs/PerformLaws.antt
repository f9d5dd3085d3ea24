-- Extending a branch and taking up a right side, where it is known what is held.
use Rattle.std.proofs.Common.{◌≡◌, ℕ, ◌≤◌, Bool, true, false, cond, ◌&&◌, ltb, leb, List, [], ◌∷◌, Some, None, Ok, Err, Option, Result, sym, refl, ap, ◌∙◌, ⊎_elim, arith}
use Rattle.std.proofs.lemmas.Bool.{cases_Bool}
use Rattle.std.specs.List.{list_all}
use Rattle.kb.specs.declared.axioms.Assertion.{Assertion}
use Rattle.kb.specs.declared.axioms.Assertion.TheVariants.{Is, Joins, Same, Different, Unlisted}
use Rattle.kb.specs.Meanings.{Meaning}
use Rattle.calculus.specs.declared.fault.StepFault.TheVariants.{Full, Premise}
use Rattle.calculus.specs.declared.row_kinds.ConceptRow.{ConceptRow}
use Rattle.calculus.specs.declared.row_kinds.PendingRow.{PendingRow}
use Rattle.calculus.specs.Branches.{Branch, held}
use Rattle.calculus.specs.declared.fault.StepFault.{StepFault}
use Rattle.calculus.specs.Playing.{Played, close, cut_to, extend, free, individuals_after, last_of, note, noteable, perform, room}
use Rattle.calculus.specs.States.{Ledgers, State, branch, branch_of, fits}
use Rattle.calculus.specs.StepLaws.{appended, entered, missing, side_of}
use Rattle.calculus.specs.Table.{Rule, and_then}
use Rattle.table.specs.declared.adds.Adds.{Adds}
use Rattle.table.specs.declared.adds.Adds.TheVariants.{Nothing, Fact, Parts, Reached}
use Rattle.table.specs.FactLists.{adds_of}
use Rattle.table.specs.declared.rule.Effect.{Effect}
use Rattle.table.specs.Rules.{line_of}
use Rattle.sheet.specs.declared.turns.Turn.TheVariants.{Extends}
use Rattle.sheet.specs.Turns.{performed}
use Rattle.sheet.specs.Writing.{can_write, extend_by, looked_up, rows_shown, take_up_by}
use Rattle.sheet.proofs.FitLaws.{fit-shown}
use Rattle.sheet.proofs.WritingLaws.{writeMissing-adds}

-- noting a right side changes neither the branch nor the room for facts
note-branch : (split : Option ConceptRow) (n k : ℕ) (l : Ledgers) → branch_of (note split n l) k ≡ branch_of l k
note-branch None n k l = refl
note-branch (Some side) n k l = refl

room-note : (a : Assertion) (side : ConceptRow) (n : ℕ) (l : Ledgers) → room a (note (Some side) n l) ≡ room a l
room-note (Is c x) side n l = refl
room-note (Joins r x y) side n l = refl
room-note (Same x y) side n l = refl
room-note (Different x y) side n l = refl
room-note (Unlisted kind) side n l = refl

can_write-note : (new : Adds) (split : Option ConceptRow) (n : ℕ) (l : Ledgers) → can_write new (note split n l) ≡ can_write new l
can_write-note new None n l = refl
can_write-note Nothing (Some side) n l = refl
can_write-note (Fact a) (Some side) n l = room-note a side n l
can_write-note (Parts d e x) (Some side) n l = refl
can_write-note (Reached r x y d) (Some side) n l = refl

-- three tests in turn, the last one asked by what comes after the first two
tests-joined :
    {X Y E : Type 0} (a b c : Bool) (x : X) (e : E) (next : X → Result Y E)
    → cond (a && b) (and_then (cond c (Ok x) (Err e)) next) (Err e) ≡ cond (a && (b && c)) (next x) (Err e)
tests-joined true true true x e next = refl
tests-joined true true false x e next = refl
tests-joined true false c x e next = refl
tests-joined false b c x e next = refl

module _ (m : Meaning) (s : State) where
  pub extend-by : (q : Rule) (new : Adds) → adds_of new ≡ missing m (entered s q) q.adds → extend m s q ≡ extend_by s q.fresh q.split new
  extend-by q new e =
      let n = s.numbers.individuals in
      let after = individuals_after q.fresh n in
      let noted = note q.split n s.ledgers in
      let same = e ∙ ap (λ b. missing m b q.adds) (sym (note-branch q.split n after s.ledgers)) in
      rw (writeMissing-adds m after q.adds new noted same, can_write-note new q.split n s.ledgers)
      (tests-joined (leb after 1024) (noteable q.split s.ledgers) (can_write new s.ledgers) _ Full _)

  pub close-by : (p : PendingRow) → close m s (Some p) ≡ take_up_by s p (held m (branch_of (cut_to p s.ledgers) p.individuals) (side_of p))
  close-by p =
      ⊎_elim
      (λ h. rw h)
      (λ h. rw h (⊎_elim (λ f. rw f) (λ f. rw f) (cases_Bool (free (cut_to p s.ledgers).concepts))))
      (cases_Bool (held m (branch_of (cut_to p s.ledgers) p.individuals) (side_of p)))

-- a branch holds and misses the same with any number of individuals
held-any-individuals : (m : Meaning) (b : Branch) (n : ℕ) (a : Assertion) → held m (record { concepts = b.concepts; roles = b.roles; pairs = b.pairs; individuals = n }) a ≡ held m b a
held-any-individuals m b n (Is c x) = refl
held-any-individuals m b n (Joins r x y) = refl
held-any-individuals m b n (Same x y) = refl
held-any-individuals m b n (Different x y) = refl
held-any-individuals m b n (Unlisted kind) = refl

missing-any-individuals : (m : Meaning) (b : Branch) (n : ℕ) (facts : List Assertion) → missing m (record { concepts = b.concepts; roles = b.roles; pairs = b.pairs; individuals = n }) facts ≡ missing m b facts
missing-any-individuals m b n [] = refl
missing-any-individuals m b n (a ∷ facts) =
    λ i. cond (held-any-individuals m b n a i) (missing-any-individuals m b n facts i) (a ∷ missing-any-individuals m (appended (a ∷ []) b) n facts i)

-- the rows looked up for a rule: every need is held, and these of its facts are missing
pub looked_up_lem : (m : Meaning) (b : Branch) (q : Rule) (new : Adds) → Ok (adds_of new) ≡ looked_up m b q → (list_all (held m b) q.needs ≡ true) × (adds_of new ≡ missing m b q.adds)
looked_up_lem m b q new e =
    ⊎_elim
    (λ h. let k = rw h at e in (h, cc))
    (λ h. let k = rw h at e in let z : ◌≡◌ {A = ℕ} 0 1 = cc in absurd (omega arith))
    (cases_Bool (list_all (held m b) q.needs))

-- a rule of which a need is not held is refused
pub perform-refused :
    (m : Meaning) (s : State) (q : Rule) (n : ℕ) → n ≡ s.numbers.individuals → fits m s ≡ true → s.numbers.individuals ≤ 1024
    → (f : StepFault) → Err f ≡ looked_up m (rows_shown n s.ledgers) q → Err f ≡ perform m s q
perform-refused m s q n own fit few f e =
    let k : Err f ≡ looked_up m (branch s) q = e ∙ ap (λ b. looked_up m b q) (fit-shown m s fit n own few) ∙ ap (λ i. looked_up m (branch_of s.ledgers i) q) own in
    ⊎_elim
    (λ h. let r = rw h at k in let z : ◌≡◌ {A = ℕ} 0 1 = cc in absurd (omega arith))
    (λ h. let r = rw h at k in let q : f ≡ Premise = cc in rw h (ap Err q))
    (cases_Bool (list_all (held m (branch s)) q.needs))

-- a rule with these needs, that does this, as it was looked up on a branch with the sheet's individuals
module _ (m : Meaning) (s : State) (needs : List Assertion) (effect known : Effect) (is : effect ≡ known) (n : ℕ) (own : n ≡ s.numbers.individuals) (fit : fits m s ≡ true) (few : s.numbers.individuals ≤ 1024) (new : Adds) (looked : Ok (adds_of new) ≡ looked_up m (rows_shown n s.ledgers) (line_of needs effect)) where
  found : (list_all (held m (branch s)) (line_of needs known).needs ≡ true) × (adds_of new ≡ missing m (branch s) (line_of needs known).adds)
  found =
      looked_up_lem m (branch s) (line_of needs known) new
      (looked ∙ ap (λ b. looked_up m b (line_of needs effect)) (fit-shown m s fit n own few) ∙ ap (λ k. looked_up m (branch_of s.ledgers k) (line_of needs effect)) own ∙ ap (λ e. looked_up m (branch s) (line_of needs e)) is)

  -- as it ends the branch or extends it
  performs :
      perform m s (line_of needs effect)
      ≡ cond (ltb s.numbers.steps 1000000) (cond (line_of needs known).closes (close m s (last_of s.ledgers.pending.rows)) (extend m s (line_of needs known))) (Err Full)
  performs = ap (λ e. perform m s (line_of needs e)) is ∙ rw (found.0)

  -- one that does not close extends the branch by what is missing
  pub perform-extends :
      (line_of needs known).closes ≡ false
      → performed s (Ok (Extends (individuals_after (line_of needs known).fresh s.numbers.individuals) (line_of needs known).split new)) ≡ perform m s (line_of needs effect)
  perform-extends o =
      let q = line_of needs known in
      let same = extend-by m s q new (found.1 ∙ sym (missing-any-individuals m (branch s) (individuals_after q.fresh s.numbers.individuals) q.adds)) in
      ap (λ p. cond (ltb s.numbers.steps 1000000) p (Err Full)) (sym same)
      ∙ ap (λ c. cond (ltb s.numbers.steps 1000000) (cond c (close m s (last_of s.ledgers.pending.rows)) (extend m s q)) (Err Full)) (sym o)
      ∙ sym performs

  -- one that closes ends it
  pub perform-closes :
      (p : Result Played StepFault) → p ≡ close m s (last_of s.ledgers.pending.rows) → (line_of needs known).closes ≡ true
      → cond (ltb s.numbers.steps 1000000) p (Err Full) ≡ perform m s (line_of needs effect)
  perform-closes p e o =
      ap (λ p. cond (ltb s.numbers.steps 1000000) p (Err Full)) e
      ∙ ap (λ c. cond (ltb s.numbers.steps 1000000) (cond c (close m s (last_of s.ledgers.pending.rows)) (extend m s (line_of needs known))) (Err Full)) (sym o)
      ∙ sym performs
