-- Which refusals come from the table, and which from writing.
use Rattle.std.proofs.Common.{◌≡◌, ℕ, ◌+◌, Bool, true, false, cond, ◌&&◌, eqb, leb, List, [], ◌∷◌, length, Some, None, Ok, Err, Option, Result, refl}
use Rattle.std.proofs.lemmas.Bool.{cond_both}
use Rattle.rows.specs.declared.fault.RowFault.{RowFault}
use Rattle.rows.specs.Rows.{row_at}
use Rattle.kb.specs.declared.axioms.Assertion.{Assertion}
use Rattle.kb.specs.declared.axioms.Assertion.TheVariants.{Is, Same, Different}
use Rattle.kb.specs.declared.axioms.Key.{Key as KeyRow}
use Rattle.kb.specs.declared.axioms.Key.TheVariants.{Link, Unlisted as UnlistedKey}
use Rattle.kb.specs.declared.lexicon.Entry.{Entry}
use Rattle.kb.specs.declared.names.Concept.{Concept}
use Rattle.kb.specs.declared.names.Individual.{Individual}
use Rattle.kb.specs.Meanings.{Meaning}
use Rattle.kb.specs.Names.{complement, entry_number}
use Rattle.kb.specs.Numbers.{pair_list}
use Rattle.calculus.specs.declared.fault.StepFault.{StepFault}
use Rattle.calculus.specs.declared.fault.StepFault.TheVariants.{Changed, Closed, Row, Range, Kind, Premise, Full}
use Rattle.calculus.specs.declared.row_kinds.PendingRow.{PendingRow}
use Rattle.calculus.specs.declared.shape.Shape.{Shape}
use Rattle.calculus.specs.declared.shape.Shape.TheVariants.{Plain, Both as BothShape, Some as SomeShape, NotBoth, NotSome}
use Rattle.calculus.specs.declared.step.Step.{Step}
use Rattle.calculus.specs.declared.step.Step.TheVariants.{Take, Both, All, Some as SomeStep, Include, Key, Either, Cut, Clash, Apart}
use Rattle.calculus.specs.Branches.{held}
use Rattle.calculus.specs.Playing.{Played, Written, accepted, close, extend, individuals_after, note, noteable, cut_to, room, rows_of, write, write_missing}
use Rattle.calculus.specs.States.{State, branch_of}
use Rattle.calculus.specs.Table.{Rule, adding, all_below, all_rule, and_then, below, both_rule, closing, either_rule, entry_shape, include_rule, inside, key_rule, row_in, rule, shape_in, sharing, some_rule, splitting}

-- an answer refuses, if at all, with a fault that passes a test
abbrev pub Faults : {X : Type 0} → (StepFault → Bool) → Result X StepFault → Type 0
Faults test (Ok x) = Unit {0}
Faults test (Err f) = test f ≡ true

module _ {X Y : Type 0} (test : StepFault → Bool) where
  pub faults_and_then : (r : Result X StepFault) (next : X → Result Y StepFault) → Faults test r → ((x : X) → Faults test (next x)) → Faults test (and_then r next)
  faults_and_then (Ok x) next h k = k x
  faults_and_then (Err f) next h k = h

-- 7 and 8
abbrev pub from_table : StepFault → Bool
from_table Changed = false
from_table Closed = false
from_table (Row f) = true
from_table Range = true
from_table Kind = true
from_table Premise = false
from_table Full = false

-- 10
abbrev pub is_full : StepFault → Bool
is_full Changed = false
is_full Closed = false
is_full (Row f) = false
is_full Range = false
is_full Kind = false
is_full Premise = false
is_full Full = true

inside_faults : {X : Type 0} (in_range : Bool) (x : X) → Faults from_table (inside in_range x)
inside_faults true x = tt
inside_faults false x = refl

entry_shape_faults : (in_range : Bool) (c : Concept) (r : Result Entry RowFault) → Faults from_table (entry_shape in_range c r)
entry_shape_faults in_range c (Ok e) = inside_faults in_range _
entry_shape_faults in_range c (Err f) = refl

both_rule_faults : (c : Concept) (x : Individual) (h : Shape) → Faults from_table (both_rule c x h)
both_rule_faults c x Plain = refl
both_rule_faults c x (BothShape d e) = tt
both_rule_faults c x (SomeShape r d) = refl
both_rule_faults c x (NotBoth d e) = refl
both_rule_faults c x (NotSome r d) = refl

all_rule_faults : (c : Concept) (x y : Individual) (h : Shape) → Faults from_table (all_rule c x y h)
all_rule_faults c x y Plain = refl
all_rule_faults c x y (BothShape d e) = refl
all_rule_faults c x y (SomeShape r d) = refl
all_rule_faults c x y (NotBoth d e) = refl
all_rule_faults c x y (NotSome r d) = tt

some_rule_faults : (c : Concept) (x y : Individual) (h : Shape) → Faults from_table (some_rule c x y h)
some_rule_faults c x y Plain = refl
some_rule_faults c x y (BothShape d e) = refl
some_rule_faults c x y (SomeShape r d) = tt
some_rule_faults c x y (NotBoth d e) = refl
some_rule_faults c x y (NotSome r d) = refl

either_rule_faults : (c : Concept) (x : Individual) (h : Shape) → Faults from_table (either_rule c x h)
either_rule_faults c x Plain = refl
either_rule_faults c x (BothShape d e) = refl
either_rule_faults c x (SomeShape r d) = refl
either_rule_faults c x (NotBoth d e) = tt
either_rule_faults c x (NotSome r d) = refl

key_rule_faults : (x y : Individual) (zs : List Individual) (k : KeyRow) → Faults from_table (key_rule x y zs k)
key_rule_faults x y zs (Link c d pairs) =
    cond_both (eqb (length zs) (length (pair_list pairs))) (Ok (adding (Is c x ∷ Is d y ∷ sharing x y (pair_list pairs) zs) _)) (Err Kind) (Faults from_table) (λ _. tt) (λ _. refl)
key_rule_faults x y zs (UnlistedKey count) = refl

module _ (m : Meaning) (n : ℕ) where
  row_in_faults : {X : Type 0} (in_range : Bool) (r : Result X RowFault) → Faults from_table (row_in m n in_range r)
  row_in_faults in_range (Ok x) = inside_faults in_range x
  row_in_faults in_range (Err f) = refl

  -- on a concept
  shaped : (in_range : Bool) (c : Concept) (next : Shape → Result Rule StepFault) → ((h : Shape) → Faults from_table (next h)) → Faults from_table (and_then (shape_in m n in_range c) next)
  shaped in_range c next k = faults_and_then from_table (shape_in m n in_range c) next (entry_shape_faults in_range c (row_at m.entries (entry_number c))) k

  -- on a row of the base
  rowed : {X : Type 0} (in_range : Bool) (r : Result X RowFault) (next : X → Result Rule StepFault) → ((x : X) → Faults from_table (next x)) → Faults from_table (and_then (row_in m n in_range r) next)
  rowed in_range r next k = faults_and_then from_table (row_in m n in_range r) next (row_in_faults in_range r) k

  -- the table refuses with 7 or 8
  pub rule_faults : (t : Step) → Faults from_table (rule m n t)
  rule_faults (Take k) = rowed true (row_at m.assertions k) (λ a. Ok (adding [] (a ∷ []))) (λ _. tt)
  rule_faults (Both c x) = shaped _ c _ (both_rule_faults c x)
  rule_faults (All c x y) = shaped _ c _ (all_rule_faults c x y)
  rule_faults (SomeStep c x) = shaped _ c _ (some_rule_faults c x _)
  rule_faults (Include k x) = rowed (below n x) (row_at m.inclusions k) (include_rule x) (λ _. tt)
  rule_faults (Key k x y zs) = rowed (below n x && (below n y && all_below n zs.now)) (row_at m.keys k) (key_rule x y zs.now) (key_rule_faults x y zs.now)
  rule_faults (Either c x) = shaped _ c _ (either_rule_faults c x)
  rule_faults (Cut c x) = shaped (below n x) c (λ _. Ok (splitting [] c (complement c) x)) (λ _. tt)
  rule_faults (Clash c x) = shaped (below n x) c (λ _. Ok (closing (Is c x ∷ Is (complement c) x ∷ []))) (λ _. tt)
  rule_faults (Apart x y) = inside_faults (below n x && below n y) (closing (Different x y ∷ Same x y ∷ []))

module _ (m : Meaning) where
  -- writing, extending and closing refuse with 10
  pub write_missing_faults : (n : ℕ) (facts : List Assertion) (w : Written) → Faults is_full (write_missing m n facts w)
  write_missing_faults n [] w = tt
  write_missing_faults n (a ∷ facts) w =
      let further : Written = record { ledgers = write a w.ledgers; rows = w.rows + rows_of a } in
      cond_both (held m (branch_of w.ledgers n) a) (write_missing m n facts w) (cond (room a w.ledgers) (write_missing m n facts further) (Err Full)) (Faults is_full)
      (λ _. write_missing_faults n facts w)
      (λ _. cond_both (room a w.ledgers) (write_missing m n facts further) (Err Full) (Faults is_full) (λ _. write_missing_faults n facts further) (λ _. refl))

  pub extend_faults : (s : State) (q : Rule) → Faults is_full (extend m s q)
  extend_faults s q =
      let after = individuals_after q.fresh s.numbers.individuals in
      let start : Written = record { ledgers = note q.split s.numbers.individuals s.ledgers; rows = 0 } in
      let next : Written → Result Played StepFault = λ w. Ok (accepted s.numbers after false w) in
      cond_both (leb after 1024 && noteable q.split s.ledgers) (and_then (write_missing m after q.adds start) next) (Err Full) (Faults is_full)
      (λ _. faults_and_then is_full (write_missing m after q.adds start) next (write_missing_faults after q.adds start) (λ _. tt))
      (λ _. refl)

  pub close_faults : (s : State) (d : Option PendingRow) → Faults is_full (close m s d)
  close_faults s None = tt
  close_faults s (Some d) =
      let start : Written = record { ledgers = cut_to d s.ledgers; rows = 0 } in
      let side = Is d.side.concept d.side.individual ∷ [] in
      faults_and_then is_full (write_missing m d.individuals side start) (λ w. Ok (accepted s.numbers d.individuals false w))
      (write_missing_faults d.individuals side start) (λ _. tt)
