-- The rule table: what each of the ten steps needs, adds, splits and closes.
use Rattle.std.specs.Prelude.{ℕ, ◌%◌, Bool, true, false, cond, ◌&&◌, List, [], ◌∷◌, length, Some, None, Ok, Err, Option, Result, ◌==◌, nat_lt}
use Rattle.rows.specs.declared.fault.RowFault.{RowFault}
use Rattle.rows.specs.Rows.{row_at}
use Rattle.kb.specs.declared.axioms.Assertion.{Assertion}
use Rattle.kb.specs.declared.axioms.Assertion.TheVariants.{Is, Joins, Same, Different}
use Rattle.kb.specs.declared.axioms.Inclusion.{Inclusion}
use Rattle.kb.specs.declared.axioms.Key.{Key as KeyRow}
use Rattle.kb.specs.declared.axioms.Key.TheVariants.{Link, Unlisted as UnlistedKey}
use Rattle.kb.specs.declared.axioms.RolePair.{RolePair}
use Rattle.kb.specs.declared.lexicon.Entry.{Entry}
use Rattle.kb.specs.declared.lexicon.Entry.TheVariants.{Top, Name, Both as BothEntry, Some as SomeEntry, Unlisted as UnlistedEntry}
use Rattle.kb.specs.declared.names.Concept.{Concept}
use Rattle.kb.specs.declared.names.Individual.{Individual}
use Rattle.kb.specs.Meanings.{Meaning}
use Rattle.kb.specs.Names.{complement, entry_number}
use Rattle.kb.specs.Numbers.{pair_list}
use Rattle.calculus.specs.declared.fault.StepFault.{StepFault}
use Rattle.calculus.specs.declared.fault.StepFault.TheVariants.{Row, Range, Kind}
use Rattle.calculus.specs.declared.row_kinds.ConceptRow.{ConceptRow}
use Rattle.calculus.specs.declared.shape.Shape.{Shape}
use Rattle.calculus.specs.declared.shape.Shape.TheVariants.{Plain, Both as BothShape, Some as SomeShape, NotBoth, NotSome}
use Rattle.calculus.specs.declared.step.Step.{Step}
use Rattle.calculus.specs.declared.step.Step.TheVariants.{Take, Both, All, Some as SomeStep, Include, Key, Either, Cut, Clash, Apart}

-- A line of the table. The needs must be held. A fresh rule brings the next individual into being. What is added is written
-- unless it is held. A split notes its right side as pending before the left side, its one fact to add, is written. A
-- closing rule ends the branch.
pub record Rule : Type 0 where
  pub needs : List Assertion
  pub adds : List Assertion
  pub fresh : Bool
  pub split : Option ConceptRow
  pub closes : Bool

abbrev pub adding : List Assertion → List Assertion → Rule
adding needs adds = record { needs = needs; adds = adds; fresh = false; split = None; closes = false }

abbrev pub adding_fresh : List Assertion → List Assertion → Rule
adding_fresh needs adds = record { needs = needs; adds = adds; fresh = true; split = None; closes = false }

abbrev pub splitting : List Assertion → Concept → Concept → Individual → Rule
splitting needs left right x =
    record { needs = needs; adds = Is left x ∷ []; fresh = false; split = Some (record { concept = right; individual = x }); closes = false }

abbrev pub closing : List Assertion → Rule
closing needs = record { needs = needs; adds = []; fresh = false; split = None; closes = true }

-- What comes after an answer, unless it refuses.
abbrev pub and_then : {X Y E : Type 0} → Result X E → (X → Result Y E) → Result Y E
and_then (Ok x) next = next x
and_then (Err e) next = Err e

-- A row's refusal inside a step's.
abbrev pub step_row : {X : Type 0} → Result X RowFault → Result X StepFault
step_row (Ok x) = Ok x
step_row (Err f) = Err (Row f)

-- What is asked, if the numbers named are in range.
abbrev pub inside : {X : Type 0} → Bool → X → Result X StepFault
inside in_range x = cond in_range (Ok x) (Err Range)

-- Individuals of a sheet are those below their number.
abbrev pub below : ℕ → Individual → Bool
below n x = nat_lt x.0 n

abbrev pub all_below : ℕ → List Individual → Bool
all_below n [] = true
all_below n (x ∷ xs) = below n x && all_below n xs

-- What the concept of an entry is: the entry (even) or its complement (odd).
abbrev pub shape_of : Bool → Entry → Shape
shape_of even Top = Plain
shape_of even Name = Plain
shape_of even (BothEntry d e) = cond even (BothShape d e) (NotBoth d e)
shape_of even (SomeEntry r d) = cond even (SomeShape r d) (NotSome r d)
shape_of even (UnlistedEntry kind) = Plain

-- The shape of a concept whose entry was asked for, if there is one and the individuals named are in range.
abbrev pub entry_shape : Bool → Concept → Result Entry RowFault → Result Shape StepFault
entry_shape in_range c (Ok e) = inside in_range (shape_of (c.0 % 2 == 0) e)
entry_shape in_range c (Err f) = Err Range

-- Steps on a concept, by its shape; any other shape is of another kind.
abbrev pub both_rule : Concept → Individual → Shape → Result Rule StepFault
both_rule c x Plain = Err Kind
both_rule c x (BothShape d e) = Ok (adding (Is c x ∷ []) (Is d x ∷ Is e x ∷ []))
both_rule c x (SomeShape r d) = Err Kind
both_rule c x (NotBoth d e) = Err Kind
both_rule c x (NotSome r d) = Err Kind

abbrev pub all_rule : Concept → Individual → Individual → Shape → Result Rule StepFault
all_rule c x y Plain = Err Kind
all_rule c x y (BothShape d e) = Err Kind
all_rule c x y (SomeShape r d) = Err Kind
all_rule c x y (NotBoth d e) = Err Kind
all_rule c x y (NotSome r d) = Ok (adding (Is c x ∷ Joins r x y ∷ []) (Is (complement d) y ∷ []))

abbrev pub some_rule : Concept → Individual → Individual → Shape → Result Rule StepFault
some_rule c x y Plain = Err Kind
some_rule c x y (BothShape d e) = Err Kind
some_rule c x y (SomeShape r d) = Ok (adding_fresh (Is c x ∷ []) (Joins r x y ∷ Is d y ∷ []))
some_rule c x y (NotBoth d e) = Err Kind
some_rule c x y (NotSome r d) = Err Kind

abbrev pub either_rule : Concept → Individual → Shape → Result Rule StepFault
either_rule c x Plain = Err Kind
either_rule c x (BothShape d e) = Err Kind
either_rule c x (SomeShape r d) = Err Kind
either_rule c x (NotBoth d e) = Ok (splitting (Is c x ∷ []) (complement d) (complement e) x)
either_rule c x (NotSome r d) = Err Kind

-- By an inclusion (c, d): c of x needed, d of x added.
abbrev pub include_rule : Individual → Inclusion → Result Rule StepFault
include_rule x i = Ok (adding (Is i.sub x ∷ []) (Is i.sup x ∷ []))

-- Each pair's roles join x and y to its shared value.
abbrev pub sharing : Individual → Individual → List RolePair → List Individual → List Assertion
sharing x y [] zs = []
sharing x y (p ∷ ps) [] = []
sharing x y (p ∷ ps) (z ∷ zs) = Joins p.left x z ∷ Joins p.right y z ∷ sharing x y ps zs

-- By a key, with one shared value for each pair.
abbrev pub key_rule : Individual → Individual → List Individual → KeyRow → Result Rule StepFault
key_rule x y zs (Link c d pairs) =
    cond (length zs == length (pair_list pairs))
    (Ok (adding (Is c x ∷ Is d y ∷ sharing x y (pair_list pairs) zs) (Same x y ∷ [])))
    (Err Kind)
key_rule x y zs (UnlistedKey count) = Err Kind

module _ (m : Meaning) (n : ℕ) where
  abbrev pub shape_in : Bool → Concept → Result Shape StepFault
  shape_in in_range c = entry_shape in_range c (row_at m.entries (entry_number c))

  -- A row of the base, its number looked at first.
  abbrev pub row_in : {X : Type 0} → Bool → Result X RowFault → Result X StepFault
  row_in in_range r = and_then (step_row r) (inside in_range)

  -- The table, on a sheet with n individuals.
  abbrev pub rule : Step → Result Rule StepFault
  rule (Take k) = and_then (row_in true (row_at m.assertions k)) (λ a. Ok (adding [] (a ∷ [])))
  rule (Both c x) = and_then (shape_in (below n x) c) (both_rule c x)
  rule (All c x y) = and_then (shape_in (below n x && below n y) c) (all_rule c x y)
  rule (SomeStep c x) = and_then (shape_in (below n x) c) (some_rule c x (record { 0 = n }))
  rule (Include k x) = and_then (row_in (below n x) (row_at m.inclusions k)) (include_rule x)
  rule (Key k x y zs) = and_then (row_in (below n x && (below n y && all_below n zs.now)) (row_at m.keys k)) (key_rule x y zs.now)
  rule (Either c x) = and_then (shape_in (below n x) c) (either_rule c x)
  rule (Cut c x) = and_then (shape_in (below n x) c) (λ _. Ok (splitting [] c (complement c) x))
  rule (Clash c x) = and_then (shape_in (below n x) c) (λ _. Ok (closing (Is c x ∷ Is (complement c) x ∷ [])))
  rule (Apart x y) = inside (below n x && below n y) (closing (Different x y ∷ Same x y ∷ []))
