-- The law of playing a step: when it is refused and with what, when it is accepted, and what an accepted step leaves.
use Rattle.std.specs.Prelude.{◌≡◌, ℕ, ◌+◌, ◌<◌, ◌≤◌, Bool, true, false, cond, ◌⊎◌, ◌↔◌, List, [], ◌∷◌, ◌++◌, length, take, Some, None, Ok, Err}
use Rattle.rows.specs.Rows.{row_at}
use Rattle.kb.specs.declared.axioms.Assertion.{Assertion}
use Rattle.kb.specs.declared.axioms.Assertion.TheVariants.{Is, Joins, Same, Different, Unlisted}
use Rattle.kb.specs.Meanings.{Meaning}
use Rattle.ledger.specs.Books.{Book}
use Rattle.calculus.specs.declared.fault.StepFault.{StepFault}
use Rattle.calculus.specs.declared.fault.StepFault.TheVariants.{Changed, Closed, Premise, Full}
use Rattle.calculus.specs.declared.row_kinds.ConceptRow.{ConceptRow}
use Rattle.calculus.specs.declared.row_kinds.PairRow.{PairRow}
use Rattle.calculus.specs.declared.row_kinds.PairRow.TheVariants.{Same as SameRow, Different as DifferentRow}
use Rattle.calculus.specs.declared.row_kinds.PendingRow.{PendingRow}
use Rattle.calculus.specs.declared.row_kinds.RoleRow.{RoleRow}
use Rattle.calculus.specs.declared.step.Step.{Step}
use Rattle.calculus.specs.Branches.{Branch, held}
use Rattle.calculus.specs.Playing.{Played, individuals_after, left, play}
use Rattle.calculus.specs.States.{State, branch, branch_of, fits, row_counts, sizes_of}
use Rattle.calculus.specs.Table.{Rule, rule}

-- An item stands in a list.
abbrev pub Among : {A : Type 0} → A → List A → Type 0
Among x xs = (n : ℕ) × (row_at xs n ≡ Ok x)

-- Facts as rows, by kind. An unlisted assertion is no row.
abbrev pub concept_rows : List Assertion → List ConceptRow
concept_rows [] = []
concept_rows (Is c x ∷ facts) = record { concept = c; individual = x } ∷ concept_rows facts
concept_rows (Joins r x y ∷ facts) = concept_rows facts
concept_rows (Same x y ∷ facts) = concept_rows facts
concept_rows (Different x y ∷ facts) = concept_rows facts
concept_rows (Unlisted kind ∷ facts) = concept_rows facts

abbrev pub role_rows : List Assertion → List RoleRow
role_rows [] = []
role_rows (Is c x ∷ facts) = role_rows facts
role_rows (Joins r x y ∷ facts) = record { role = r; from = x; to = y } ∷ role_rows facts
role_rows (Same x y ∷ facts) = role_rows facts
role_rows (Different x y ∷ facts) = role_rows facts
role_rows (Unlisted kind ∷ facts) = role_rows facts

abbrev pub pair_rows : List Assertion → List PairRow
pair_rows [] = []
pair_rows (Is c x ∷ facts) = pair_rows facts
pair_rows (Joins r x y ∷ facts) = pair_rows facts
pair_rows (Same x y ∷ facts) = SameRow x y ∷ pair_rows facts
pair_rows (Different x y ∷ facts) = DifferentRow x y ∷ pair_rows facts
pair_rows (Unlisted kind ∷ facts) = pair_rows facts

-- Every other assertion is.
abbrev pub listed : Assertion → Bool
listed (Is c x) = true
listed (Joins r x y) = true
listed (Same x y) = true
listed (Different x y) = true
listed (Unlisted kind) = false

-- A branch with facts behind its rows.
abbrev pub appended : List Assertion → Branch → Branch
appended facts b =
    record {
      concepts = b.concepts ++ concept_rows facts;
      roles = b.roles ++ role_rows facts;
      pairs = b.pairs ++ pair_rows facts;
      individuals = b.individuals;
    }

-- Of facts, those that are missing when their turn comes: not held on the branch with the missing ones before it appended.
abbrev pub missing : Meaning → Branch → List Assertion → List Assertion
missing m b [] = []
missing m b (a ∷ facts) = cond (held m b a) (missing m b facts) (a ∷ missing m (appended (a ∷ []) b) facts)

-- Nothing refuses a step before the table is asked: the base and the rows are the sheet's, the scratch suffices, and the
-- sheet is not closed.
pub record Ready (m : Meaning) (scratch : ℕ) (s : State) : Type 0 where
  pub unchanged : fits m s ≡ true
  pub long : 1024 ≤ scratch
  pub unclosed : s.numbers.closed ≡ false

-- Every need of a rule is held; some need of it is not.
abbrev pub NeedsHeld : Meaning → State → Rule → Type 0
NeedsHeld m s q = (a : Assertion) → Among a q.needs → held m (branch s) a ≡ true

abbrev pub NeedMissing : Meaning → State → Rule → Type 0
NeedMissing m s q = (a : Assertion) × Among a q.needs × (held m (branch s) a ≡ false)

-- The branch that a rule writes on: a fresh rule's new individual is there.
abbrev pub entered : State → Rule → Branch
entered s q = branch_of s.ledgers (individuals_after q.fresh s.numbers.individuals)

-- The facts that a rule writes: those of its adds that are missing.
abbrev pub written : Meaning → State → Rule → List Assertion
written m s q = missing m (entered s q) q.adds

-- A free place in a ledger.
abbrev pub Free : {A : Type 0} → Book A → Type 0
Free b = 0 < length b.free

-- Room for a rule that does not close: at most 1,024 individuals, a pending and a concept place for a split, and a place for
-- each fact that is missing.
pub record RoomToExtend (m : Meaning) (s : State) (q : Rule) : Type 0 where
  pub individuals : individuals_after q.fresh s.numbers.individuals ≤ 1024
  pub split : (side : ConceptRow) → q.split ≡ Some side → Free s.ledgers.pending × Free s.ledgers.concepts
  pub concepts : length (concept_rows (written m s q)) ≤ length s.ledgers.concepts.free
  pub roles : length (role_rows (written m s q)) ≤ length s.ledgers.roles.free
  pub pairs : length (pair_rows (written m s q)) ≤ length s.ledgers.pairs.free

-- The branch as it was when a right side was noted, and the right side as a fact.
abbrev pub cut_back : State → PendingRow → Branch
cut_back s d =
    record {
      concepts = take d.concepts s.ledgers.concepts.rows;
      roles = take d.roles s.ledgers.roles.rows;
      pairs = take d.pairs s.ledgers.pairs.rows;
      individuals = d.individuals;
    }

abbrev pub side_of : PendingRow → Assertion
side_of d = Is d.side.concept d.side.individual

-- Room for a rule that closes: the last right side, if one is pending, is held on the branch cut back, or has a concept
-- place, one that the cut frees or a free one.
abbrev pub RoomToTakeUp : Meaning → State → Type 0
RoomToTakeUp m s =
    (earlier : List PendingRow) (d : PendingRow) → s.ledgers.pending.rows ≡ earlier ++ d ∷ []
    → (held m (cut_back s d) (side_of d) ≡ true) ⊎ ((d.concepts < length s.ledgers.concepts.rows) ⊎ Free s.ledgers.concepts)

-- After any accepted step: one step more; base and sizes as remembered, and every ledger as large as it was; the rows
-- remembered are those that there are.
pub record Counted (s : State) (p : Played) : Type 0 where
  pub steps : p.state.numbers.steps ≡ s.numbers.steps + 1
  pub base : p.state.numbers.base ≡ s.numbers.base
  pub sizes : p.state.numbers.sizes ≡ s.numbers.sizes
  pub places : sizes_of p.state.ledgers ≡ sizes_of s.ledgers
  pub rows : p.state.numbers.rows ≡ row_counts p.state.ledgers

-- What a rule that does not close leaves.
pub record Extended (m : Meaning) (s : State) (q : Rule) (p : Played) : Type 0 where
  -- the rows before, and behind them what is written; so many rows are answered
  pub concepts : p.state.ledgers.concepts.rows ≡ s.ledgers.concepts.rows ++ concept_rows (written m s q)
  pub roles : p.state.ledgers.roles.rows ≡ s.ledgers.roles.rows ++ role_rows (written m s q)
  pub pairs : p.state.ledgers.pairs.rows ≡ s.ledgers.pairs.rows ++ pair_rows (written m s q)
  pub answered :
      p.rows ≡ length (concept_rows (written m s q)) + (length (role_rows (written m s q)) + length (pair_rows (written m s q)))
  -- what is written is one of the adds, and was not held just before; every add is held afterwards
  pub adds : (a : Assertion) → Among a (written m s q) → Among a q.adds
  pub absent :
      (earlier later : List Assertion) (a : Assertion) → written m s q ≡ earlier ++ a ∷ later → held m (appended earlier (entered s q)) a ≡ false
  pub present : (a : Assertion) → Among a q.adds → listed a ≡ true → held m (branch p.state) a ≡ true
  -- a split's right side is pending, with the lengths before the step
  pub unsplit : q.split ≡ None → p.state.ledgers.pending.rows ≡ s.ledgers.pending.rows
  pub split :
      (side : ConceptRow) → q.split ≡ Some side
      → p.state.ledgers.pending.rows
      ≡ s.ledgers.pending.rows
      ++ record {
        side = side;
        concepts = length s.ledgers.concepts.rows;
        roles = length s.ledgers.roles.rows;
        pairs = length s.ledgers.pairs.rows;
        individuals = s.numbers.individuals;
      }
      ∷ []
  -- one individual more by a fresh rule; the sheet stays open
  pub fresh : q.fresh ≡ true → p.state.numbers.individuals ≡ s.numbers.individuals + 1
  pub known : q.fresh ≡ false → p.state.numbers.individuals ≡ s.numbers.individuals
  pub unclosed : p.state.numbers.closed ≡ false

-- With no right side pending the sheet is closed, and nothing else changes.
pub record ClosedSheet (s : State) (p : Played) : Type 0 where
  pub closed : p.state.numbers.closed ≡ true
  pub ledgers : p.state.ledgers ≡ s.ledgers
  pub individuals : p.state.numbers.individuals ≡ s.numbers.individuals
  pub answered : p.rows ≡ 0

-- With a right side d pending behind earlier ones, the rows and the individuals are those of the branch cut back to d (so no
-- same row outlives the branch that it was written on), and d's side stands behind the concept rows unless it is held there.
pub record TakenUp (m : Meaning) (s : State) (earlier : List PendingRow) (d : PendingRow) (p : Played) : Type 0 where
  pub standing :
      held m (cut_back s d) (side_of d) ≡ true → (p.state.ledgers.concepts.rows ≡ take d.concepts s.ledgers.concepts.rows) × (p.rows ≡ 0)
  pub missing :
      held m (cut_back s d) (side_of d) ≡ false
      → (p.state.ledgers.concepts.rows ≡ take d.concepts s.ledgers.concepts.rows ++ d.side ∷ []) × (p.rows ≡ 1)
  pub roles : p.state.ledgers.roles.rows ≡ take d.roles s.ledgers.roles.rows
  pub pairs : p.state.ledgers.pairs.rows ≡ take d.pairs s.ledgers.pairs.rows
  pub pending : p.state.ledgers.pending.rows ≡ earlier
  pub individuals : p.state.numbers.individuals ≡ d.individuals
  pub unclosed : p.state.numbers.closed ≡ false

-- A step t on a sheet s over a base m, with a scratch of a given length.
module _ (m : Meaning) (scratch : ℕ) (t : Step) (s : State) where
  -- The step is refused with a fault; it is accepted; a rule is its line of the table, or the table refuses it.
  abbrev pub Refused : StepFault → Type 0
  Refused f = play m scratch t s ≡ Err f

  abbrev pub Accepted : Played → Type 0
  Accepted p = play m scratch t s ≡ Ok p

  abbrev pub Line : Rule → Type 0
  Line q = rule m s.numbers.individuals t ≡ Ok q

  abbrev pub NoLine : StepFault → Type 0
  NoLine f = rule m s.numbers.individuals t ≡ Err f

  -- The order of refusals.
  pub record RefusedInOrder : Type 0 where
    -- 5 exactly if the base or the rows are not the sheet's
    pub changed : Refused Changed ↔ (fits m s ≡ false)
    -- otherwise 10 with a scratch of fewer than 1,024 numbers
    pub short : fits m s ≡ true → scratch < 1024 → Refused Full
    -- otherwise 6 exactly if the sheet is closed
    pub closed : Refused Closed ↔ ((fits m s ≡ true) × (1024 ≤ scratch) × (s.numbers.closed ≡ true))
    -- otherwise 7 or 8, as the table says
    pub table : Ready m scratch s → (f : StepFault) → NoLine f → Refused f
    -- otherwise 9 exactly if some need is not held
    pub premise : Refused Premise ↔ (Ready m scratch s × ((q : Rule) × Line q × NeedMissing m s q))
    -- otherwise 10, or the step is accepted
    pub otherwise : Ready m scratch s → (q : Rule) → Line q → NeedsHeld m s q → Refused Full ⊎ ((p : Played) × Accepted p)

  -- What makes a step acceptable by a line of the table: nothing refuses it before, its needs are held, fewer than 1,000,000
  -- steps were made, and there is room.
  pub record Acceptable (q : Rule) : Type 0 where
    pub ready : Ready m scratch s
    pub table : Line q
    pub needs : NeedsHeld m s q
    pub steps : s.numbers.steps < 1000000
    pub extending : q.closes ≡ false → RoomToExtend m s q
    pub closing : q.closes ≡ true → RoomToTakeUp m s

  -- A step is accepted exactly if it is acceptable; it is counted, and extends the branch unless its rule closes.
  pub record AcceptedStep : Type 0 where
    pub exactly : ((p : Played) × Accepted p) ↔ ((q : Rule) × Acceptable q)
    pub counted : (p : Played) → Accepted p → Counted s p
    pub extended : (p : Played) (q : Rule) → Accepted p → Line q → q.closes ≡ false → Extended m s q p

  -- A rule that closes ends the branch: with no right side pending the sheet is closed, else the last is taken up.
  pub record ClosedBranch : Type 0 where
    pub sheet : (p : Played) (q : Rule) → Accepted p → Line q → q.closes ≡ true → s.ledgers.pending.rows ≡ [] → ClosedSheet s p
    pub taken :
        (p : Played) (q : Rule) → Accepted p → Line q → q.closes ≡ true → (earlier : List PendingRow) (d : PendingRow)
        → s.ledgers.pending.rows ≡ earlier ++ d ∷ [] → TakenUp m s earlier d p

  -- The law of a step: the order of refusals, that a refused step changes nothing, and what an accepted step is and leaves.
  pub record StepLaw : Type 0 where
    pub refused : RefusedInOrder
    pub nothing : (f : StepFault) → Refused f → left s (play m scratch t s) ≡ s
    pub accepted : AcceptedStep
    pub closed : ClosedBranch

abbrev pub StepsArePlayed : Type 0
StepsArePlayed = (m : Meaning) (scratch : ℕ) (t : Step) (s : State) → StepLaw m scratch t s
