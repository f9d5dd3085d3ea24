-- Opening a sheet, and playing a step on it.
use Rattle.std.specs.Prelude.{ℕ, ◌+◌, ◌-◌, Bool, true, false, cond, ◌&&◌, List, [], ◌∷◌, length, Some, None, Ok, Err, Option, Result, nat_le, nat_lt}
use Rattle.std.specs.List.{list_all}
use Rattle.kb.specs.declared.axioms.Assertion.{Assertion}
use Rattle.kb.specs.declared.axioms.Assertion.TheVariants.{Is, Joins, Same, Different, Unlisted}
use Rattle.kb.specs.Meanings.{Meaning, counts_of}
use Rattle.ledger.specs.Books.{Book, push, cut}
use Rattle.calculus.specs.declared.fault.StepFault.{StepFault}
use Rattle.calculus.specs.declared.fault.StepFault.TheVariants.{Changed, Closed, Premise, Full}
use Rattle.calculus.specs.declared.row_kinds.ConceptRow.{ConceptRow}
use Rattle.calculus.specs.declared.row_kinds.PairRow.TheVariants.{Same as SameRow, Different as DifferentRow}
use Rattle.calculus.specs.declared.row_kinds.PendingRow.{PendingRow}
use Rattle.calculus.specs.declared.step.Step.{Step}
use Rattle.calculus.specs.Branches.{held}
use Rattle.calculus.specs.States.{Ledgers, Numbers, State, branch_of, branch, row_counts, sizes_of, fits}
use Rattle.calculus.specs.Table.{Rule, rule, and_then}

-- Ledgers without rows.
abbrev pub emptied : Ledgers → Ledgers
emptied l = record { concepts = cut 0 l.concepts; roles = cut 0 l.roles; pairs = cut 0 l.pairs; pending = cut 0 l.pending }

-- An opened sheet: its ledgers are emptied, its individuals are the base's, and no step was made.
abbrev pub opened : Meaning → Ledgers → State
opened m l =
    record {
      ledgers = emptied l;
      numbers = record {
        base = counts_of m;
        sizes = sizes_of l;
        rows = row_counts (emptied l);
        individuals = m.individuals;
        steps = 0;
        closed = false;
      };
    }

-- A free place in a ledger.
abbrev pub free : {A : Type 0} → Book A → Bool
free b = nat_lt 0 (length b.free)

-- There is a place for a fact.
abbrev pub room : Assertion → Ledgers → Bool
room (Is c x) l = free l.concepts
room (Joins r x y) l = free l.roles
room (Same x y) l = free l.pairs
room (Different x y) l = free l.pairs
room (Unlisted kind) l = true

-- A fact behind the rows of its ledger. An unlisted assertion is no row.
abbrev pub write : Assertion → Ledgers → Ledgers
write (Is c x) l = record { concepts = push (record { concept = c; individual = x }) l.concepts; roles = l.roles; pairs = l.pairs; pending = l.pending }
write (Joins r x y) l = record { concepts = l.concepts; roles = push (record { role = r; from = x; to = y }) l.roles; pairs = l.pairs; pending = l.pending }
write (Same x y) l = record { concepts = l.concepts; roles = l.roles; pairs = push (SameRow x y) l.pairs; pending = l.pending }
write (Different x y) l = record { concepts = l.concepts; roles = l.roles; pairs = push (DifferentRow x y) l.pairs; pending = l.pending }
write (Unlisted kind) l = l

-- How many rows that is.
abbrev pub rows_of : Assertion → ℕ
rows_of (Is c x) = 1
rows_of (Joins r x y) = 1
rows_of (Same x y) = 1
rows_of (Different x y) = 1
rows_of (Unlisted kind) = 0

-- Ledgers, and how many rows were written into them.
pub record Written : Type 0 where
  pub ledgers : Ledgers
  pub rows : ℕ

-- Facts are written one after the other, each unless it is held by then; without a place for one there is no answer but full.
abbrev pub write_missing : Meaning → ℕ → List Assertion → Written → Result Written StepFault
write_missing m n [] w = Ok w
write_missing m n (a ∷ facts) w =
    cond (held m (branch_of w.ledgers n) a)
    (write_missing m n facts w)
    (cond (room a w.ledgers)
    (write_missing m n facts (record { ledgers = write a w.ledgers; rows = w.rows + rows_of a }))
    (Err Full))

-- The right side of a split, noted with all lengths before the step.
abbrev pub note : Option ConceptRow → ℕ → Ledgers → Ledgers
note None n l = l
note (Some side) n l =
    record {
      concepts = l.concepts;
      roles = l.roles;
      pairs = l.pairs;
      pending =
          push
          (record { side = side; concepts = length l.concepts.rows; roles = length l.roles.rows; pairs = length l.pairs.rows; individuals = n })
          l.pending;
    }

-- A split needs a place for its right side, and a free concept row even if its left side is held.
abbrev pub noteable : Option ConceptRow → Ledgers → Bool
noteable None l = true
noteable (Some side) l = free l.pending && free l.concepts

-- What an accepted step leaves, and how many rows it wrote outside the pending ledger.
pub record Played : Type 0 where
  pub state : State
  pub rows : ℕ

abbrev pub accepted : Numbers → ℕ → Bool → Written → Played
accepted k n closed w =
    record {
      state = record {
        ledgers = w.ledgers;
        numbers = record { base = k.base; sizes = k.sizes; rows = row_counts w.ledgers; individuals = n; steps = k.steps + 1; closed = closed };
      };
      rows = w.rows;
    }

-- At most 1,024 individuals.
abbrev pub individuals_after : Bool → ℕ → ℕ
individuals_after fresh n = cond fresh (n + 1) n

-- A rule that does not close: note the right side, then write what is missing.
abbrev pub extend : Meaning → State → Rule → Result Played StepFault
extend m s r =
    let n = s.numbers.individuals in
    let after = individuals_after r.fresh n in
    cond (nat_le after 1024 && noteable r.split s.ledgers)
    (and_then (write_missing m after r.adds (record { ledgers = note r.split n s.ledgers; rows = 0 })) (λ w. Ok (accepted s.numbers after false w)))
    (Err Full)

-- The last row of a ledger.
abbrev pub last_of : {A : Type 0} → List A → Option A
last_of [] = None
last_of (x ∷ []) = Some x
last_of (x ∷ y ∷ ys) = last_of (y ∷ ys)

-- The ledgers as they were when a right side was noted.
abbrev pub cut_to : PendingRow → Ledgers → Ledgers
cut_to p l =
    record {
      concepts = cut p.concepts l.concepts;
      roles = cut p.roles l.roles;
      pairs = cut p.pairs l.pairs;
      pending = cut (length l.pending.rows - 1) l.pending;
    }

-- A branch ends. The last right side that is pending is taken up: what came after it was noted is cut, and the right side
-- is written unless it is held. With none pending, the sheet is closed.
abbrev pub close : Meaning → State → Option PendingRow → Result Played StepFault
close m s None = Ok (accepted s.numbers s.numbers.individuals true (record { ledgers = s.ledgers; rows = 0 }))
close m s (Some p) =
    and_then
    (write_missing m p.individuals (Is p.side.concept p.side.individual ∷ []) (record { ledgers = cut_to p s.ledgers; rows = 0 }))
    (λ w. Ok (accepted s.numbers p.individuals false w))

-- A rule whose numbers are in range: 9 unless every need is held; 10 after 1,000,000 steps, or without a place.
abbrev pub perform : Meaning → State → Rule → Result Played StepFault
perform m s r =
    cond (list_all (held m (branch s)) r.needs)
    (cond (nat_lt s.numbers.steps 1000000)
    (cond r.closes (close m s (last_of s.ledgers.pending.rows)) (extend m s r))
    (Err Full))
    (Err Premise)

-- What is looked at before the table: 5 for a base or rows that are not the sheet's, 10 for a scratch of fewer than 1,024
-- numbers, 6 on a closed sheet.
abbrev pub ready : Meaning → ℕ → State → Result (Unit {0}) StepFault
ready m scratch s =
    cond (fits m s) (cond (nat_le 1024 scratch) (cond s.numbers.closed (Err Closed) (Ok tt)) (Err Full)) (Err Changed)

-- A step on a sheet, with a scratch of a given length.
abbrev pub play : Meaning → ℕ → Step → State → Result Played StepFault
play m scratch step s =
    and_then (ready m scratch s) (λ _. and_then (rule m s.numbers.individuals step) (perform m s))

-- What a call answers, and what it leaves: a refusal leaves the state as it was.
abbrev pub answer : Result Played StepFault → Result ℕ StepFault
answer (Ok p) = Ok p.rows
answer (Err f) = Err f

abbrev pub left : State → Result Played StepFault → State
left s (Ok p) = p.state
left s (Err f) = s
