-- Writing what a rule adds, of which nothing is held: whether there is a place for each fact, what the ledgers are then, and how
-- many rows that is.
use Rattle.std.specs.Prelude.{ℕ, Bool, true, false, cond, ◌&&◌, ◌||◌, List, length, Ok, Err, Option, Result, nat_le}
use Rattle.std.specs.List.{list_all}
use Rattle.kb.specs.declared.axioms.Assertion.{Assertion}
use Rattle.kb.specs.declared.axioms.Assertion.TheVariants.{Is, Joins}
use Rattle.kb.specs.Meanings.{Meaning}
use Rattle.calculus.specs.declared.fault.StepFault.{StepFault}
use Rattle.calculus.specs.declared.fault.StepFault.TheVariants.{Premise, Full}
use Rattle.calculus.specs.declared.row_kinds.ConceptRow.{ConceptRow}
use Rattle.calculus.specs.declared.row_kinds.PendingRow.{PendingRow}
use Rattle.calculus.specs.Playing.{Played, Written, accepted, cut_to, free, individuals_after, note, noteable, room, rows_of, write}
use Rattle.calculus.specs.Branches.{Branch, held}
use Rattle.calculus.specs.States.{Ledgers, State}
use Rattle.calculus.specs.StepLaws.{missing}
use Rattle.calculus.specs.Table.{Rule}
use Rattle.lookup.specs.Views.{branch_over}
use Rattle.table.specs.FactLists.{adds_of}
use Rattle.table.specs.declared.adds.Adds.{Adds}
use Rattle.table.specs.declared.adds.Adds.TheVariants.{Nothing, Fact, Parts, Reached}

abbrev pub can_write : Adds → Ledgers → Bool
can_write Nothing l = true
can_write (Fact a) l = room a l
can_write (Parts d e x) l = nat_le 2 (length l.concepts.free)
can_write (Reached r x y d) l = free l.roles && free l.concepts

abbrev pub write_adds : Adds → Ledgers → Ledgers
write_adds Nothing l = l
write_adds (Fact a) l = write a l
write_adds (Parts d e x) l = write (Is e x) (write (Is d x) l)
write_adds (Reached r x y d) l = write (Is d y) (write (Joins r x y) l)

abbrev pub rows_in : Adds → ℕ
rows_in Nothing = 0
rows_in (Fact a) = rows_of a
rows_in (Parts d e x) = 2
rows_in (Reached r x y d) = 2

-- An accepted or refused step that writes facts of which nothing is held, after it has noted the right side of a split: with so
-- many individuals afterwards, or by whether there is one individual more.
abbrev pub extend_to : State → ℕ → Option ConceptRow → Adds → Result Played StepFault
extend_to s after split new =
    cond (nat_le after 1024 && (noteable split s.ledgers && can_write new s.ledgers))
    (Ok (accepted s.numbers after false (record { ledgers = write_adds new (note split s.numbers.individuals s.ledgers); rows = rows_in new })))
    (Err Full)

abbrev pub extend_by : State → Bool → Option ConceptRow → Adds → Result Played StepFault
extend_by s fresh split new = extend_to s (individuals_after fresh s.numbers.individuals) split new

-- A right side is taken up: the ledgers are cut back to what it notes, and it is written unless it is held there.
abbrev pub side_written : PendingRow → Bool → Ledgers → Written
side_written p true l = record { ledgers = cut_to p l; rows = 0 }
side_written p false l = record { ledgers = write (Is p.side.concept p.side.individual) (cut_to p l); rows = 1 }

abbrev pub take_up_by : State → PendingRow → Bool → Result Played StepFault
take_up_by s p is_held =
    cond (is_held || free (cut_to p s.ledgers).concepts)
    (Ok (accepted s.numbers p.individuals false (side_written p is_held s.ledgers)))
    (Err Full)

-- The branch that a view of the rows in ledgers shows, with so many numbers lent for heads.
abbrev pub rows_shown : ℕ → Ledgers → Branch
rows_shown n l = branch_over n l.concepts.rows l.roles.rows l.pairs.rows

-- What the rows of a branch say of a rule: 9 unless every need is held, else which of its facts are missing.
abbrev pub looked_up : Meaning → Branch → Rule → Result (List Assertion) StepFault
looked_up m b q = cond (list_all (held m b) q.needs) (Ok (missing m b q.adds)) (Err Premise)

abbrev pub adds_as : Result Adds StepFault → Result (List Assertion) StepFault
adds_as (Ok a) = Ok (adds_of a)
adds_as (Err f) = Err f
