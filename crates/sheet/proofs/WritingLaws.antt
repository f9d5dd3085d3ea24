-- Writing what is missing of facts is writing the missing facts, each where there is a place.
use Rattle.std.proofs.Common.{◌≡◌, ℕ, ◌+◌, Bool, true, false, cond, ◌&&◌, ltb, leb, List, [], ◌∷◌, length, Ok, Err, Result, sym, refl, ap, ◌∙◌, ⊎_elim, zero-add, arith}
use Rattle.std.proofs.lemmas.Bool.{cases_Bool, le-leb, lt-ltb}
use Rattle.kb.specs.declared.axioms.Assertion.{Assertion}
use Rattle.kb.specs.Meanings.{Meaning}
use Rattle.ledger.specs.Books.{filled}
use Rattle.calculus.specs.declared.fault.StepFault.{StepFault}
use Rattle.calculus.specs.declared.fault.StepFault.TheVariants.{Full}
use Rattle.calculus.specs.Branches.{held}
use Rattle.calculus.specs.Playing.{Written, free, room, rows_of, write, write_missing}
use Rattle.calculus.specs.States.{Ledgers, branch_of}
use Rattle.calculus.specs.StepLaws.{missing}
use Rattle.table.specs.declared.adds.Adds.{Adds}
use Rattle.table.specs.declared.adds.Adds.TheVariants.{Nothing, Fact, Parts, Reached}
use Rattle.table.specs.FactLists.{adds_of}
use Rattle.sheet.specs.Writing.{can_write, rows_in, write_adds}
use Rattle.calculus.proofs.WriteLaws.{appended-branch, write-appended}

-- one fact more, and how many rows that is
abbrev pub write_one : Assertion → Written → Written
write_one a w = record { ledgers = write a w.ledgers; rows = w.rows + rows_of a }

-- facts in turn, as long as there is a place for the next
abbrev pub write_each : List Assertion → Written → Result Written StepFault
write_each [] w = Ok w
write_each (a ∷ facts) w = cond (room a w.ledgers) (write_each facts (write_one a w)) (Err Full)

module _ (m : Meaning) (n : ℕ) where
  pub write_missing-each : (facts : List Assertion) (w : Written) → write_missing m n facts w ≡ write_each (missing m (branch_of w.ledgers n) facts) w
  write_missing-each [] w = refl
  write_missing-each (a ∷ facts) w =
      ⊎_elim
      (λ h. rw h (write_missing-each facts w))
      (λ h. rw h (⊎_elim
      (λ r. rw r (write_missing-each facts (write_one a w) ∙ ap (λ b. write_each (missing m b facts) (write_one a w)) (appended-branch (a ∷ []) w.ledgers (write a w.ledgers) n (write-appended a w.ledgers r))))
      (λ r. rw r)
      (cases_Bool (room a w.ledgers))))
      (cases_Bool (held m (branch_of w.ledgers n) a))

cond-and : {X : Type 0} (a b : Bool) (x y : X) → cond a (cond b x y) y ≡ cond (a && b) x y
cond-and true b x y = refl
cond-and false b x y = refl

-- two places: one, and one behind it
two-places : {X : Type 0} (x : X) (rows slots : List X) → ltb 0 (length slots) && ltb 0 (length (filled x rows slots).free) ≡ leb 2 (length slots)
two-places x rows [] = refl
two-places x rows (y ∷ []) = refl
two-places x rows (y ∷ z ∷ zs) =
    let first : ltb 0 (length (y ∷ z ∷ zs)) ≡ true = lt-ltb _ _ (omega arith) in
    let second : ltb 0 (length (z ∷ zs)) ≡ true = lt-ltb _ _ (omega arith) in
    let both : leb 2 (length (y ∷ z ∷ zs)) ≡ true = le-leb _ _ (omega arith) in
    rw (first, second, both)

write_each-adds : (a : Adds) (l : Ledgers) → write_each (adds_of a) (record { ledgers = l; rows = 0 }) ≡ cond (can_write a l) (Ok (record { ledgers = write_adds a l; rows = rows_in a })) (Err Full)
write_each-adds Nothing l = refl
write_each-adds (Fact a) l = ap (λ n. cond (room a l) (Ok (record { ledgers = write a l; rows = n })) (Err Full)) (zero-add (rows_of a))
write_each-adds (Parts d e x) l =
    cond-and (free l.concepts) _ _ _
    ∙ ap (λ b. cond b (Ok (record { ledgers = write_adds (Parts d e x) l; rows = 2 })) (Err Full)) (two-places _ l.concepts.rows l.concepts.free)
write_each-adds (Reached r x y d) l = cond-and (free l.roles) (free l.concepts) _ _

-- what is missing of facts, where it is known to be these
pub writeMissing-adds :
    (m : Meaning) (n : ℕ) (facts : List Assertion) (new : Adds) (l : Ledgers) → adds_of new ≡ missing m (branch_of l n) facts
    → write_missing m n facts (record { ledgers = l; rows = 0 }) ≡ cond (can_write new l) (Ok (record { ledgers = write_adds new l; rows = rows_in new })) (Err Full)
writeMissing-adds m n facts new l e =
    write_missing-each m n facts (record { ledgers = l; rows = 0 })
    ∙ ap (λ f. write_each f (record { ledgers = l; rows = 0 })) (sym e)
    ∙ write_each-adds new l
