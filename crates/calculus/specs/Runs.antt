-- Opening a sheet over a base, and what is reached from there.
use Rattle.std.specs.Prelude.{◌≡◌, ℕ, Bool, cond, ◌&&◌, Ok, Err, Result, nat_le}
use Rattle.kb.specs.declared.fault.BaseFault.{BaseFault}
use Rattle.kb.specs.declared.fault.BaseFault.TheVariants.{Size}
use Rattle.kb.specs.Check.{checked_rows, sizes_accepted}
use Rattle.kb.specs.Meanings.{Meaning, counts_of}
use Rattle.calculus.specs.declared.lengths.Lengths.{Lengths}
use Rattle.calculus.specs.declared.step.Step.{Step}
use Rattle.calculus.specs.Playing.{left, opened, play}
use Rattle.calculus.specs.States.{Ledgers, State, sizes_of}
use Rattle.calculus.specs.Table.{and_then}

-- A ledger has at most 8,192 places.
abbrev pub lengths_accepted : Lengths → Bool
lengths_accepted n = nat_le n.concepts 8192 && (nat_le n.roles 8192 && (nat_le n.pairs 8192 && nat_le n.pending 8192))

-- Opening: 4 for a count or a ledger that is not accepted, then 2 with list and row for the first row out of range; else
-- the ledgers are emptied and the sheet begins.
abbrev pub opening : Meaning → Ledgers → Result State BaseFault
opening m l =
    cond (sizes_accepted (counts_of m) && lengths_accepted (sizes_of l))
    (and_then (checked_rows (counts_of m) m) (λ _. Ok (opened m l)))
    (Err Size)

-- What is reached over a base: an accepted opening in ledgers of any content, then any steps, accepted or refused, each
-- with a scratch of its own length. A refused step and a review change nothing.
pub data Run (m : Meaning) : State → Type 0 where
  start : {s : State} (l : Ledgers) → opening m l ≡ Ok s → Run m s
  step : {s : State} → Run m s → (scratch : ℕ) (t : Step) → Run m (left s (play m scratch t s))
