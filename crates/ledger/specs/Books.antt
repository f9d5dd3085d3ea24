-- What a ledger holds, and what its calls make of it.
use Rattle.std.specs.Prelude.{◌≡◌, ℕ, ◌+◌, ◌<◌, ◌≤◌, min, List, [], ◌∷◌, ◌++◌, length, take, drop, Ok, Err, Result, slice_set}
use Rattle.rows.specs.Rows.{row_at}
use Rattle.ledger.specs.declared.Ledger.{Ledger}
use Rattle.ledger.specs.declared.fault.LedgerFault.{LedgerFault}
use Rattle.ledger.specs.declared.fault.LedgerFault.TheVariants.{Full}

-- The numbers that a refused append returns: 10, every slot is used.
abbrev pub ledger_fault_numbers : LedgerFault → List ℕ
ledger_fault_numbers Full = 10 ∷ []

-- The whole slice of a ledger in two parts: the rows, and the free slots behind them.
pub record Book (A : Type 0) : Type 0 where
  pub rows : List A
  pub free : List A

module _ {A : Type 0} where
  -- The first `len` slots are the rows: every slot, where `len` passes their number.
  unfoldable pub book : Ledger A → Book A
  book l = record { rows = take l.len l.slots.now; free = drop l.len l.slots.now }

  -- A book says what its ledger's slots and `len` are: the rows and then the free slots are the slots, and there are `len`
  -- rows, no more than there are slots.
  pub record Holds (l : Ledger A) : Type 0 where
    pub slots : (book l).rows ++ (book l).free ≡ l.slots.now
    pub count : length (book l).rows ≡ min l.len (length l.slots.now)

  -- The number of slots.
  abbrev pub size : Book A → ℕ
  size b = length b.rows + length b.free

  -- No row, and every slot free.
  abbrev pub unused : List A → Book A
  unused xs = record { rows = []; free = xs }

  -- The answer to one row more, by the free slots: refused where there is none.
  abbrev pub admitted : List A → Result (Unit {0}) LedgerFault
  admitted [] = Err Full
  admitted (y ∷ ys) = Ok tt

  -- The rows with x behind them, in the first of the free slots; where no slot is free, nothing changes.
  abbrev pub filled : A → List A → List A → Book A
  filled x rows [] = record { rows = rows; free = [] }
  filled x rows (y ∷ ys) = record { rows = rows ++ x ∷ []; free = ys }

  -- One row more.
  abbrev pub push : A → Book A → Book A
  push x b = filled x b.rows b.free

  -- The first n rows; the slots of the others are free, with what stood in them.
  abbrev pub cut : ℕ → Book A → Book A
  cut n b = record { rows = take n b.rows; free = drop n b.rows ++ b.free }

  -- Every slot and `len` are as they were.
  pub record Unchanged (l m : Ledger A) : Type 0 where
    pub slots : m.slots.now ≡ l.slots.now
    pub len : m.len ≡ l.len

  -- An accepted append: slot `len` was free and has the row now, every other slot is as it was, `len` is one more, and the
  -- row stands at the place behind the last row.
  pub record Accepted (x : A) (l m : Ledger A) : Type 0 where
    pub room : l.len < length l.slots.now
    pub slots : m.slots.now ≡ slice_set l.slots.now l.len x
    pub len : m.len ≡ l.len + 1
    pub place : row_at (book m).rows (length (book l).rows) ≡ Ok x

  -- A refused append: no slot was free, the refusal is 10, and nothing changed.
  pub record Refused (f : LedgerFault) (l m : Ledger A) : Type 0 where
    pub full : length l.slots.now ≤ l.len
    pub number : ledger_fault_numbers f ≡ 10 ∷ []
    pub unchanged : Unchanged l m

  -- An append, by its answer.
  abbrev pub Appended : A → Ledger A → Result (Unit {0}) LedgerFault → Ledger A → Type 0
  Appended x l (Ok u) m = Accepted x l m
  Appended x l (Err f) m = Refused f l m

  -- A cut back to n: every slot is as it was, `len` is n where there were more rows than n, and otherwise nothing changed.
  pub record CutBack (n : ℕ) (l m : Ledger A) : Type 0 where
    pub slots : m.slots.now ≡ l.slots.now
    pub more : n < length (book l).rows → m.len ≡ n
    pub others : length (book l).rows ≤ n → Unchanged l m
