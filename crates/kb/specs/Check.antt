-- Which bases are accepted, and what is said of the others.
use Rattle.std.specs.Prelude.{◌≡◌, ℕ, ◌<◌, Bool, true, false, cond, ◌&&◌, List, [], ◌∷◌, Some, None, Ok, Err, Option, Result, nat_le}
use Rattle.rows.specs.declared.fault.RowFault.{RowFault}
use Rattle.rows.specs.Rows.{row_at, refusal}
use Rattle.kb.specs.declared.counts.Counts.{Counts}
use Rattle.kb.specs.declared.fault.BaseFault.{BaseFault}
use Rattle.kb.specs.declared.fault.BaseFault.TheVariants.{Size, Row}
use Rattle.kb.specs.declared.fault.RowList.{RowList}
use Rattle.kb.specs.declared.fault.RowList.TheVariants.{Entries, Assertions, Inclusions, Keys}
use Rattle.kb.specs.First.{first_failing}
use Rattle.kb.specs.Meanings.{Meaning, counts_of}
use Rattle.kb.specs.Range.{entry_in_range, assertion_in_range, inclusion_in_range, key_in_range}

-- The lists in the order in which they are checked.
abbrev pub list_number : RowList → ℕ
list_number Entries = 0
list_number Assertions = 1
list_number Inclusions = 2
list_number Keys = 3

-- The numbers that a base is refused with: 4, size not accepted; 2, list, row: row out of range.
abbrev pub base_fault_numbers : BaseFault → List ℕ
base_fault_numbers Size = 4 ∷ []
base_fault_numbers (Row list n) = 2 ∷ list_number list ∷ n ∷ []

-- 1 to 512 entries, 1 to 64 roles, 1 to 512 individuals, at most 1,024 assertions, 256 inclusions and 32 keys.
abbrev pub sizes_accepted : Counts → Bool
sizes_accepted n =
    nat_le 1 n.entries && (nat_le n.entries 512
    && (nat_le 1 n.roles && (nat_le n.roles 64
    && (nat_le 1 n.individuals && (nat_le n.individuals 512
    && (nat_le n.assertions 1024 && (nat_le n.inclusions 256 && nat_le n.keys 32)))))))

-- How many rows a list has.
abbrev pub count_of : Counts → RowList → ℕ
count_of n Entries = n.entries
count_of n Assertions = n.assertions
count_of n Inclusions = n.inclusions
count_of n Keys = n.keys

-- A row that was asked for is there and passes a test.
abbrev pub there_and : {X : Type 0} → (X → Bool) → Result X RowFault → Bool
there_and test (Ok x) = test x
there_and test (Err f) = false

-- Row k of a list passes a test that may look at the row's number.
abbrev pub row_passes : {X : Type 0} → (ℕ → X → Bool) → List X → ℕ → Bool
row_passes test xs k = there_and (test k) (row_at xs k)

-- Row k of a list is there and in range, measured by given counts.
abbrev pub row_in_range : Counts → Meaning → RowList → ℕ → Bool
row_in_range n m Entries = row_passes (entry_in_range n) m.entries
row_in_range n m Assertions = row_passes (λ _. assertion_in_range n) m.assertions
row_in_range n m Inclusions = row_passes (λ _. inclusion_in_range n) m.inclusions
row_in_range n m Keys = row_passes (λ _. key_in_range n) m.keys

-- The first row of a list that is out of range refuses the base.
abbrev pub refused_at : RowList → Option ℕ → Result (Unit {0}) BaseFault
refused_at list None = Ok tt
refused_at list (Some k) = Err (Row list k)

abbrev pub checked_list : Counts → Meaning → RowList → Result (Unit {0}) BaseFault
checked_list n m list = refused_at list (first_failing (row_in_range n m list) (count_of n list))

-- What comes after an answer, unless it refuses.
abbrev pub and_then : {X Y E : Type 0} → Result X E → Result Y E → Result Y E
and_then (Ok x) next = next
and_then (Err e) next = Err e

-- The lists are checked one after the other.
abbrev pub checked_rows : Counts → Meaning → Result Counts BaseFault
checked_rows n m =
    and_then (checked_list n m Entries) (and_then (checked_list n m Assertions) (and_then (checked_list n m Inclusions) (and_then (checked_list n m Keys) (Ok n))))

-- What is said of a base: the sizes first, then the rows.
abbrev pub checked_base : Meaning → Result Counts BaseFault
checked_base m = cond (sizes_accepted (counts_of m)) (checked_rows (counts_of m) m) (Err Size)

-- Every row of a list is in range.
abbrev pub ListInRange : Meaning → RowList → Type 0
ListInRange m list = (k : ℕ) → k < count_of (counts_of m) list → row_in_range (counts_of m) m list k ≡ true

-- Every row of a base is in range: the lexicon, and the other lists. It is said of any base, also of one without individuals.
pub record InRange (m : Meaning) : Type 0 where
  pub entries : ListInRange m Entries
  pub assertions : ListInRange m Assertions
  pub inclusions : ListInRange m Inclusions
  pub keys : ListInRange m Keys

-- Row k of a list is the first that is out of range: it is one, and no row before it is, in this list and in those before.
pub record FirstOutOfRange (m : Meaning) (list : RowList) (k : ℕ) : Type 0 where
  pub there : k < count_of (counts_of m) list
  pub out : row_in_range (counts_of m) m list k ≡ false
  pub rows_before : (j : ℕ) → j < k → row_in_range (counts_of m) m list j ≡ true
  pub lists_before : (other : RowList) → list_number other < list_number list → ListInRange m other

-- What an answer says of a base, in words. It gives the counts exactly if the sizes are accepted and every row is in
-- range; it is 4 exactly if the sizes are not accepted; it is 2 with a list and a row exactly if they are, and that row
-- is the first out of range.
pub record Checked (m : Meaning) (r : Result Counts BaseFault) : Type 0 where
  pub accepted : sizes_accepted (counts_of m) ≡ true → InRange m → r ≡ Ok (counts_of m)
  pub accepts : (n : Counts) → r ≡ Ok n → (n ≡ counts_of m) × (sizes_accepted (counts_of m) ≡ true) × InRange m
  pub size : sizes_accepted (counts_of m) ≡ false → refusal base_fault_numbers r ≡ 4 ∷ []
  pub size_only : refusal base_fault_numbers r ≡ 4 ∷ [] → sizes_accepted (counts_of m) ≡ false
  pub row : (list : RowList) (k : ℕ) → sizes_accepted (counts_of m) ≡ true → FirstOutOfRange m list k → refusal base_fault_numbers r ≡ 2 ∷ list_number list ∷ k ∷ []
  pub row_only : (list : RowList) (k : ℕ) → refusal base_fault_numbers r ≡ 2 ∷ list_number list ∷ k ∷ [] → (sizes_accepted (counts_of m) ≡ true) × FirstOutOfRange m list k
