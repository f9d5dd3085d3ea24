-- What a base is written as, and what is said of one that is not written.
use Rattle.std.specs.Prelude.{◌≡◌, ℕ, ◌<◌, ◌≤◌, true, cond, List, [], ◌∷◌, ◌++◌, length, take, drop, Ok, Err, Result, nat_le}
use Rattle.rows.specs.Rows.{refusal}
use Rattle.kb.specs.declared.counts.Counts.{Counts}
use Rattle.kb.specs.declared.fault.BaseFault.{BaseFault}
use Rattle.kb.specs.Check.{base_fault_numbers, checked_base}
use Rattle.kb.specs.Meanings.{Meaning, counts_of}
use Rattle.casefile.specs.Files.{file_meaning, whole_file}
use Rattle.casewriter.specs.declared.fault.WriteFault.{WriteFault}
use Rattle.casewriter.specs.declared.fault.WriteFault.TheVariants.{Base, Full}
use Rattle.casewriter.specs.Encoding.{case_bytes}

-- The numbers that a write is refused with: those of the base's own refusal; 10, the buffer is too short.
abbrev pub write_fault_numbers : WriteFault → List ℕ
write_fault_numbers (Base f) = base_fault_numbers f
write_fault_numbers Full = 10 ∷ []

-- Bytes written over the front of others.
abbrev pub over : List ℕ → List ℕ → List ℕ
over bytes before = bytes ++ drop (length bytes) before

-- A file of a length goes into a buffer of a length if the base was accepted.
abbrev pub fitted : ℕ → ℕ → Result Counts BaseFault → Result ℕ WriteFault
fitted size room (Ok n) = cond (nat_le size room) (Ok size) (Err Full)
fitted size room (Err f) = Err (Base f)

-- What a write answers: the number of bytes written, or why none is.
abbrev pub write_answer : Meaning → List ℕ → Result ℕ WriteFault
write_answer m before = fitted (length (case_bytes m)) (length before) (checked_base m)

-- What a buffer holds after that answer.
abbrev pub after_answer : Result ℕ WriteFault → List ℕ → List ℕ → List ℕ
after_answer (Ok n) bytes before = over bytes before
after_answer (Err f) bytes before = before

abbrev pub buffer_after : Meaning → List ℕ → List ℕ
buffer_after m before = after_answer (write_answer m before) (case_bytes m) before

-- What a write does, in words. It writes exactly if the base is accepted and the buffer is as long as the file or longer.
-- The bytes that it says it wrote are a whole case file, and read as one they mean the base that was written; what lies
-- behind them stays. It refuses with the numbers of the base's refusal if the base is not accepted, and with 10 exactly if
-- the base is accepted and the buffer is shorter than the file; then the buffer stays as it was.
pub record Written (m : Meaning) (before : List ℕ) (r : Result ℕ WriteFault) (after : List ℕ) : Type 0 where
  pub written : checked_base m ≡ Ok (counts_of m) → length (case_bytes m) ≤ length before → r ≡ Ok (length (case_bytes m))
  pub whole : (n : ℕ) → r ≡ Ok n → whole_file (take n after) ≡ true
  pub reads_back : (n : ℕ) → r ≡ Ok n → file_meaning (take n after) ≡ m
  pub behind : (n : ℕ) → r ≡ Ok n → drop n after ≡ drop n before
  pub refused : (f : BaseFault) → checked_base m ≡ Err f → refusal write_fault_numbers r ≡ base_fault_numbers f
  pub full : checked_base m ≡ Ok (counts_of m) → length before < length (case_bytes m) → refusal write_fault_numbers r ≡ 10 ∷ []
  pub full_only : refusal write_fault_numbers r ≡ 10 ∷ [] → (checked_base m ≡ Ok (counts_of m)) × (length before < length (case_bytes m))
  pub unchanged : (f : WriteFault) → r ≡ Err f → after ≡ before
