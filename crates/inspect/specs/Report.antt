-- What is printed of a case file: all that it holds, and last whether it is accepted.
use Rattle.std.specs.Prelude.{ℕ, List, ◌++◌, Ok, Err, codes, decimal, Result, slice_index}
use Rattle.kb.specs.declared.counts.Counts.{Counts}
use Rattle.kb.specs.declared.fault.BaseFault.{BaseFault}
use Rattle.kb.specs.declared.fault.BaseFault.TheVariants.{Size, Row}
use Rattle.kb.specs.Check.{base_fault_numbers, checked_base, list_number}
use Rattle.casefile.specs.declared.fault.FileFault.{FileFault}
use Rattle.casefile.specs.Files.{checked_file, file_fault_numbers, file_meaning}
use Rattle.inspect.specs.Lists.{base_text}
use Rattle.inspect.specs.Words.{newline}

-- Where a fault lies: a row by its list and number.
abbrev pub place_words : BaseFault → List ℕ
place_words Size = newline
place_words (Row list k) = codes " list " ++ (decimal (list_number list) ++ (codes " row " ++ (decimal k ++ newline)))

-- The answer on a base that was read.
abbrev pub base_answer : Result Counts BaseFault → List ℕ
base_answer (Ok n) = codes "accepted" ++ newline
base_answer (Err f) = codes "refused " ++ (decimal (slice_index (base_fault_numbers f) 0) ++ place_words f)

-- The answer on a file: 13 if it is broken, else that on its base.
abbrev pub file_answer : Result (Unit {0}) FileFault → Result Counts BaseFault → List ℕ
file_answer (Ok u) base = base_answer base
file_answer (Err f) base = codes "refused " ++ (decimal (slice_index (file_fault_numbers f) 0) ++ newline)

abbrev pub answer_line : List ℕ → List ℕ
answer_line bytes = file_answer (checked_file bytes) (checked_base (file_meaning bytes))

abbrev pub report_text : List ℕ → List ℕ
report_text bytes = base_text (file_meaning bytes) ++ answer_line bytes
