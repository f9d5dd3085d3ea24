-- The bytes of a case file.
use Rattle.std.specs.Prelude.{ℕ, ◌/◌, ◌%◌, List, [], ◌∷◌, ◌++◌, Ok, Err, Result}
use Rattle.std.specs.List.{flat_map}
use Rattle.rows.specs.declared.fault.RowFault.{RowFault}
use Rattle.rows.specs.Rows.{row_at}
use Rattle.kb.specs.declared.counts.Counts.{Counts}
use Rattle.kb.specs.declared.fault.RowList.{RowList}
use Rattle.kb.specs.declared.fault.RowList.TheVariants.{Entries, Assertions, Inclusions, Keys}
use Rattle.kb.specs.Meanings.{Meaning, counts_of}
use Rattle.kb.specs.Numbers.{entry_numbers, assertion_numbers, inclusion_numbers, key_numbers}

-- A number in two bytes, the higher first.
abbrev pub two_bytes : ℕ → List ℕ
two_bytes n = n / 256 ∷ n % 256 ∷ []

-- Numbers one behind the other.
abbrev pub bytes_of : List ℕ → List ℕ
bytes_of ns = flat_map two_bytes ns

-- The header: individuals, roles, and the counts of entries, assertions, inclusions and keys.
abbrev pub header_numbers : Counts → List ℕ
header_numbers n = n.individuals ∷ n.roles ∷ n.entries ∷ n.assertions ∷ n.inclusions ∷ n.keys ∷ []

-- A row takes three numbers in the lexicon, four among the assertions, two among the inclusions and eleven among the keys.
abbrev pub width_of : RowList → ℕ
width_of Entries = 3
width_of Assertions = 4
width_of Inclusions = 2
width_of Keys = 11

-- The numbers of a row that was asked for; none if there is no such row.
abbrev pub found_numbers : {X : Type 0} → (X → List ℕ) → Result X RowFault → List ℕ
found_numbers numbers (Ok x) = numbers x
found_numbers numbers (Err f) = []

-- The numbers of row k of a list.
abbrev pub row_numbers : Meaning → RowList → ℕ → List ℕ
row_numbers m Entries k = found_numbers entry_numbers (row_at m.entries k)
row_numbers m Assertions k = found_numbers assertion_numbers (row_at m.assertions k)
row_numbers m Inclusions k = found_numbers inclusion_numbers (row_at m.inclusions k)
row_numbers m Keys k = found_numbers key_numbers (row_at m.keys k)

-- The section of a list: its rows one behind the other.
abbrev pub section_numbers : Meaning → RowList → List ℕ
section_numbers m Entries = flat_map entry_numbers m.entries
section_numbers m Assertions = flat_map assertion_numbers m.assertions
section_numbers m Inclusions = flat_map inclusion_numbers m.inclusions
section_numbers m Keys = flat_map key_numbers m.keys

-- A case file: the header, then the sections of the four lists.
abbrev pub case_numbers : Meaning → List ℕ
case_numbers m =
    header_numbers (counts_of m) ++ section_numbers m Entries ++ section_numbers m Assertions ++ section_numbers m Inclusions
    ++ section_numbers m Keys

abbrev pub case_bytes : Meaning → List ℕ
case_bytes m = bytes_of (case_numbers m)
