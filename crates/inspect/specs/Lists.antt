-- All that a base holds, in words.
use Rattle.std.specs.Prelude.{ℕ, zero, suc, List, [], ◌++◌, Ok, Err, codes, decimal, Result}
use Rattle.rows.specs.declared.fault.RowFault.{RowFault}
use Rattle.rows.specs.Rows.{row_at}
use Rattle.kb.specs.declared.counts.Counts.{Counts}
use Rattle.kb.specs.declared.fault.RowList.{RowList}
use Rattle.kb.specs.declared.fault.RowList.TheVariants.{Entries, Assertions, Inclusions, Keys}
use Rattle.kb.specs.Check.{count_of}
use Rattle.kb.specs.Meanings.{Meaning, counts_of}
use Rattle.inspect.specs.Words.{entry_line, assertion_line, inclusion_line, key_line, newline}

-- Two lines of counts: of names, then of what is stated.
abbrev pub name_counts_line : Counts → List ℕ
name_counts_line n =
    codes "individuals " ++ (decimal n.individuals ++ (codes ", roles " ++ (decimal n.roles ++ (codes ", entries " ++ (decimal n.entries ++ newline)))))

abbrev pub axiom_counts_line : Counts → List ℕ
axiom_counts_line n =
    codes "assertions " ++ (decimal n.assertions ++ (codes ", inclusions " ++ (decimal n.inclusions ++ (codes ", keys " ++ (decimal n.keys ++ newline)))))

abbrev pub count_lines : Counts → List ℕ
count_lines n = name_counts_line n ++ axiom_counts_line n

-- The line of a row that was asked for; a row that is not there has none.
abbrev pub line_of : {X : Type 0} → (X → List ℕ) → Result X RowFault → List ℕ
line_of line (Ok x) = line x
line_of line (Err f) = []

-- The line of row k of a list.
abbrev pub row_text : Meaning → RowList → ℕ → List ℕ
row_text m Entries k = line_of (entry_line k) (row_at m.entries k)
row_text m Assertions k = line_of (assertion_line k) (row_at m.assertions k)
row_text m Inclusions k = line_of (inclusion_line k) (row_at m.inclusions k)
row_text m Keys k = line_of (key_line k) (row_at m.keys k)

-- The texts of the numbers below a bound, one after the other.
abbrev pub text_below : (ℕ → List ℕ) → ℕ → List ℕ
text_below text zero = []
text_below text (suc n) = text_below text n ++ text n

-- The lines of a list, in the order of its rows.
abbrev pub list_text : Meaning → RowList → List ℕ
list_text m list = text_below (row_text m list) (count_of (counts_of m) list)

-- The counts, then the lists.
abbrev pub base_text : Meaning → List ℕ
base_text m = count_lines (counts_of m) ++ list_text m Entries ++ list_text m Assertions ++ list_text m Inclusions ++ list_text m Keys
