-- Where the sections of a case file begin, counted in numbers.
use Rattle.std.specs.Prelude.{ℕ, ◌+◌, ◌*◌, List, slice_index}
use Rattle.kb.specs.declared.counts.Counts.{Counts}

-- The header: individuals, roles, and the counts of entries, assertions, inclusions and keys.
abbrev pub header_counts : List ℕ → Counts
header_counts ns =
    record {
      individuals = slice_index ns 0;
      roles = slice_index ns 1;
      entries = slice_index ns 2;
      assertions = slice_index ns 3;
      inclusions = slice_index ns 4;
      keys = slice_index ns 5;
    }

-- Behind the header's six numbers stand the entries, three numbers each, then the assertions, four each, the inclusions,
-- two each, and the keys, eleven each.
abbrev pub entries_at : ℕ
entries_at = 6

abbrev pub assertions_at : Counts → ℕ
assertions_at n = 6 + 3 * n.entries

abbrev pub inclusions_at : Counts → ℕ
inclusions_at n = 6 + 3 * n.entries + 4 * n.assertions

abbrev pub keys_at : Counts → ℕ
keys_at n = 6 + 3 * n.entries + 4 * n.assertions + 2 * n.inclusions

-- How long a file with these counts is.
abbrev pub end_at : Counts → ℕ
end_at n = 6 + 3 * n.entries + 4 * n.assertions + 2 * n.inclusions + 11 * n.keys
