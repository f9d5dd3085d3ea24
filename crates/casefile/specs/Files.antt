-- What the bytes of a case file mean.
use Rattle.std.specs.Prelude.{◌≡◌, ℕ, zero, suc, ◌*◌, ◌<◌, ◌≤◌, Bool, cond, ◌&&◌, ◌⊎◌, List, [], ◌∷◌, length, drop, Ok, Err, Result, ◌==◌, ◌≢◌, nat_le}
use Rattle.rows.specs.Rows.{refusal}
use Rattle.kb.specs.declared.counts.Counts.{Counts}
use Rattle.kb.specs.Meanings.{Meaning, empty_meaning}
use Rattle.casefile.specs.declared.fault.FileFault.{FileFault}
use Rattle.casefile.specs.declared.fault.FileFault.TheVariants.{Broken}
use Rattle.casefile.specs.Layout.{header_counts, entries_at, assertions_at, inclusions_at, keys_at, end_at}
use Rattle.casefile.specs.Numbers.{numbers}
use Rattle.casefile.specs.Records.{read_entry, read_assertion, read_inclusion, read_key}

-- How many bytes a file has by its header, two a number.
abbrev pub announced : List ℕ → ℕ
announced bytes = 2 * end_at (header_counts (numbers bytes))

-- A file is whole if it has at most 16,384 bytes, and just as many as its header announces.
abbrev pub whole_file : List ℕ → Bool
whole_file bytes = nat_le (length bytes) 16384 && length bytes == announced bytes

-- A broken file has none of anything.
abbrev pub no_counts : Counts
no_counts = record { entries = 0; roles = 0; individuals = 0; assertions = 0; inclusions = 0; keys = 0 }

abbrev pub file_counts : List ℕ → Counts
file_counts bytes = cond (whole_file bytes) (header_counts (numbers bytes)) no_counts

-- The first so many rows of one width, each read where it begins.
abbrev pub rows_from : {X : Type 0} → ℕ → (List ℕ → X) → ℕ → List ℕ → List X
rows_from width read zero ns = []
rows_from width read (suc k) ns = read ns ∷ rows_from width read k (drop width ns)

-- The base of given counts that numbers list.
abbrev pub listed : Counts → List ℕ → Meaning
listed n ns =
    record {
      entries = rows_from 3 read_entry n.entries (drop entries_at ns);
      roles = n.roles;
      individuals = n.individuals;
      assertions = rows_from 4 read_assertion n.assertions (drop (assertions_at n) ns);
      inclusions = rows_from 2 read_inclusion n.inclusions (drop (inclusions_at n) ns);
      keys = rows_from 11 read_key n.keys (drop (keys_at n) ns);
    }

-- The base that a case file is.
abbrev pub file_meaning : List ℕ → Meaning
file_meaning bytes = listed (file_counts bytes) (numbers bytes)

-- The number that a broken file is refused with: 13.
abbrev pub file_fault_numbers : FileFault → List ℕ
file_fault_numbers Broken = 13 ∷ []

-- Whether a file is broken, told by a call that looks.
abbrev pub checked_file : List ℕ → Result (Unit {0}) FileFault
checked_file bytes = cond (whole_file bytes) (Ok tt) (Err Broken)

-- What that call says, in words: nothing is refused of a file that is short enough and as long as its header announces;
-- 13 comes back of any other, which then lists nothing.
pub record FileChecked (bytes : List ℕ) (r : Result (Unit {0}) FileFault) : Type 0 where
  pub whole : length bytes ≤ 16384 → length bytes ≡ announced bytes → refusal file_fault_numbers r ≡ []
  pub broken : (16384 < length bytes) ⊎ (length bytes ≢ announced bytes) → refusal file_fault_numbers r ≡ 13 ∷ []
  pub empty : refusal file_fault_numbers r ≡ 13 ∷ [] → file_meaning bytes ≡ empty_meaning
