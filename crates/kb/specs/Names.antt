-- The two concepts of an entry.
use Rattle.std.specs.Prelude.{◌≡◌, ℕ, ◌+◌, ◌-◌, ◌*◌, ◌/◌, ◌%◌}
use Rattle.kb.specs.declared.names.Concept.{Concept}

-- Concept c comes from entry c / 2: from entry k come 2k and 2k+1.
abbrev pub entry_number : Concept → ℕ
entry_number c = c.0 / 2

-- ~c is the other concept of c's entry: 2k+1 for 2k, and 2k for 2k+1.
abbrev pub complement : Concept → Concept
complement c = record { 0 = c.0 + 1 - 2 * (c.0 % 2) }

-- In words: an entry's own concept and its complement are each the other of the two.
pub record OtherOfEntry (c d : Concept) : Type 0 where
  pub of_entry : (k : ℕ) → c.0 ≡ 2 * k → d.0 ≡ 2 * k + 1
  pub of_complement : (k : ℕ) → c.0 ≡ 2 * k + 1 → d.0 ≡ 2 * k
