-- The two concepts of an entry.
use Rattle.std.proofs.Common.{◌≡◌, ◌%◌, ⊎_elim, arith}
use Rattle.std.proofs.lemmas.Bool.{cases_eq}
use Rattle.kb.specs.declared.names.Concept.{Concept}
use Rattle.kb.specs.Names.{complement, entry_number}

-- the complement is of the same entry
pub complement_entry : (c : Concept) → entry_number (complement c) ≡ entry_number c
complement_entry c = ⊎_elim (λ e. omega arith) (λ e. omega arith) (cases_eq (c.0 % 2) 0)
