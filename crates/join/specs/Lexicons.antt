-- When two bases belong together.
use Rattle.std.specs.Prelude.{◌≡◌, ℕ, List, [], ◌∷◌, Ok, Result}
use Rattle.rows.specs.Rows.{refusal}
use Rattle.kb.specs.Meanings.{Meaning}
use Rattle.join.specs.declared.fault.JoinFault.{JoinFault}
use Rattle.join.specs.declared.fault.JoinFault.TheVariants.{Differ}

-- The numbers that a refused join returns: 14, the bases differ.
abbrev pub join_fault_numbers : JoinFault → List ℕ
join_fault_numbers Differ = 14 ∷ []

-- Two bases are alike if they have the same lexicon and as many roles.
abbrev pub Alike : Meaning → Meaning → Type 0
Alike m n = (m.entries ≡ n.entries) × (m.roles ≡ n.roles)

-- The check of a join, in words: it accepts exactly two bases that are alike, and 14 comes back exactly for two that are not.
pub record JoinChecked (m n : Meaning) (r : Result (Unit {0}) JoinFault) : Type 0 where
  pub accepted : Alike m n → r ≡ Ok tt
  pub accepts : r ≡ Ok tt → Alike m n
  pub differ : (Alike m n → ⊥) → refusal join_fault_numbers r ≡ 14 ∷ []
  pub differ_only : refusal join_fault_numbers r ≡ 14 ∷ [] → Alike m n → ⊥
