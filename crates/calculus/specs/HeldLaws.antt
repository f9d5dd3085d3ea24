-- The computed "held" says what a branch holds, and what is held stays held.
use Rattle.std.specs.Prelude.{◌≡◌, true, List, ◌++◌}
use Rattle.kb.specs.declared.axioms.Assertion.{Assertion}
use Rattle.kb.specs.Meanings.{Meaning}
use Rattle.calculus.specs.declared.row_kinds.ConceptRow.{ConceptRow}
use Rattle.calculus.specs.declared.row_kinds.PairRow.{PairRow}
use Rattle.calculus.specs.declared.row_kinds.RoleRow.{RoleRow}
use Rattle.calculus.specs.Branches.{Branch, held}
use Rattle.calculus.specs.Holding.{Held}

-- Over every base, an assertion is found held on a branch exactly if the branch holds it.
pub record HeldMeans : Type 0 where
  pub means : (m : Meaning) (b : Branch) (a : Assertion) → held m b a ≡ true → Held m b a
  pub from : (m : Meaning) (b : Branch) (a : Assertion) → Held m b a → held m b a ≡ true

-- A branch extends another if each of its three lists is the other's with more rows behind; it may have any number of
-- individuals.
pub record Extends (b b' : Branch) : Type 0 where
  pub more_concepts : List ConceptRow
  pub more_roles : List RoleRow
  pub more_pairs : List PairRow
  pub concepts : b'.concepts ≡ b.concepts ++ more_concepts
  pub roles : b'.roles ≡ b.roles ++ more_roles
  pub pairs : b'.pairs ≡ b.pairs ++ more_pairs

-- What a branch holds, every branch that extends it holds.
abbrev pub HeldStays : Type 0
HeldStays = (m : Meaning) (b b' : Branch) → Extends b b' → (a : Assertion) → held m b a ≡ true → held m b' a ≡ true
