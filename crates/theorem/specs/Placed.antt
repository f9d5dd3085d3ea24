-- How the rows of a branch lie among its individuals: those of the base come first, then new ones, each reached by one row.
use Rattle.std.specs.Prelude.{◌≡◌, ℕ, ◌<◌, ◌≤◌, length, Ok}
use Rattle.rows.specs.Rows.{row_at}
use Rattle.kb.specs.declared.names.Individual.{Individual}
use Rattle.kb.specs.Meanings.{Meaning}
use Rattle.kb.specs.Names.{entry_number}
use Rattle.calculus.specs.declared.row_kinds.ConceptRow.{ConceptRow}
use Rattle.calculus.specs.declared.row_kinds.PairRow.{PairRow}
use Rattle.calculus.specs.declared.row_kinds.PairRow.TheVariants.{Same as SameRow, Different as DifferentRow}
use Rattle.calculus.specs.declared.row_kinds.RoleRow.{RoleRow}
use Rattle.calculus.specs.Branches.{Branch}

-- The individuals of a base are the first ones; the others are new.
abbrev pub OfBase : Meaning → Individual → Type 0
OfBase m x = x.0 < m.individuals

abbrev pub New : Meaning → Individual → Type 0
New m x = m.individuals ≤ x.0

-- The individuals of a branch.
abbrev pub OfBranch : Branch → Individual → Type 0
OfBranch b x = x.0 < b.individuals

-- Both individuals of a same or different row are among the first n.
abbrev pub PairBelow : ℕ → PairRow → Type 0
PairBelow n (SameRow x y) = (x.0 < n) × (y.0 < n)
PairBelow n (DifferentRow x y) = (x.0 < n) × (y.0 < n)

pub record Placed (m : Meaning) (b : Branch) : Type 0 where
  -- The individuals of the base come first.
  pub base_first : m.individuals ≤ b.individuals
  -- A concept row names a concept of the base and an individual of the branch.
  pub concept_rows : (n : ℕ) (w : ConceptRow) → row_at b.concepts n ≡ Ok w → (entry_number w.concept < length m.entries) × OfBranch b w.individual
  -- A role row names a role of the base and two individuals of the branch.
  pub role_rows : (n : ℕ) (w : RoleRow) → row_at b.roles n ≡ Ok w → (w.role.0 < m.roles) × OfBranch b w.from × OfBranch b w.to
  -- A same or different row names two individuals of the branch.
  pub pair_rows : (n : ℕ) (w : PairRow) → row_at b.pairs n ≡ Ok w → PairBelow b.individuals w
  -- A same row names two individuals of the base.
  pub same_rows : (n : ℕ) (x y : Individual) → row_at b.pairs n ≡ Ok (SameRow x y) → OfBase m x × OfBase m y
  -- A role row into an individual of the base comes from one.
  pub into_base : (n : ℕ) (w : RoleRow) → row_at b.roles n ≡ Ok w → OfBase m w.to → OfBase m w.from
  -- A new individual has a role row into it.
  pub row_into_new : (x : Individual) → New m x → OfBranch b x → (n : ℕ) × (w : RoleRow) × (row_at b.roles n ≡ Ok w) × (w.to ≡ x)
  -- It has only one.
  pub one_into_new : (j k : ℕ) (v w : RoleRow) → row_at b.roles j ≡ Ok v → row_at b.roles k ≡ Ok w → v.to ≡ w.to → New m w.to → j ≡ k
