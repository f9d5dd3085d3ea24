-- Where individuals stand in the rows of a branch that is placed, as far as walks ask.
use Rattle.std.proofs.Common.{◌≡◌, ℕ, ◌<◌, ◌≤◌, Ok}
use Rattle.rows.specs.Rows.{row_at}
use Rattle.kb.specs.declared.names.Individual.{Individual}
use Rattle.kb.specs.Meanings.{Meaning}
use Rattle.calculus.specs.declared.row_kinds.ConceptRow.{ConceptRow}
use Rattle.calculus.specs.declared.row_kinds.PairRow.TheVariants.{Same as SameRow, Different as DifferentRow}
use Rattle.calculus.specs.declared.row_kinds.RoleRow.{RoleRow}
use Rattle.calculus.specs.Branches.{Branch}
use Rattle.calculus.specs.Conditions.{OnSheet}
use Rattle.theorem.specs.Placed.{Placed}

-- Where the individuals of a base and the new ones stand in the rows of a branch.
pub record Standing (m : Meaning) (b : Branch) : Type 0 where
  -- The individuals of the base come first.
  pub base_first : m.individuals ≤ b.individuals
  -- Rows name only individuals of the branch.
  pub concept_rows : (n : ℕ) (w : ConceptRow) → row_at b.concepts n ≡ Ok w → OnSheet m b w.individual
  pub role_rows : (n : ℕ) (w : RoleRow) → row_at b.roles n ≡ Ok w → OnSheet m b w.from × OnSheet m b w.to
  pub same_rows : (n : ℕ) (x y : Individual) → row_at b.pairs n ≡ Ok (SameRow x y) → OnSheet m b x × OnSheet m b y
  pub different_rows : (n : ℕ) (x y : Individual) → row_at b.pairs n ≡ Ok (DifferentRow x y) → OnSheet m b x × OnSheet m b y
  -- Same rows name only individuals of the base.
  pub same_of_base : (n : ℕ) (x y : Individual) → row_at b.pairs n ≡ Ok (SameRow x y) → (x.0 < m.individuals) × (y.0 < m.individuals)
  -- A role row to an individual of the base goes from one.
  pub into_base : (n : ℕ) (w : RoleRow) → row_at b.roles n ≡ Ok w → w.to.0 < m.individuals → w.from.0 < m.individuals

pub placed_standing : (m : Meaning) (b : Branch) → Placed m b → Standing m b
placed_standing m b p =
    record {
      base_first = p.base_first;
      concept_rows = λ n w e. (p.concept_rows n w e).1;
      role_rows = λ n w e. ((p.role_rows n w e).1, (p.role_rows n w e).2);
      same_rows = λ n x y e. p.pair_rows n (SameRow x y) e;
      different_rows = λ n x y e. p.pair_rows n (DifferentRow x y) e;
      same_of_base = p.same_rows;
      into_base = p.into_base;
    }
