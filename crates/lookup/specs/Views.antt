-- The branch that a view shows.
use Rattle.std.specs.Prelude.{ℕ, cond, ◌&&◌, List, [], length, nat_le}
use Rattle.std.specs.List.{list_all}
use Rattle.calculus.specs.declared.row_kinds.ConceptRow.{ConceptRow}
use Rattle.calculus.specs.declared.row_kinds.PairRow.{PairRow}
use Rattle.calculus.specs.declared.row_kinds.RoleRow.{RoleRow}
use Rattle.calculus.specs.Branches.{Branch}
use Rattle.lookup.specs.Heads.{names_below}
use Rattle.lookup.specs.declared.view.View.{View}

-- The rows that a view reads, with as many individuals as there are heads.
abbrev pub branch_in : {B : Type 0} → View B → Branch
branch_in v = record { concepts = v.concepts.now; roles = v.roles.now; pairs = v.pairs.now; individuals = length v.heads.now }

-- No rows and no individuals.
abbrev pub empty_branch : Branch
empty_branch = record { concepts = []; roles = []; pairs = []; individuals = 0 }

-- The branch of the rows given and n individuals, if n is at most 65,535 and same and different rows name only these.
abbrev pub branch_over : ℕ → List ConceptRow → List RoleRow → List PairRow → Branch
branch_over n concepts roles pairs =
    cond (nat_le n 65535 && list_all (names_below n) pairs)
    (record { concepts = concepts; roles = roles; pairs = pairs; individuals = n })
    empty_branch
