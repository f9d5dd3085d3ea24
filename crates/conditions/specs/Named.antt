-- Which concepts the rows of a branch have.
use Rattle.std.specs.Prelude.{ℕ, Bool, cond, ◌||◌, Some, None, Option, ◌==◌}
use Rattle.std.specs.List.{list_any}
use Rattle.kb.specs.declared.names.Concept.{Concept}
use Rattle.calculus.specs.declared.row_kinds.ConceptRow.{ConceptRow}
use Rattle.calculus.specs.Branches.{Branch}
use Rattle.calculus.specs.Review.{concept}

-- A concept by its number, if it is held of anything: concept 0, or one that a row has.
abbrev pub row_names : ℕ → ConceptRow → Bool
row_names n row = row.concept.0 == n

abbrev pub concept_named : Branch → ℕ → Option Concept
concept_named b n = cond (n == 0 || list_any (row_names n) b.concepts) (Some (concept n)) None
