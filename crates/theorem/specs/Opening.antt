-- When the walks of a branch satisfy its base.
use Rattle.std.specs.Prelude.{◌≤◌, length}
use Rattle.kb.specs.Check.{InRange}
use Rattle.kb.specs.Interpretations.{Lawful, Satisfies}
use Rattle.kb.specs.Meanings.{Meaning}
use Rattle.calculus.specs.Branches.{Branch}
use Rattle.calculus.specs.Conditions.{Conditions}
use Rattle.calculus.specs.Walks.{walks}
use Rattle.theorem.specs.Placed.{Placed}

-- Where every row of a base is in range, and there are an entry and an individual, the walks of a branch on which the eight
-- conditions of review hold are a lawful interpretation that satisfies the base.
abbrev pub OpenWalksSatisfy : Type 0
OpenWalksSatisfy =
    (m : Meaning) (b : Branch) → InRange m → 1 ≤ m.individuals → 1 ≤ length m.entries → Placed m b → Conditions m b
    → Lawful (walks m b) m.entries × Satisfies (walks m b) m
