-- Facts as lists.
use Rattle.std.specs.Prelude.{List, [], ◌∷◌, take}
use Rattle.kb.specs.declared.axioms.Assertion.{Assertion}
use Rattle.kb.specs.declared.axioms.Assertion.TheVariants.{Is, Joins}
use Rattle.table.specs.declared.adds.Adds.{Adds}
use Rattle.table.specs.declared.adds.Adds.TheVariants.{Nothing, Fact, Parts, Reached}
use Rattle.table.specs.declared.facts.Facts.{Facts}

-- The facts are the first `len` items.
abbrev pub facts_of : Facts → List Assertion
facts_of f = take f.len f.items

-- What is added: nothing, one fact, both parts of a BOTH, or what a SOME step reaches.
abbrev pub adds_of : Adds → List Assertion
adds_of Nothing = []
adds_of (Fact a) = a ∷ []
adds_of (Parts d e x) = Is d x ∷ Is e x ∷ []
adds_of (Reached r x y d) = Joins r x y ∷ Is d y ∷ []
