-- What is asked of the individuals to which a role goes.
use Rattle.std.specs.Prelude.{◌≡◌, Bool, true, ◌&&◌}
use Rattle.kb.specs.declared.axioms.Assertion.TheVariants.{Joins}
use Rattle.kb.specs.declared.names.Individual.{Individual}
use Rattle.kb.specs.declared.names.Role.{Role}
use Rattle.kb.specs.Meanings.{Meaning}
use Rattle.calculus.specs.Branches.{Branch, equal, held}
use Rattle.calculus.specs.Review.{individual, some_under}

-- Each answer is what a test says.
abbrev pub AnswersAs : (Individual → Bool → Type 0) → (Individual → Bool) → Type 0
AnswersAs gives test = (y : Individual) (answer : Bool) → gives y answer → answer ≡ test y

-- Equal individuals pass a test alike.
abbrev pub PassAlike : Branch → (Individual → Bool) → Type 0
PassAlike b test = (v w : Individual) → equal b.pairs v w ≡ true → test v ≡ test w

-- The role goes from x to some individual of the sheet that passes a test.
abbrev pub reaches_one : Meaning → Branch → Role → Individual → (Individual → Bool) → Bool
reaches_one m b r x test = some_under (λ y. held m b (Joins r x (individual y)) && test (individual y)) b.individuals
