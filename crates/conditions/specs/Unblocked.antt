-- What is found first of the individuals that are not blocked.
use Rattle.std.specs.Prelude.{◌≡◌, ℕ, Option}
use Rattle.kb.specs.declared.names.Individual.{Individual}
use Rattle.kb.specs.Meanings.{Meaning}
use Rattle.calculus.specs.Branches.{Branch}
use Rattle.failures.specs.declared.failure.Failure.{Failure}
use Rattle.failures.specs.Failures.{first_on_sheet, unless_blocked}

-- Each answer is what is found at the number of the individual.
abbrev pub FindsAs : (Individual → Option Failure → Type 0) → (ℕ → Option Failure) → Type 0
FindsAs gives at = (x : Individual) (answer : Option Failure) → gives x answer → answer ≡ at x.0

-- The first that is found where the individual is not blocked.
abbrev pub first_unblocked : Meaning → Branch → (ℕ → Option Failure) → Option Failure
first_unblocked m b at = first_on_sheet m b (λ x. unless_blocked m b x (at x))
