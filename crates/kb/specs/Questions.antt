-- The question whether a statement follows from a base: the base with assertions that deny the statement.
use Rattle.std.specs.Prelude.{ℕ, suc, ◌+◌, List, [], ◌∷◌, map, length}
use Rattle.kb.specs.declared.axioms.Assertion.{Assertion}
use Rattle.kb.specs.declared.axioms.Assertion.TheVariants.{Is, Joins, Different}
use Rattle.kb.specs.declared.axioms.RolePair.{RolePair}
use Rattle.kb.specs.declared.names.Individual.{Individual}
use Rattle.kb.specs.declared.statement.Statement.{Statement}
use Rattle.kb.specs.declared.statement.Statement.TheVariants.{Key, Inclusion, Same}
use Rattle.kb.specs.Meanings.{Meaning}
use Rattle.kb.specs.Names.{complement}
use Rattle.kb.specs.Numbers.{pair_list}
use Rattle.kb.specs.Telling.{tell, tell_assertion, behind}

abbrev individual : ℕ → Individual
individual n = record { 0 = n }

-- Each pair of a denied key joins x and y to a new individual of its own: z, then the next.
abbrev pub shared_values : Individual → Individual → ℕ → List RolePair → List Assertion
shared_values x y z [] = []
shared_values x y z (p ∷ ps) = Joins p.left x (individual z) ∷ Joins p.right y (individual z) ∷ shared_values x y (suc z) ps

-- What denies a statement over a base with n individuals. A key: new x = n in its first class and new y = n + 1 in its
-- second are different, and for pair j both roles reach the new n + 2 + j. An inclusion: new x = n is in the first concept
-- and not in the second. Two individuals that are to be one: they are different.
abbrev pub denial : ℕ → Statement → List Assertion
denial n (Key c d pairs) =
    Is c (individual n) ∷ Is d (individual (n + 1)) ∷ Different (individual n) (individual (n + 1))
    ∷ shared_values (individual n) (individual (n + 1)) (n + 2) (pair_list pairs)
denial n (Inclusion i) = Is i.sub (individual n) ∷ Is (complement i.sup) (individual n) ∷ []
denial n (Same a b) = Different a b ∷ []

-- How many new individuals that takes.
abbrev pub new_individuals : Statement → ℕ
new_individuals (Key c d pairs) = 2 + length (pair_list pairs)
new_individuals (Inclusion i) = 1
new_individuals (Same a b) = 0

-- The base that asks a statement of a base below.
abbrev pub asking : Meaning → Statement → Meaning
asking m s =
    record {
      entries = m.entries;
      roles = m.roles;
      individuals = tell (m.individuals + new_individuals s);
      assertions = behind m.assertions (map tell_assertion (denial m.individuals s));
      inclusions = m.inclusions;
      keys = m.keys;
    }
