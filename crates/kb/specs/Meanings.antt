-- What a base lists, and what an implementation owes of it.
use Rattle.std.specs.Prelude.{ℕ, ◌≤◌, List, [], length}
use Rattle.std.specs.List.{AllByRecursion}
use Rattle.kb.specs.declared.axioms.Assertion.{Assertion}
use Rattle.kb.specs.declared.axioms.Inclusion.{Inclusion}
use Rattle.kb.specs.declared.axioms.Key.{Key}
use Rattle.kb.specs.declared.counts.Counts.{Counts}
use Rattle.kb.specs.declared.lexicon.Entry.{Entry}
use Rattle.kb.specs.Numbers.{entry_numbers, assertion_numbers, inclusion_numbers, key_numbers}

-- The meaning of a base: a lexicon, a number of roles, a number of individuals, and what is stated of them.
pub record Meaning : Type 0 where
  pub entries : List Entry
  pub roles : ℕ
  pub individuals : ℕ
  pub assertions : List Assertion
  pub inclusions : List Inclusion
  pub keys : List Key

-- The base that lists nothing.
abbrev pub empty_meaning : Meaning
empty_meaning = record { entries = []; roles = 0; individuals = 0; assertions = []; inclusions = []; keys = [] }

-- How many of each there are.
abbrev pub counts_of : Meaning → Counts
counts_of m =
    record {
      entries = length m.entries;
      roles = m.roles;
      individuals = m.individuals;
      assertions = length m.assertions;
      inclusions = length m.inclusions;
      keys = length m.keys;
    }

-- A number that can be told is at most 65,535.
abbrev pub Tellable : ℕ → Type 0
Tellable n = n ≤ 65535

-- A list can be told if it has at most 65,535 rows and each row's numbers can.
pub record TellableList {X : Type 0} (numbers : X → List ℕ) (xs : List X) : Type 0 where
  pub short : length xs ≤ 65535
  pub small : AllByRecursion (λ x. AllByRecursion Tellable (numbers x)) xs

-- What an implementation owes of its meaning: every number and every list of it can be told.
pub record Owed (m : Meaning) : Type 0 where
  pub entries : TellableList entry_numbers m.entries
  pub roles : Tellable m.roles
  pub individuals : Tellable m.individuals
  pub assertions : TellableList assertion_numbers m.assertions
  pub inclusions : TellableList inclusion_numbers m.inclusions
  pub keys : TellableList key_numbers m.keys
