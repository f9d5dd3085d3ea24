-- How the numbers of a record say a row. A number that the row's kind or count does not need may be anything.
use Rattle.std.specs.Prelude.{◌≡◌, ℕ, ◌<◌, cond, List, ◌==◌, slice_index}
use Rattle.kb.specs.declared.axioms.Assertion.{Assertion}
use Rattle.kb.specs.declared.axioms.Assertion.TheVariants.{Is, Joins, Same, Different, Unlisted as UnlistedAssertion}
use Rattle.kb.specs.declared.axioms.Inclusion.{Inclusion}
use Rattle.kb.specs.declared.axioms.Key.{Key}
use Rattle.kb.specs.declared.axioms.Key.TheVariants.{Link, Unlisted as UnlistedKey}
use Rattle.kb.specs.declared.axioms.RolePair.{RolePair}
use Rattle.kb.specs.declared.axioms.RolePairs.TheVariants.{One, Two, Three, Four}
use Rattle.kb.specs.declared.lexicon.Entry.{Entry}
use Rattle.kb.specs.declared.lexicon.Entry.TheVariants.{Top, Name, Both, Some, Unlisted}
use Rattle.kb.specs.declared.names.Concept.{Concept}
use Rattle.kb.specs.declared.names.Individual.{Individual}
use Rattle.kb.specs.declared.names.Role.{Role}

abbrev concept : ℕ → Concept
concept n = record { 0 = n }

abbrev role : ℕ → Role
role n = record { 0 = n }

abbrev individual : ℕ → Individual
individual n = record { 0 = n }

-- Kind 0 is TOP, 1 NAME, 2 BOTH of two concepts, 3 SOME of a role and a concept.
abbrev pub entry_of : ℕ → ℕ → ℕ → Entry
entry_of kind a b =
    cond (kind == 0) Top
    (cond (kind == 1) Name
    (cond (kind == 2) (Both (concept a) (concept b))
    (cond (kind == 3) (Some (role a) (concept b)) (Unlisted kind))))

-- Kind 0 is "c of x", 1 "r from x to y", 2 "x same as y", 3 "x different from y".
abbrev pub assertion_of : ℕ → ℕ → ℕ → ℕ → Assertion
assertion_of kind a b c =
    cond (kind == 0) (Is (concept a) (individual b))
    (cond (kind == 1) (Joins (role a) (individual b) (individual c))
    (cond (kind == 2) (Same (individual a) (individual b))
    (cond (kind == 3) (Different (individual a) (individual b)) (UnlistedAssertion kind))))

-- A key has two classes, a count of pairs, and that many of the four pairs that follow.
abbrev pub key_of : Concept → Concept → ℕ → RolePair → RolePair → RolePair → RolePair → Key
key_of c d count p q s t =
    cond (count == 1) (Link c d (One p))
    (cond (count == 2) (Link c d (Two p q))
    (cond (count == 3) (Link c d (Three p q s))
    (cond (count == 4) (Link c d (Four p q s t)) (UnlistedKey count))))

-- Numbers are the record that begins a list if they agree with it in the first so many.
abbrev pub IsRecord : ℕ → List ℕ → List ℕ → Type 0
IsRecord width ns numbers = (j : ℕ) → j < width → slice_index numbers j ≡ slice_index ns j

-- The row that begins a list of numbers.
abbrev pub read_entry : List ℕ → Entry
read_entry ns = entry_of (slice_index ns 0) (slice_index ns 1) (slice_index ns 2)

abbrev pub read_assertion : List ℕ → Assertion
read_assertion ns = assertion_of (slice_index ns 0) (slice_index ns 1) (slice_index ns 2) (slice_index ns 3)

abbrev pub read_inclusion : List ℕ → Inclusion
read_inclusion ns = record { sub = concept (slice_index ns 0); sup = concept (slice_index ns 1) }

abbrev pub pair_of : ℕ → ℕ → RolePair
pair_of p q = record { left = role p; right = role q }

abbrev pub read_key : List ℕ → Key
read_key ns =
    key_of (concept (slice_index ns 0)) (concept (slice_index ns 1)) (slice_index ns 2)
    (pair_of (slice_index ns 3) (slice_index ns 4)) (pair_of (slice_index ns 5) (slice_index ns 6))
    (pair_of (slice_index ns 7) (slice_index ns 8)) (pair_of (slice_index ns 9) (slice_index ns 10))
