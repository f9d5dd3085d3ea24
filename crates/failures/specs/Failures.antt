-- Where the conditions of review fail. The first failure is computed: conditions in order 1 to 8, and within a condition the
-- least place, number by number.
use Rattle.std.specs.Prelude.{ℕ, zero, suc, ◌+◌, ◌*◌, Bool, cond, not, ◌&&◌, ◌||◌, length, Some, None, Ok, Err, Option, Result}
use Rattle.rows.specs.declared.fault.RowFault.{RowFault}
use Rattle.rows.specs.Rows.{row_at}
use Rattle.kb.specs.declared.axioms.Assertion.TheVariants.{Is, Joins, Different}
use Rattle.kb.specs.declared.axioms.Inclusion.{Inclusion as InclusionRow}
use Rattle.kb.specs.declared.axioms.Key.{Key as KeyRow}
use Rattle.kb.specs.declared.lexicon.Entry.{Entry}
use Rattle.kb.specs.declared.lexicon.Entry.TheVariants.{Top, Name, Both as BothEntry, Some as SomeEntry, Unlisted}
use Rattle.kb.specs.declared.names.Concept.{Concept}
use Rattle.kb.specs.declared.names.Role.{Role}
use Rattle.kb.specs.First.{or_else}
use Rattle.kb.specs.Meanings.{Meaning}
use Rattle.kb.specs.Names.{complement}
use Rattle.calculus.specs.declared.review.Condition.{Condition}
use Rattle.calculus.specs.declared.review.Condition.TheVariants.{NoContradiction, Assertions, BothParts as BothPartsCondition, AllReached as AllReachedCondition, Inclusions, Keys, EitherPart as EitherPartCondition, SomeReached as SomeReachedCondition}
use Rattle.calculus.specs.Branches.{Branch, equal, held}
use Rattle.calculus.specs.Review.{blocked, concept, individual, key_kept, some_under}
use Rattle.failures.specs.declared.failure.EntryCondition.{EntryCondition}
use Rattle.failures.specs.declared.failure.EntryCondition.TheVariants.{BothParts, AllReached, EitherPart, SomeReached}
use Rattle.failures.specs.declared.failure.Failure.{Failure}
use Rattle.failures.specs.declared.failure.Failure.TheVariants.{Clash, Apart, Assertion, Both, All, Inclusion, Key, Either, Some as SomeFailure}

-- The condition that fails.
abbrev pub condition_of : Failure → Condition
condition_of (Clash c x) = NoContradiction
condition_of (Apart x y) = NoContradiction
condition_of (Assertion n) = Assertions
condition_of (Both c x) = BothPartsCondition
condition_of (All c x y) = AllReachedCondition
condition_of (Inclusion n x) = Inclusions
condition_of (Key n x y) = Keys
condition_of (Either c x) = EitherPartCondition
condition_of (SomeFailure c x) = SomeReachedCondition

-- What is found first, from number 0 up to a bound.
abbrev pub first_under : {X : Type 0} → (ℕ → Option X) → ℕ → Option X
first_under find zero = None
first_under find (suc n) = or_else (first_under find n) (find n)

-- What is found at a row that was asked for: nothing where there is no such row.
abbrev pub at_row : {X Y : Type 0} → (X → Option Y) → Result X RowFault → Option Y
at_row find (Ok x) = find x
at_row find (Err f) = None

-- A failure, unless a test passes.
abbrev pub unless : Bool → Failure → Option Failure
unless passed f = cond passed None (Some f)

-- Which concept of entry k a condition on entries asks about: the entry's own, or its complement.
abbrev pub asked_of : EntryCondition → ℕ → ℕ
asked_of BothParts k = 2 * k
asked_of AllReached k = 2 * k + 1
asked_of EitherPart k = 2 * k + 1
asked_of SomeReached k = 2 * k

module _ (m : Meaning) (b : Branch) where
  -- What is found first of the individuals of the sheet.
  abbrev pub first_on_sheet : (ℕ → Option Failure) → Option Failure
  first_on_sheet find = first_under find b.individuals

  -- What is found at an individual, unless it is blocked.
  abbrev pub unless_blocked : ℕ → Option Failure → Option Failure
  unless_blocked x found = cond (blocked m b x) None found

  -- 1. An individual holds the concept of an entry and its complement; or, only where there is none such, two individuals are
  -- different and equal.
  abbrev pub clash_at : Concept → Concept → ℕ → Option Failure
  clash_at c d x = unless (not (held m b (Is c (individual x)) && held m b (Is d (individual x)))) (Clash c (individual x))

  abbrev pub apart_at : ℕ → ℕ → Option Failure
  apart_at x y =
      unless (not (held m b (Different (individual x) (individual y)) && equal b.pairs (individual x) (individual y))) (Apart (individual x) (individual y))

  abbrev pub first_clash : Option Failure
  first_clash = first_under (λ k. first_on_sheet (clash_at (concept (2 * k)) (concept (2 * k + 1)))) (length m.entries)

  abbrev pub first_apart : Option Failure
  first_apart = first_on_sheet (λ x. first_on_sheet (apart_at x))

  abbrev pub first_contradiction : Option Failure
  first_contradiction = or_else first_clash first_apart

  -- 2. An assertion is not held.
  abbrev pub assertion_at : ℕ → Option Failure
  assertion_at n = at_row (λ a. unless (held m b a) (Assertion n)) (row_at m.assertions n)

  abbrev pub first_assertion : Option Failure
  first_assertion = first_under assertion_at (length m.assertions)

  -- 3. BOTH(d, e), which is c, is held, but not both parts.
  abbrev pub both_at : Concept → Concept → Concept → ℕ → Option Failure
  both_at c d e x =
      unless (not (held m b (Is c (individual x))) || (held m b (Is d (individual x)) && held m b (Is e (individual x)))) (Both c (individual x))

  -- 4. ~SOME(r, d), which is c, is held, and ~d is not held of some y to which r goes; the least such y.
  abbrev pub reached_at : Concept → Role → Concept → ℕ → ℕ → Option Failure
  reached_at c r d x y =
      unless (not (held m b (Joins r (individual x) (individual y))) || held m b (Is (complement d) (individual y))) (All c (individual x) (individual y))

  abbrev pub all_at : Concept → Role → Concept → ℕ → Option Failure
  all_at c r d x = cond (held m b (Is c (individual x))) (first_on_sheet (reached_at c r d x)) None

  -- 7. ~BOTH(d, e), which is c, is held, but neither ~d nor ~e.
  abbrev pub either_at : Concept → Concept → Concept → ℕ → Option Failure
  either_at c d e x =
      unless (not (held m b (Is c (individual x))) || (held m b (Is (complement d) (individual x)) || held m b (Is (complement e) (individual x))))
      (Either c (individual x))

  -- 8. SOME(r, d), which is c, is held, but d of no y to which r goes.
  abbrev pub reaches : Role → Concept → ℕ → Bool
  reaches r d x = some_under (λ y. held m b (Joins r (individual x) (individual y)) && held m b (Is d (individual y))) b.individuals

  abbrev pub some_at : Concept → Role → Concept → ℕ → Option Failure
  some_at c r d x = unless (not (held m b (Is c (individual x))) || reaches r d x) (SomeFailure c (individual x))

  -- What each of these four conditions finds at an entry; it asks nothing of entries of other kinds.
  abbrev pub entry_at : EntryCondition → Concept → Entry → ℕ → Option Failure
  entry_at BothParts c Top x = None
  entry_at BothParts c Name x = None
  entry_at BothParts c (BothEntry d e) x = both_at c d e x
  entry_at BothParts c (SomeEntry r d) x = None
  entry_at BothParts c (Unlisted kind) x = None
  entry_at AllReached c Top x = None
  entry_at AllReached c Name x = None
  entry_at AllReached c (BothEntry d e) x = None
  entry_at AllReached c (SomeEntry r d) x = all_at c r d x
  entry_at AllReached c (Unlisted kind) x = None
  entry_at EitherPart c Top x = None
  entry_at EitherPart c Name x = None
  entry_at EitherPart c (BothEntry d e) x = either_at c d e x
  entry_at EitherPart c (SomeEntry r d) x = None
  entry_at EitherPart c (Unlisted kind) x = None
  entry_at SomeReached c Top x = None
  entry_at SomeReached c Name x = None
  entry_at SomeReached c (BothEntry d e) x = None
  entry_at SomeReached c (SomeEntry r d) x = some_at c r d x
  entry_at SomeReached c (Unlisted kind) x = None

  -- What is found first of the individuals that are not blocked, and of the entries.
  abbrev pub first_of_entry : EntryCondition → ℕ → Entry → Option Failure
  first_of_entry which c e = first_on_sheet (λ x. unless_blocked x (entry_at which (concept c) e x))

  abbrev pub first_of_entries : EntryCondition → Option Failure
  first_of_entries which = first_under (λ k. at_row (first_of_entry which (asked_of which k)) (row_at m.entries k)) (length m.entries)

  -- 5. By an inclusion (c, d), neither ~c nor d is held.
  abbrev pub inclusion_at : ℕ → InclusionRow → ℕ → Option Failure
  inclusion_at n i x =
      unless (held m b (Is (complement i.sub) (individual x)) || held m b (Is i.sup (individual x))) (Inclusion n (individual x))

  abbrev pub first_of_inclusion : ℕ → InclusionRow → Option Failure
  first_of_inclusion n i = first_on_sheet (λ x. unless_blocked x (inclusion_at n i x))

  abbrev pub first_inclusion : Option Failure
  first_inclusion = first_under (λ n. at_row (first_of_inclusion n) (row_at m.inclusions n)) (length m.inclusions)

  -- 6. By a key, two individuals of the base that share its values are not decided.
  abbrev pub key_at : ℕ → KeyRow → ℕ → ℕ → Option Failure
  key_at n key x y = unless (key_kept m b key x y) (Key n (individual x) (individual y))

  abbrev pub first_of_key : ℕ → KeyRow → Option Failure
  first_of_key n key = first_under (λ x. first_under (key_at n key x) m.individuals) m.individuals

  abbrev pub first_key : Option Failure
  first_key = first_under (λ n. at_row (first_of_key n) (row_at m.keys n)) (length m.keys)

  -- The first failure.
  abbrev pub first_failure : Option Failure
  first_failure =
      or_else first_contradiction
      (or_else first_assertion
      (or_else (first_of_entries BothParts)
      (or_else (first_of_entries AllReached)
      (or_else first_inclusion
      (or_else first_key
      (or_else (first_of_entries EitherPart)
      (first_of_entries SomeReached)))))))
