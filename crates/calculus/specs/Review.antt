-- Blocking, the eight conditions of review, and what review says. Each condition is a test that computes.
use Rattle.std.specs.Prelude.{ℕ, zero, suc, ◌+◌, ◌*◌, Bool, true, false, cond, not, ◌&&◌, ◌||◌, List, [], ◌∷◌, length, Some, None, Ok, Err, Option, Result, nat_le, nat_lt}
use Rattle.std.specs.List.{list_all}
use Rattle.kb.specs.declared.axioms.Assertion.TheVariants.{Is, Joins, Different}
use Rattle.kb.specs.declared.axioms.Inclusion.{Inclusion}
use Rattle.kb.specs.declared.axioms.Key.{Key}
use Rattle.kb.specs.declared.axioms.Key.TheVariants.{Link, Unlisted as UnlistedKey}
use Rattle.kb.specs.declared.axioms.RolePair.{RolePair}
use Rattle.kb.specs.declared.lexicon.Entry.{Entry}
use Rattle.kb.specs.declared.lexicon.Entry.TheVariants.{Top, Name, Both as BothEntry, Some as SomeEntry, Unlisted}
use Rattle.kb.specs.declared.names.Concept.{Concept}
use Rattle.kb.specs.declared.names.Individual.{Individual}
use Rattle.kb.specs.Meanings.{Meaning}
use Rattle.kb.specs.Names.{complement}
use Rattle.kb.specs.Numbers.{pair_list}
use Rattle.calculus.specs.declared.review.Condition.{Condition}
use Rattle.calculus.specs.declared.review.Condition.TheVariants.{NoContradiction, Assertions, BothParts, AllReached, Inclusions, Keys, EitherPart, SomeReached}
use Rattle.calculus.specs.declared.review.Finding.{Finding}
use Rattle.calculus.specs.declared.review.Finding.TheVariants.{Closed, Open}
use Rattle.calculus.specs.declared.review.ReviewFault.{ReviewFault}
use Rattle.calculus.specs.declared.review.ReviewFault.TheVariants.{Changed, Full, Condition as Failing}
use Rattle.calculus.specs.declared.row_kinds.ConceptRow.{ConceptRow}
use Rattle.calculus.specs.Branches.{Branch, equal, held}
use Rattle.calculus.specs.States.{State, branch, fits}

abbrev pub individual : ℕ → Individual
individual n = record { 0 = n }

abbrev pub concept : ℕ → Concept
concept n = record { 0 = n }

-- A test passes at each number below a bound; at some.
abbrev pub all_under : (ℕ → Bool) → ℕ → Bool
all_under test zero = true
all_under test (suc n) = all_under test n && test n

abbrev pub some_under : (ℕ → Bool) → ℕ → Bool
some_under test zero = false
some_under test (suc n) = some_under test n || test n

-- The least number below a bound that passes a test; the bound if there is none.
abbrev pub least_under : (ℕ → Bool) → ℕ → ℕ
least_under test zero = zero
least_under test (suc n) = cond (nat_lt (least_under test n) n) (least_under test n) (cond (test n) n (suc n))

module _ (m : Meaning) (b : Branch) where
  -- Individual t holds every concept that s holds.
  abbrev pub covers : ℕ → ℕ → Bool
  covers t s =
      list_all (λ (row : ConceptRow). not (equal b.pairs row.individual (individual s)) || held m b (Is row.concept (individual t))) b.concepts

  -- An individual that is not of the base is new.
  abbrev pub new : ℕ → Bool
  new s = nat_le m.individuals s

  -- A new s is blocked by a new t below it that holds every concept that s holds; its blocker is the least such t.
  abbrev pub blocks : ℕ → ℕ → Bool
  blocks s t = new t && covers t s

  abbrev pub blocked : ℕ → Bool
  blocked s = new s && some_under (blocks s) s

  unfoldable pub blocker : ℕ → ℕ
  blocker s = least_under (blocks s) s

  -- A test that is asked only of individuals that are not blocked.
  abbrev pub unblocked : (ℕ → Bool) → Bool
  unblocked test = all_under (λ x. blocked x || test x) b.individuals

  abbrev pub holds : ℕ → ℕ → Bool
  holds c x = held m b (Is (concept c) (individual x))

  -- 1. No individual holds a concept and its complement, and none that are different are equal.
  abbrev pub no_clash : Bool
  no_clash = all_under (λ k. all_under (λ x. not (holds (2 * k) x && holds (2 * k + 1) x)) b.individuals) (length m.entries)

  abbrev pub no_different : Bool
  no_different =
      all_under (λ x. all_under (λ y. not (held m b (Different (individual x) (individual y)) && equal b.pairs (individual x) (individual y))) b.individuals) b.individuals

  abbrev pub condition1 : Bool
  condition1 = no_clash && no_different

  -- 2. Every assertion is held.
  abbrev pub condition2 : Bool
  condition2 = list_all (held m b) m.assertions

  -- What conditions 3, 4, 7 and 8 ask of an individual x and entry k.
  abbrev pub both_parts : ℕ → ℕ → Entry → Bool
  both_parts k x Top = true
  both_parts k x Name = true
  both_parts k x (BothEntry d e) = not (holds (2 * k) x) || (held m b (Is d (individual x)) && held m b (Is e (individual x)))
  both_parts k x (SomeEntry r d) = true
  both_parts k x (Unlisted kind) = true

  abbrev pub all_reached : ℕ → ℕ → Entry → Bool
  all_reached k x Top = true
  all_reached k x Name = true
  all_reached k x (BothEntry d e) = true
  all_reached k x (SomeEntry r d) =
      not (holds (2 * k + 1) x)
      || all_under (λ y. not (held m b (Joins r (individual x) (individual y))) || held m b (Is (complement d) (individual y))) b.individuals
  all_reached k x (Unlisted kind) = true

  abbrev pub either_part : ℕ → ℕ → Entry → Bool
  either_part k x Top = true
  either_part k x Name = true
  either_part k x (BothEntry d e) =
      not (holds (2 * k + 1) x) || (held m b (Is (complement d) (individual x)) || held m b (Is (complement e) (individual x)))
  either_part k x (SomeEntry r d) = true
  either_part k x (Unlisted kind) = true

  abbrev pub some_reached : ℕ → ℕ → Entry → Bool
  some_reached k x Top = true
  some_reached k x Name = true
  some_reached k x (BothEntry d e) = true
  some_reached k x (SomeEntry r d) =
      not (holds (2 * k) x)
      || some_under (λ y. held m b (Joins r (individual x) (individual y)) && held m b (Is d (individual y))) b.individuals
  some_reached k x (Unlisted kind) = true

  -- A test of each entry, from entry k on.
  abbrev pub entries_from : (ℕ → Entry → Bool) → ℕ → List Entry → Bool
  entries_from test k [] = true
  entries_from test k (e ∷ es) = test k e && entries_from test (suc k) es

  abbrev pub each_entry : (ℕ → ℕ → Entry → Bool) → Bool
  each_entry test = unblocked (λ x. entries_from (λ k e. test k x e) 0 m.entries)

  -- 3. A held BOTH has both parts held.
  abbrev pub condition3 : Bool
  condition3 = each_entry both_parts

  -- 4. A held ~SOME(r, d) has ~d held of every y with r from x to y held.
  abbrev pub condition4 : Bool
  condition4 = each_entry all_reached

  -- 5. For each inclusion (c, d), ~c or d is held.
  abbrev pub condition5 : Bool
  condition5 =
      list_all (λ (i : Inclusion). unblocked (λ x. held m b (Is (complement i.sub) (individual x)) || held m b (Is i.sup (individual x)))) m.inclusions

  -- 6. For each key and base individuals x, y with values shared pair by pair: ~C of x or ~D of y is held, or they are equal.
  abbrev pub share_value : ℕ → ℕ → RolePair → Bool
  share_value x y p =
      some_under (λ z. held m b (Joins p.left (individual x) (individual z)) && held m b (Joins p.right (individual y) (individual z))) b.individuals

  abbrev pub key_kept : Key → ℕ → ℕ → Bool
  key_kept (Link c d pairs) x y =
      not (list_all (share_value x y) (pair_list pairs))
      || (held m b (Is (complement c) (individual x)) || (held m b (Is (complement d) (individual y)) || equal b.pairs (individual x) (individual y)))
  key_kept (UnlistedKey count) x y = true

  abbrev pub condition6 : Bool
  condition6 = list_all (λ k. all_under (λ x. all_under (key_kept k x) m.individuals) m.individuals) m.keys

  -- 7. A held ~BOTH(d, e) has ~d or ~e held.
  abbrev pub condition7 : Bool
  condition7 = each_entry either_part

  -- 8. A held SOME(r, d) has some y with r from x to y and d of y held.
  abbrev pub condition8 : Bool
  condition8 = each_entry some_reached

  -- The lowest condition that fails.
  abbrev pub lowest_failing : Option Condition
  lowest_failing =
      cond condition1 (cond condition2 (cond condition3 (cond condition4 (cond condition5 (cond condition6 (cond condition7 (cond condition8 None (Some SomeReached)) (Some EitherPart)) (Some Keys)) (Some Inclusions)) (Some AllReached)) (Some BothParts)) (Some Assertions)) (Some NoContradiction)

-- What review says of a sheet that is not closed.
abbrev pub found : Option Condition → Result Finding ReviewFault
found None = Ok Open
found (Some k) = Err (Failing k)

-- Review, with a scratch of a given length: 5 for a base or rows that are not the sheet's, 10 for a scratch of fewer than
-- 1,024 numbers, closed on a closed sheet, 11 with the lowest condition that fails, open. It changes nothing.
abbrev pub review : Meaning → ℕ → State → Result Finding ReviewFault
review m scratch s =
    cond (fits m s)
    (cond (nat_le 1024 scratch) (cond s.numbers.closed (Ok Closed) (found (lowest_failing m (branch s)))) (Err Full))
    (Err Changed)
