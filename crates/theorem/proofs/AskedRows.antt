-- The rows of a question that is asked: nothing was cut, and no number was capped.
use Rattle.std.proofs.Common.{◌≡◌, ℕ, ◌/◌, ◌<◌, ◌≤◌, true, false, ◌&&◌, leb, List, ◌++◌, map, length, take, refl, ap, ◌∙◌, subst, arith, length-take}
use Rattle.std.proofs.lemmas.List.{take_all}
use Rattle.std.proofs.lemmas.Bool.{and_parts, both_ways, leb-true, ltb-true}
use Rattle.std.specs.List.{AllByRecursion}
use Rattle.rows.proofs.RowLaws.{row_at-found}
use Rattle.kb.specs.declared.axioms.Assertion.{Assertion}
use Rattle.kb.specs.declared.axioms.Assertion.TheVariants.{Is, Joins, Same, Different, Unlisted}
use Rattle.kb.specs.declared.counts.Counts.{Counts}
use Rattle.kb.specs.declared.names.Concept.{Concept}
use Rattle.kb.specs.declared.names.Individual.{Individual}
use Rattle.kb.specs.declared.names.Role.{Role}
use Rattle.kb.specs.declared.statement.Statement.{Statement}
use Rattle.kb.specs.Check.{InRange, sizes_accepted}
use Rattle.kb.specs.Meanings.{Meaning, counts_of}
use Rattle.kb.specs.Questions.{asking, denial}
use Rattle.kb.specs.Range.{assertion_in_range, concept_in_range, individual_in_range, role_in_range}
use Rattle.kb.specs.Telling.{tell, tell_assertion, tell_concept, tell_individual, tell_role}
use Rattle.theorem.proofs.AllRows.{all_append_right, all_from_rows, map-unchanged}
use Rattle.theorem.proofs.TableSound.{row-passes}
use Rattle.theorem.specs.Asking.{Asked}

-- The assertion is in range.
abbrev pub Ranged : Counts → Assertion → Type 0
Ranged n a = assertion_in_range n a ≡ true

-- Each assertion of a base in range is in range.
pub assertions_ranged : (m : Meaning) → InRange m → AllByRecursion (Ranged (counts_of m)) m.assertions
assertions_ranged m range =
    all_from_rows (Ranged (counts_of m)) m.assertions (λ k a e.
    row-passes (λ _. assertion_in_range (counts_of m)) m.assertions k a e
    (range.assertions k (row_at-found m.assertions k a e)))

-- What accepted sizes say of the numbers that assertions name.
pub record Small (n : Counts) : Type 0 where
  pub entries : n.entries ≤ 512
  pub roles : n.roles ≤ 64
  pub individuals : n.individuals ≤ 512
  pub assertions : n.assertions ≤ 1024

pub sizes-small : (n : Counts) → sizes_accepted n ≡ true → Small n
sizes-small n e =
    let a = and_parts (leb 1 n.entries) _ e in
    let b = and_parts (leb n.entries 512) _ a.1 in
    let c = and_parts (leb 1 n.roles) _ b.1 in
    let d = and_parts (leb n.roles 64) _ c.1 in
    let f = and_parts (leb 1 n.individuals) _ d.1 in
    let g = and_parts (leb n.individuals 512) _ f.1 in
    let h = and_parts (leb n.assertions 1024) _ g.1 in
    record {
      entries = leb-true n.entries 512 b.0;
      roles = leb-true n.roles 64 d.0;
      individuals = leb-true n.individuals 512 g.0;
      assertions = leb-true n.assertions 1024 h.0;
    }

module _ (n : Counts) (small : Small n) where
  -- a told name that is in range is the name
  concept-told : (c : Concept) → concept_in_range n (tell_concept c) ≡ true → tell_concept c ≡ c
  concept-told c e =
      let l : tell c.0 / 2 < n.entries = ltb-true (tell c.0 / 2) n.entries e in
      let p : tell c.0 ≡ c.0 = omega (arith, small.entries) in
      λ i. record { 0 = p i }

  role-told : (r : Role) → role_in_range n (tell_role r) ≡ true → tell_role r ≡ r
  role-told r e =
      let l : tell r.0 < n.roles = ltb-true (tell r.0) n.roles e in
      let p : tell r.0 ≡ r.0 = omega (arith, small.roles) in
      λ i. record { 0 = p i }

  individual-told : (x : Individual) → individual_in_range n (tell_individual x) ≡ true → tell_individual x ≡ x
  individual-told x e =
      let l : tell x.0 < n.individuals = ltb-true (tell x.0) n.individuals e in
      let p : tell x.0 ≡ x.0 = omega (arith, small.individuals) in
      λ i. record { 0 = p i }

  -- so is a told assertion
  assertion_told : (a : Assertion) → Ranged n (tell_assertion a) → tell_assertion a ≡ a
  assertion_told (Is c x) e =
      let p = and_parts (concept_in_range n (tell_concept c)) (individual_in_range n (tell_individual x)) e in
      λ i. Is (concept-told c p.0 i) (individual-told x p.1 i)
  assertion_told (Joins r x y) e =
      let p = and_parts (role_in_range n (tell_role r)) (individual_in_range n (tell_individual x) && individual_in_range n (tell_individual y)) e in
      let q = and_parts (individual_in_range n (tell_individual x)) (individual_in_range n (tell_individual y)) p.1 in
      λ i. Joins (role-told r p.0 i) (individual-told x q.0 i) (individual-told y q.1 i)
  assertion_told (Same x y) e =
      let p = and_parts (individual_in_range n (tell_individual x)) (individual_in_range n (tell_individual y)) e in
      λ i. Same (individual-told x p.0 i) (individual-told y p.1 i)
  assertion_told (Different x y) e =
      let p = and_parts (individual_in_range n (tell_individual x)) (individual_in_range n (tell_individual y)) e in
      λ i. Different (individual-told x p.0 i) (individual-told y p.1 i)
  assertion_told (Unlisted kind) e = absurd (both_ways false refl e)

-- a cut list that is shorter than the cut was not cut
not-cut : {X : Type 0} (n : ℕ) (xs : List X) → length (take n xs) < n → take n xs ≡ xs
not-cut n xs l = take_all n xs (omega (arith, length-take n xs))

module _ (lower : Meaning) (st : Statement) (asked : Asked lower st) where
  -- What denies the statement, as it was meant.
  abbrev denied : List Assertion
  denied = denial lower.individuals st

  uncut : (asking lower st).assertions ≡ lower.assertions ++ map tell_assertion denied
  uncut =
      let s = sizes-small (counts_of (asking lower st)) asked.sizes in
      not-cut 65535 (lower.assertions ++ map tell_assertion denied) (omega (arith, s.assertions))

  told_ranged : AllByRecursion (Ranged (counts_of (asking lower st))) (map tell_assertion denied)
  told_ranged =
      all_append_right (Ranged (counts_of (asking lower st))) lower.assertions (map tell_assertion denied)
      (subst (AllByRecursion (Ranged (counts_of (asking lower st)))) uncut (assertions_ranged (asking lower st) asked.rows))

  uncapped : map tell_assertion denied ≡ denied
  uncapped =
      map-unchanged tell_assertion (Ranged (counts_of (asking lower st)))
      (assertion_told (counts_of (asking lower st)) (sizes-small (counts_of (asking lower st)) asked.sizes)) denied told_ranged

  -- the rows of the base below, then those that deny the statement
  pub asked-rows : (asking lower st).assertions ≡ lower.assertions ++ denial lower.individuals st
  asked-rows = uncut ∙ ap (λ as'. lower.assertions ++ as') uncapped

  -- what denies the statement names only what the question has
  pub denial_ranged : AllByRecursion (Ranged (counts_of (asking lower st))) (denial lower.individuals st)
  denial_ranged = subst (AllByRecursion (Ranged (counts_of (asking lower st)))) uncapped told_ranged
