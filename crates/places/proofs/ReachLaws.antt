-- A role goes to some individual that passes a test exactly if some row goes there.
use Rattle.std.proofs.Common.{◌≡◌, ℕ, Bool, ◌<◌, ◌≤◌, true, ◌&&◌, ◌||◌, eqb, refl, ap, ◌∙◌, ⊎_elim, arith}
use Rattle.std.proofs.lemmas.Bool.{and_from, and_parts, cases_lt, eq-eqb, eqb-true, lt-ltb, ltb-true}
use Rattle.std.proofs.lemmas.Bool.Decides.{same_from_decides}
use Rattle.std.specs.List.{list_any}
use Rattle.kb.specs.declared.axioms.Assertion.TheVariants.{Is, Joins}
use Rattle.kb.specs.declared.names.Concept.{Concept}
use Rattle.kb.specs.declared.names.Individual.{Individual}
use Rattle.kb.specs.declared.names.Role.{Role}
use Rattle.kb.specs.Meanings.{Meaning}
use Rattle.calculus.specs.declared.row_kinds.ConceptRow.{ConceptRow}
use Rattle.calculus.specs.declared.row_kinds.RoleRow.{RoleRow}
use Rattle.calculus.specs.Branches.{Branch, equal, head_of, held, role_holds, role_row_holds, self}
use Rattle.calculus.specs.Review.{individual}
use Rattle.calculus.specs.Table.{below}
use Rattle.calculus.proofs.DecidingLaws.{decides_any, decides_some_under, decides_true}
use Rattle.calculus.proofs.EqualityLaws.{heads_are_least}
use Rattle.places.specs.Reaching.{PassAlike, reaches_one}

module _ (m : Meaning) (b : Branch) where
  -- a row goes from x to an individual of the sheet that passes a test, and to which the role goes
  abbrev pub row_reaches : Role → Individual → (Individual → Bool) → RoleRow → Bool
  row_reaches r x test row =
      equal b.pairs row.from x && (below b.individuals row.to && (held m b (Joins r x row.to) && test row.to))

  -- a concept is held of equal individuals alike, and a role goes to them alike
  pub is_alike : (c : Concept) → PassAlike b (λ y. held m b (Is c y))
  is_alike c v w e =
      ap (λ (h : ℕ). eqb c.0 0 || list_any (λ (row : ConceptRow). eqb row.concept.0 c.0 && eqb (head_of b.pairs row.individual.0) h) b.concepts)
      (eqb-true (head_of b.pairs v.0) (head_of b.pairs w.0) e)

  pub joins_alike : (r : Role) (z : Individual) → PassAlike b (λ y. held m b (Joins r z y))
  joins_alike r z v w e =
      ap (λ (h : ℕ). list_any (λ (row : RoleRow). role_holds m row.role r && (equal b.pairs row.from z && eqb (head_of b.pairs row.to.0) h)) b.roles)
      (eqb-true (head_of b.pairs v.0) (head_of b.pairs w.0) e)

  -- an individual that is equal to one of the sheet is one of the sheet, where those beyond are equal to none
  on-sheet : ((y : ℕ) → b.individuals ≤ y → head_of b.pairs y ≡ y) → (v : Individual) (y : ℕ) → y < b.individuals → head_of b.pairs v.0 ≡ head_of b.pairs y → v.0 < b.individuals
  on-sheet beyond v y lt e =
      ⊎_elim (λ l. l)
      (λ ge. let own = beyond v.0 ge in let low = heads_are_least.least b.pairs (individual y) (individual y) self in absurd (omega arith))
      (cases_lt v.0 b.individuals)

  pub rows_reach : ((y : ℕ) → b.individuals ≤ y → head_of b.pairs y ≡ y) → (r : Role) (x : Individual) (test : Individual → Bool) → PassAlike b test
      → list_any (row_reaches r x test) b.roles ≡ reaches_one m b r x test
  rows_reach beyond r x test alike = same_from_decides _ _ (there, back) (decides_true (reaches_one m b r x test))
    where
      there : list_any (row_reaches r x test) b.roles ≡ true → reaches_one m b r x test ≡ true
      there t =
          let (n, row, _, passes) = (decides_any (λ w. decides_true (row_reaches r x test w)) b.roles).0 t in
          let (_, rest) = and_parts (equal b.pairs row.from x) (below b.individuals row.to && (held m b (Joins r x row.to) && test row.to)) passes in
          let (low, holds) = and_parts (below b.individuals row.to) (held m b (Joins r x row.to) && test row.to) rest in
          (decides_some_under (λ y. decides_true (held m b (Joins r x (individual y)) && test (individual y))) b.individuals).1
          (row.to.0, ltb-true row.to.0 b.individuals low, holds)

      back : reaches_one m b r x test ≡ true → list_any (row_reaches r x test) b.roles ≡ true
      back t =
          let (y, lt, both) = (decides_some_under (λ y. decides_true (held m b (Joins r x (individual y)) && test (individual y))) b.individuals).0 t in
          let (goes, fact) = and_parts (held m b (Joins r x (individual y))) (test (individual y)) both in
          let (n, row, here, says) = (decides_any (λ w. decides_true (role_row_holds m b r x (individual y) w)) b.roles).0 goes in
          let (role, ends) = and_parts (role_holds m row.role r) (equal b.pairs row.from x && equal b.pairs row.to (individual y)) says in
          let (from, to) = and_parts (equal b.pairs row.from x) (equal b.pairs row.to (individual y)) ends in
          let same = eqb-true (head_of b.pairs row.to.0) (head_of b.pairs y) to in
          let goes-there =
          (decides_any (λ w. decides_true (role_row_holds m b r x row.to w)) b.roles).1
          (n, row, here, and_from _ _ role (and_from _ _ from (eq-eqb (head_of b.pairs row.to.0) (head_of b.pairs row.to.0) refl))) in
          (decides_any (λ w. decides_true (row_reaches r x test w)) b.roles).1
          (n, row, here, and_from _ _ from (and_from _ _ (lt-ltb row.to.0 b.individuals (on-sheet beyond row.to y lt same)) (and_from _ _ goes-there (alike row.to (individual y) to ∙ fact))))
