-- Which of two facts are missing: the second is looked up after the first was written.
use Rattle.std.proofs.Common.{◌≡◌, Bool, true, false, cond, not, ◌&&◌, ◌||◌, eqb, List, [], ◌∷◌, ◌++◌, sym, refl, ap, ◌∙◌, ⊎_elim}
use mathlib.Core.Bool.{or_assoc, or_comm}
use Rattle.std.proofs.lemmas.List.{append-nil}
use Rattle.std.proofs.lemmas.List.Folds.{list_any-append}
use Rattle.std.proofs.lemmas.Bool.{cases_Bool, eq-eqb, eqb-true}
use Rattle.std.specs.Bool.{then_some}
use Rattle.std.specs.List.{list_any}
use Rattle.std.specs.Option.{option_to_list}
use Rattle.kb.specs.declared.axioms.Assertion.{Assertion}
use Rattle.kb.specs.declared.axioms.Assertion.TheVariants.{Is, Joins}
use Rattle.kb.specs.declared.names.Concept.{Concept}
use Rattle.kb.specs.declared.names.Individual.{Individual}
use Rattle.kb.specs.declared.names.Role.{Role}
use Rattle.kb.specs.Meanings.{Meaning}
use Rattle.calculus.specs.declared.row_kinds.ConceptRow.{ConceptRow}
use Rattle.calculus.specs.Branches.{Branch, concept_row_holds, head_of, held}
use Rattle.calculus.specs.StepLaws.{appended, missing}

and_true : (a b : Bool) → b ≡ true → (a && b) || false ≡ a
and_true true b e = rw e
and_true false b e = refl

-- those of two facts that are not held
abbrev pub left_of : Assertion → Bool → Assertion → Bool → List Assertion
left_of first a second b = option_to_list (then_some (not a) first) ++ option_to_list (then_some (not b) second)

module _ (m : Meaning) (b : Branch) where
  -- a concept row behind the others holds its own concept of its individual, and no other
  held-behind-concept : (d e : Concept) (x : Individual) → held m (appended (Is d x ∷ []) b) (Is e x) ≡ held m b (Is e x) || eqb d.0 e.0
  held-behind-concept d e x =
      let row : ConceptRow = record { concept = d; individual = x } in
      rw (append-nil b.pairs)
      (ap (λ h. eqb e.0 0 || h)
      (list_any-append (concept_row_holds m b e x) b.concepts (row ∷ [])
      ∙ ap (λ h. list_any (concept_row_holds m b e x) b.concepts || h)
      (and_true (eqb d.0 e.0) _ (eq-eqb (head_of b.pairs x.0) (head_of b.pairs x.0) refl)))
      ∙ sym (or_assoc (eqb e.0 0) (list_any (concept_row_holds m b e x) b.concepts) (eqb d.0 e.0)))

  -- a role row behind the others holds no concept
  held-behind-role : (r : Role) (x y : Individual) (d : Concept) (z : Individual) → held m (appended (Joins r x y ∷ []) b) (Is d z) ≡ held m b (Is d z)
  held-behind-role r x y d z = rw (append-nil b.pairs, append-nil b.concepts)

  -- a fact that is left out where it is held
  left_out : (k : Bool) (a : Assertion) → option_to_list (then_some (not k) a) ≡ cond k [] (a ∷ [])
  left_out true a = refl
  left_out false a = refl

  -- of two facts, where it is known whether the second is held once the first is
  missing-two :
      (first second : Assertion) (a k : Bool) → a ≡ held m b first → (a ≡ true → k ≡ held m b second) → (a ≡ false → k ≡ held m (appended (first ∷ []) b) second)
      → left_of first a second k ≡ missing m b (first ∷ second ∷ [])
  missing-two first second true k e f g = rw (left_out k second, ← e, ← f refl)
  missing-two first second false k e f g = rw (left_out k second, ← e, ← g refl)

  pub missing-reached : (r : Role) (x y : Individual) (d : Concept) (a k : Bool) → a ≡ held m b (Joins r x y) → k ≡ held m b (Is d y) → left_of (Joins r x y) a (Is d y) k ≡ missing m b (Joins r x y ∷ Is d y ∷ [])
  missing-reached r x y d a k e f = missing-two (Joins r x y) (Is d y) a k e (λ _. f) (λ _. f ∙ sym (held-behind-role r x y d y))

  -- of two parts, the second is held once the first is if it was held before or is the same
  pub missing-parts :
      (d e : Concept) (x : Individual) (a k : Bool) → a ≡ held m b (Is d x) → k ≡ eqb d.0 e.0 || held m b (Is e x)
      → left_of (Is d x) a (Is e x) k ≡ missing m b (Is d x ∷ Is e x ∷ [])
  missing-parts d e x a k f g =
      missing-two (Is d x) (Is e x) a k f
      (λ h. g ∙ ⊎_elim
      (λ q. rw q (sym h ∙ f ∙ ap (λ c. held m b (Is (record { 0 = c }) x)) (eqb-true d.0 e.0 q)))
      (λ q. rw q)
      (cases_Bool (eqb d.0 e.0)))
      (λ _. g ∙ or_comm (eqb d.0 e.0) (held m b (Is e x)) ∙ sym (held-behind-concept d e x))
