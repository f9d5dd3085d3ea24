-- A concept that no row has is held of nothing, and nothing is found where it is asked about.
use Rattle.std.proofs.Common.{◌≡◌, ℕ, Bool, true, false, cond, not, ◌&&◌, ◌||◌, eqb, List, [], ◌∷◌, Some, None, Option, refl, ap, ◌∙◌, arith}
use Rattle.std.proofs.lemmas.Bool.{and_left, ne_eqb, or_from, or_parts}
use Rattle.std.specs.List.{find, list_any}
use Rattle.kb.specs.declared.axioms.Assertion.TheVariants.{Is}
use Rattle.kb.specs.declared.lexicon.Entry.{Entry}
use Rattle.kb.specs.declared.lexicon.Entry.TheVariants.{Top, Name, Both, Some as SomeEntry, Unlisted}
use Rattle.kb.specs.declared.names.Concept.{Concept}
use Rattle.kb.specs.declared.names.Individual.{Individual}
use Rattle.kb.specs.Meanings.{Meaning}
use Rattle.calculus.specs.declared.row_kinds.ConceptRow.{ConceptRow}
use Rattle.calculus.specs.Branches.{Branch, concept_row_holds, equal, held}
use Rattle.calculus.specs.Review.{blocked, concept, individual}
use Rattle.failures.specs.declared.failure.EntryCondition.{EntryCondition}
use Rattle.failures.specs.declared.failure.EntryCondition.TheVariants.{BothParts, AllReached, EitherPart, SomeReached}
use Rattle.failures.specs.declared.failure.Failure.{Failure}
use Rattle.failures.specs.declared.failure.Failure.TheVariants.{Clash}
use Rattle.failures.specs.Failures.{clash_at, entry_at, first_of_entry, first_on_sheet, unless_blocked}
use Rattle.conditions.specs.Named.{concept_named, row_names}
use Rattle.conditions.proofs.FirstLaws.{first_under-nothing}

-- the test of all rows decides
pub named_none : (b : Branch) (n : ℕ) → None ≡ concept_named b n → (eqb n 0 || list_any (row_names n) b.concepts) ≡ false
named_none b n e = unnamed (eqb n 0 || list_any (row_names n) b.concepts) (concept n) e
  where
    unnamed : (t : Bool) (c : Concept) → None ≡ cond t (Some c) None → t ≡ false
    unnamed true c e = let z : ◌≡◌ {A = ℕ} 0 1 = cc in absurd (omega arith)
    unnamed false c e = refl

-- nothing passes where nothing that passes is found
neither : {X : Type 0} (t rest : Bool) (x : X) (o : Option X) → (o ≡ None → rest ≡ false) → cond t (Some x) o ≡ None → (t || rest) ≡ false
neither true rest x o after e = cc
neither false rest x o after e = after e

pub none_passes : {X : Type 0} (test : X → Bool) (xs : List X) → find test xs ≡ None → list_any test xs ≡ false
none_passes test [] e = refl
none_passes test (x ∷ xs) e = neither (test x) (list_any test xs) x (find test xs) (none_passes test xs) e

-- where no row has the concept, none is named
pub named_other : (b : Branch) (n : ℕ) → (n ≡ 0 → ⊥) → list_any (row_names n) b.concepts ≡ false → None ≡ concept_named b n
named_other b n ne f = rw (or_from (eqb n 0) (list_any (row_names n) b.concepts) (ne_eqb n 0 ne) f)

module _ (m : Meaning) (b : Branch) (n : ℕ) (none : None ≡ concept_named b n) where
  rows-unnamed : (x : Individual) (rows : List ConceptRow) → list_any (row_names n) rows ≡ false → list_any (concept_row_holds m b (concept n) x) rows ≡ false
  rows-unnamed x [] e = refl
  rows-unnamed x (row ∷ rows) e =
      let (here, rest) = or_parts (row_names n row) (list_any (row_names n) rows) e in
      or_from _ _ (and_left (row_names n row) (equal b.pairs row.individual x) here) (rows-unnamed x rows rest)

  pub unnamed-held : (x : Individual) → held m b (Is (concept n) x) ≡ false
  unnamed-held x =
      let (zero, rows) = or_parts (eqb n 0) (list_any (row_names n) b.concepts) (named_none b n none) in
      or_from (eqb n 0) _ zero (rows-unnamed x b.concepts rows)

  entry_unnamed : (which : EntryCondition) (row : Entry) (x : ℕ) → entry_at m b which (concept n) row x ≡ None
  entry_unnamed BothParts Top x = refl
  entry_unnamed BothParts Name x = refl
  entry_unnamed BothParts (Both d e) x = rw (unnamed-held (individual x))
  entry_unnamed BothParts (SomeEntry r d) x = refl
  entry_unnamed BothParts (Unlisted kind) x = refl
  entry_unnamed AllReached Top x = refl
  entry_unnamed AllReached Name x = refl
  entry_unnamed AllReached (Both d e) x = refl
  entry_unnamed AllReached (SomeEntry r d) x = rw (unnamed-held (individual x))
  entry_unnamed AllReached (Unlisted kind) x = refl
  entry_unnamed EitherPart Top x = refl
  entry_unnamed EitherPart Name x = refl
  entry_unnamed EitherPart (Both d e) x = rw (unnamed-held (individual x))
  entry_unnamed EitherPart (SomeEntry r d) x = refl
  entry_unnamed EitherPart (Unlisted kind) x = refl
  entry_unnamed SomeReached Top x = refl
  entry_unnamed SomeReached Name x = refl
  entry_unnamed SomeReached (Both d e) x = refl
  entry_unnamed SomeReached (SomeEntry r d) x = rw (unnamed-held (individual x))
  entry_unnamed SomeReached (Unlisted kind) x = refl

  nothing_either_way : (t : Bool) → cond {A = Option Failure} t None None ≡ None
  nothing_either_way true = refl
  nothing_either_way false = refl

  pub first-unnamed : (which : EntryCondition) (row : Entry) → None ≡ first_of_entry m b which n row
  first-unnamed which row =
      first_under-nothing (λ x. unless_blocked m b x (entry_at m b which (concept n) row x)) b.individuals
      (λ x. ap (unless_blocked m b x) (entry_unnamed which row x) ∙ nothing_either_way (blocked m b x))

  pub clash_unnamed : (d : Concept) → None ≡ first_on_sheet m b (clash_at m b (concept n) d)
  clash_unnamed d = first_under-nothing (clash_at m b (concept n) d) b.individuals (λ x. rw (unnamed-held (individual x)))

  pub clash_with_unnamed : (c : Concept) → None ≡ first_on_sheet m b (clash_at m b c (concept n))
  clash_with_unnamed c = first_under-nothing (clash_at m b c (concept n)) b.individuals (λ x. at x (held m b (Is c (individual x))))
    where
      at : (x : ℕ) (t : Bool) → cond (not (t && held m b (Is (concept n) (individual x)))) None (Some (Clash c (individual x))) ≡ None
      at x true = rw (unnamed-held (individual x))
      at x false = refl
