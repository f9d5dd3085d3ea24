-- Questions: what the base that asks a statement says of the base below.
use Rattle.std.proofs.Common.{◌≡◌, ℕ, ◌<◌, ◌⊎◌, List, ◌++◌, length, sym, subst, inl, inr, ⊎_elim}
use Rattle.std.proofs.ByRecursion.{All-append, All-weaker}
use Rattle.std.proofs.lemmas.Slice.Eq.{bytes_eq-Decides}
use Rattle.std.proofs.lemmas.Bool.{and_parts, both_ways, cases_Bool, ltb-true}
use Rattle.std.specs.List.{AllByRecursion}
use Rattle.std.specs.Str.{bytes_eq}
use Rattle.kb.proofs.NameLaws.{complement_entry}
use Rattle.kb.specs.declared.axioms.Inclusion.{Inclusion as InclusionRow}
use Rattle.kb.specs.declared.statement.Statement.{Statement}
use Rattle.kb.specs.declared.statement.Statement.TheVariants.{Key, Inclusion, Same}
use Rattle.kb.specs.Check.{InRange}
use Rattle.kb.specs.Interpretations.{Asserted, Element, Interpretation, Lawful, Satisfies, SatisfiesStatement, Share}
use Rattle.kb.specs.Meanings.{Meaning, counts_of}
use Rattle.kb.specs.Names.{complement, entry_number}
use Rattle.kb.specs.Numbers.{pair_list}
use Rattle.kb.specs.Questions.{asking, denial}
use Rattle.kb.specs.Range.{concept_in_range}
use Rattle.theorem.proofs.AllRows.{all_append_left, all_append_right, all_from_rows, all_row_at}
use Rattle.theorem.proofs.AskedRows.{Ranged, asked-rows, assertions_ranged, denial_ranged}
use Rattle.theorem.proofs.Denying.{Extends, inclusion_broken, inclusion_denied, key_broken, key_denied, same-denied}
use Rattle.theorem.proofs.Reassigned.{asserted_reassigned, asserted_true, given, key_reassigned, lawful_reassigned, reassigned}
use Rattle.theorem.proofs.TableSound.{Agree, complement_no, complement_yes}
use Rattle.theorem.proofs.Truth.{True}
use Rattle.theorem.specs.Asking.{Asked, ClosedEntails, OpenBreaks, Unsatisfiable}

-- two elements are one or not
one-or-not : (e f : List ℕ) → (e ≡ f) ⊎ (e ≡ f → ⊥)
one-or-not e f =
    let d = bytes_eq-Decides e f in
    ⊎_elim (λ t. inl (d.0 t)) (λ no. inr (λ q. both_ways (bytes_eq e f) no (d.1 q))) (cases_Bool (bytes_eq e f))

-- the second concept of an inclusion that is asked is of the lexicon
sup_there : (lower : Meaning) (i : InclusionRow) → Asked lower (Inclusion i) → entry_number i.sup < length lower.entries
sup_there lower i asked =
    let n = counts_of (asking lower (Inclusion i)) in
    let p = and_parts (concept_in_range n (complement i.sup)) _ (denial_ranged lower (Inclusion i) asked).1.0 in
    subst (λ (k : ℕ). k < length lower.entries) (complement_entry i.sup) (ltb-true (entry_number (complement i.sup)) (length lower.entries) p.0)

module _ (lower : Meaning) (I : Interpretation) (lawful : Lawful I lower.entries) where
  module _ (range : InRange lower) (satisfies : Satisfies I lower) where
    -- the individuals below keep their elements, so the base below stays satisfied
    lower_asserted : (at : ℕ → List ℕ) → Agree lower.individuals (given I) at → AllByRecursion (Asserted (reassigned I at)) lower.assertions
    lower_asserted at agree =
        all_from_rows (Asserted (reassigned I at)) lower.assertions (λ k a e.
        asserted_reassigned I at a
        (asserted_true I at (counts_of lower) agree a
        (all_row_at (Ranged (counts_of lower)) lower.assertions (assertions_ranged lower range) k a e)
        (satisfies.assertions k a e)))

    -- where what denies the statement is true by such an assignment, the question is satisfied
    extends_satisfies : (st : Statement) → Asked lower st → (x : Extends I lower.individuals (given I) (denial lower.individuals st)) → Satisfies (reassigned I x.next) (asking lower st)
    extends_satisfies st asked x =
        let P = Asserted (reassigned I x.next) in
        let denied = denial lower.individuals st in
        let both : AllByRecursion P (lower.assertions ++ denied) =
        All-append P lower.assertions denied (lower_asserted x.next x.agree)
        (All-weaker (True I x.next) P (asserted_reassigned I x.next) denied x.true_facts) in
        record {
          assertions = all_row_at P (asking lower st).assertions (subst (AllByRecursion P) (sym (asked-rows lower st asked)) both);
          inclusions = satisfies.inclusions;
          keys = λ k key e. key_reassigned I x.next key (satisfies.keys k key e);
        }

    not-denied : (st : Statement) → Asked lower st → Unsatisfiable (asking lower st) → Extends I lower.individuals (given I) (denial lower.individuals st) → ⊥
    not-denied st asked none x =
        none (reassigned I x.next) (lawful_reassigned I x.next lower.entries lawful x.elements) (extends_satisfies st asked x)

    elements : (x : ℕ) → Element I (given I x)
    elements x = lawful.individuals (record { 0 = x })

    -- a statement that cannot be denied is satisfied
    follows : (st : Statement) → Asked lower st → Unsatisfiable (asking lower st) → SatisfiesStatement I st
    follows (Key c d pairs) asked none = λ e f de df ce cf share.
        ⊎_elim (λ q. q)
        (λ apart. absurd (not-denied (Key c d pairs) asked none
        (key_denied I lower.individuals (given I) elements c d pairs e f de df ce cf (all_from_rows (Share I e f) (pair_list pairs) share) apart)))
        (one-or-not e f)
    follows (Inclusion i) asked none = λ e de sub.
        ⊎_elim (λ q. q)
        (λ no. absurd (not-denied (Inclusion i) asked none
        (inclusion_denied I lower.individuals (given I) elements i e de sub (complement_yes I lower range lawful satisfies e i.sup de (sup_there lower i asked) no))))
        (cases_Bool (I.concept e i.sup))
    follows (Same a b) asked none =
        ⊎_elim (λ q. q)
        (λ apart. absurd (not-denied (Same a b) asked none (same-denied I lower.individuals (given I) elements a b apart)))
        (one-or-not (I.individual a) (I.individual b))

  module _ (st : Statement) (asked : Asked lower st) (satisfies : Satisfies I (asking lower st)) where
    asked_asserted : AllByRecursion (Asserted I) (lower.assertions ++ denial lower.individuals st)
    asked_asserted =
        subst (AllByRecursion (Asserted I)) (asked-rows lower st asked)
        (all_from_rows (Asserted I) (asking lower st).assertions satisfies.assertions)

    lower_satisfied : Satisfies I lower
    lower_satisfied =
        record {
          assertions = all_row_at (Asserted I) lower.assertions (all_append_left (Asserted I) lower.assertions (denial lower.individuals st) asked_asserted);
          inclusions = satisfies.inclusions;
          keys = satisfies.keys;
        }

    denial_asserted : AllByRecursion (Asserted I) (denial lower.individuals st)
    denial_asserted = all_append_right (Asserted I) lower.assertions (denial lower.individuals st) asked_asserted

  -- a statement that is denied is broken
  broken : (st : Statement) (asked : Asked lower st) → Satisfies I (asking lower st) → SatisfiesStatement I st → ⊥
  broken (Key c d pairs) asked s = key_broken I lawful.individuals lower.individuals c d pairs (denial_asserted (Key c d pairs) asked s)
  broken (Inclusion i) asked s =
      inclusion_broken I lawful.individuals lower.individuals i
      (λ e de. complement_no I (asking lower (Inclusion i)) asked.rows lawful s e i.sup de (sup_there lower i asked))
      (denial_asserted (Inclusion i) asked s)
  broken (Same a b) asked s = (denial_asserted (Same a b) asked s).0

pub closed_entails : ClosedEntails
closed_entails lower st range asked none I lawful satisfies = follows lower I lawful range satisfies st asked none

pub open_breaks : OpenBreaks
open_breaks lower st asked I lawful satisfies = (lower_satisfied lower I lawful st asked satisfies, broken lower I lawful st asked satisfies)
