-- An interpretation that gives individuals other elements: the lexicon's laws stay, and so does a base that names only
-- individuals whose elements stay.
use Rattle.std.proofs.Common.{◌≡◌, ℕ, true, ◌&&◌, List, sym, ◌∙◌}
use Rattle.std.proofs.lemmas.Bool.{and_parts, ltb-true}
use Rattle.kb.specs.declared.axioms.Assertion.{Assertion}
use Rattle.kb.specs.declared.axioms.Assertion.TheVariants.{Is, Joins, Same, Different, Unlisted}
use Rattle.kb.specs.declared.axioms.Key.{Key as KeyRow}
use Rattle.kb.specs.declared.axioms.Key.TheVariants.{Link, Unlisted as UnlistedKey}
use Rattle.kb.specs.declared.counts.Counts.{Counts}
use Rattle.kb.specs.declared.lexicon.Entry.{Entry}
use Rattle.kb.specs.declared.lexicon.Entry.TheVariants.{Top, Name, Both, Some, Unlisted as UnlistedEntry}
use Rattle.kb.specs.declared.names.Individual.{Individual}
use Rattle.kb.specs.Interpretations.{Asserted, Element, EntryAt, Interpretation, KeyedRow, Lawful}
use Rattle.kb.specs.Range.{concept_in_range, individual_in_range, role_in_range}
use Rattle.theorem.proofs.AskedRows.{Ranged}
use Rattle.theorem.proofs.TableSound.{Agree}
use Rattle.theorem.proofs.Truth.{True}

-- The elements of the individuals.
abbrev pub given : Interpretation → ℕ → List ℕ
given I x = I.individual (record { 0 = x })

-- The interpretation with the element `at x` for individual x.
abbrev pub reassigned : Interpretation → (ℕ → List ℕ) → Interpretation
reassigned I at =
    record { element = I.element; some = I.some; individual = λ x. at x.0; concept = I.concept; joins = I.joins }

module _ (I : Interpretation) (at : ℕ → List ℕ) where
  -- what an entry or a key says does not speak of individuals
  entry_reassigned : (e : List ℕ) (k : ℕ) (entry : Entry) → EntryAt I e k entry → EntryAt (reassigned I at) e k entry
  entry_reassigned e k Top h = h
  entry_reassigned e k Name h = h
  entry_reassigned e k (Both c d) h = h
  entry_reassigned e k (Some r c) h = h
  entry_reassigned e k (UnlistedEntry kind) h = h

  pub key_reassigned : (key : KeyRow) → KeyedRow I key → KeyedRow (reassigned I at) key
  key_reassigned (Link c d pairs) h = h
  key_reassigned (UnlistedKey count) h = h

  pub lawful_reassigned : (lexicon : List Entry) → Lawful I lexicon → ((x : ℕ) → Element I (at x)) → Lawful (reassigned I at) lexicon
  lawful_reassigned lexicon lawful elements =
      record {
        inhabited = lawful.inhabited;
        individuals = λ x. elements x.0;
        top = lawful.top;
        complement = lawful.complement;
        entries = λ e k entry d f. entry_reassigned e k entry (lawful.entries e k entry d f);
      }

  -- an assertion is satisfied if it is true by the assignment
  pub asserted_reassigned : (a : Assertion) → True I at a → Asserted (reassigned I at) a
  asserted_reassigned (Is c x) h = h
  asserted_reassigned (Joins r x y) h = h
  asserted_reassigned (Same x y) h = h
  asserted_reassigned (Different x y) h = h
  asserted_reassigned (Unlisted kind) h = h

  -- one that names individuals in range stays true where these keep their elements
  module _ (n : Counts) (agree : Agree n.individuals (given I) at) where
    kept : (x : Individual) → individual_in_range n x ≡ true → at x.0 ≡ I.individual x
    kept x e = agree x.0 (ltb-true x.0 n.individuals e)

    pub asserted_true : (a : Assertion) → Ranged n a → Asserted I a → True I at a
    asserted_true (Is c x) r h =
        let p = and_parts (concept_in_range n c) (individual_in_range n x) r in
        cc (kept x p.1, h)
    asserted_true (Joins s x y) r h =
        let p = and_parts (role_in_range n s) (individual_in_range n x && individual_in_range n y) r in
        let q = and_parts (individual_in_range n x) (individual_in_range n y) p.1 in
        cc (kept x q.0, kept y q.1, h)
    asserted_true (Same x y) r h =
        let p = and_parts (individual_in_range n x) (individual_in_range n y) r in
        kept x p.0 ∙ h ∙ sym (kept y p.1)
    asserted_true (Different x y) r h =
        let p = and_parts (individual_in_range n x) (individual_in_range n y) r in
        λ e. h (sym (kept x p.0) ∙ e ∙ kept y p.1)
    asserted_true (Unlisted kind) r h = h
