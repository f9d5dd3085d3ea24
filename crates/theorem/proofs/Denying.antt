-- A statement and what denies it: a counterexample makes every denying assertion true by an assignment that keeps the
-- elements of the individuals there are, and where the denying assertions are satisfied the statement is broken.
use Rattle.std.proofs.Common.{◌≡◌, ℕ, suc, ◌+◌, ◌<◌, eqb, List, [], ◌∷◌, sym, refl, ◌∙◌, arith}
use Rattle.std.proofs.lemmas.Bool.{cond_both}
use Rattle.std.specs.List.{AllByRecursion}
use Rattle.kb.specs.declared.axioms.Assertion.{Assertion}
use Rattle.kb.specs.declared.axioms.Inclusion.{Inclusion as InclusionRow}
use Rattle.kb.specs.declared.axioms.RolePair.{RolePair}
use Rattle.kb.specs.declared.axioms.RolePairs.{RolePairs}
use Rattle.kb.specs.declared.names.Concept.{Concept}
use Rattle.kb.specs.declared.names.Individual.{Individual}
use Rattle.kb.specs.declared.statement.Statement.TheVariants.{Key, Inclusion, Same}
use Rattle.kb.specs.Interpretations.{Asserted, Element, In, Interpretation, SatisfiesStatement, Share}
use Rattle.kb.specs.Names.{complement}
use Rattle.kb.specs.Numbers.{pair_list}
use Rattle.kb.specs.Questions.{denial, shared_values}
use Rattle.theorem.proofs.AllRows.{all_row_at}
use Rattle.theorem.proofs.TableSound.{Agree, assigned, assigned-new, assigned_old}
use Rattle.theorem.proofs.Truth.{True}

module _ (I : Interpretation) where
  -- An assignment that goes on from `at`, where there are n individuals, and makes assertions true.
  pub record Extends (n : ℕ) (at : ℕ → List ℕ) (facts : List Assertion) : Type 0 where
    pub next : ℕ → List ℕ
    pub elements : (x : ℕ) → Element I (next x)
    pub agree : Agree n at next
    pub true_facts : AllByRecursion (True I next) facts

  abbrev Elements : (ℕ → List ℕ) → Type 0
  Elements at = (x : ℕ) → Element I (at x)

  assigned-elements : (at : ℕ → List ℕ) (n : ℕ) (e : List ℕ) → Elements at → Element I e → Elements (assigned at n e)
  assigned-elements at n e h d x = cond_both (eqb x n) e (at x) (Element I) (λ _. d) (λ _. h x)

  -- the values that e and f share are those of new individuals
  shared_true : (e f : List ℕ) (x y : Individual) (pairs : List RolePair) → AllByRecursion (Share I e f) pairs → (z : ℕ) (at : ℕ → List ℕ) → Elements at → x.0 < z → y.0 < z → at x.0 ≡ e → at y.0 ≡ f → Extends z at (shared_values x y z pairs)
  shared_true e f x y [] s z at d lx ly ex ey = record { next = at; elements = d; agree = λ u l. refl; true_facts = tt }
  shared_true e f x y (p ∷ ps) s z at d lx ly ex ey =
      let g = s.0.0 in
      let h = shared_true e f x y ps s.1 (suc z) (assigned at z g) (assigned-elements at z g d s.0.1) (omega arith) (omega arith)
      (assigned_old at z g x.0 lx ∙ ex) (assigned_old at z g y.0 ly ∙ ey) in
      let old : Agree z at h.next = λ u l. h.agree u (omega arith) ∙ assigned_old at z g u l in
      let new : h.next z ≡ g = h.agree z (omega arith) ∙ assigned-new at z g in
      record {
        next = h.next;
        elements = h.elements;
        agree = old;
        true_facts = (cc (old x.0 lx ∙ ex, new, s.0.2), (cc (old y.0 ly ∙ ey, new, s.0.3), h.true_facts));
      }

  -- two elements that break a key are those of two new individuals
  pub key_denied : (n : ℕ) (at : ℕ → List ℕ) → Elements at → (c d : Concept) (pairs : RolePairs) (e f : List ℕ) → Element I e → Element I f → In I c e → In I d f → AllByRecursion (Share I e f) (pair_list pairs) → (e ≡ f → ⊥) → Extends n at (denial n (Key c d pairs))
  key_denied n at h c d pairs e f de df ce cf s apart =
      let one = assigned at n e in
      let two = assigned one (n + 1) f in
      let x : two n ≡ e = assigned_old one (n + 1) f n (omega arith) ∙ assigned-new at n e in
      let y : two (n + 1) ≡ f = assigned-new one (n + 1) f in
      let r = shared_true e f (record { 0 = n }) (record { 0 = n + 1 }) (pair_list pairs) s (n + 2) two
      (assigned-elements one (n + 1) f (assigned-elements at n e h de) df) (omega arith) (omega arith) x y in
      let ex : r.next n ≡ e = r.agree n (omega arith) ∙ x in
      let ey : r.next (n + 1) ≡ f = r.agree (n + 1) (omega arith) ∙ y in
      record {
        next = r.next;
        elements = r.elements;
        agree = λ u l. r.agree u (omega arith) ∙ assigned_old one (n + 1) f u (omega arith) ∙ assigned_old at n e u l;
        true_facts = (cc (ex, ce), (cc (ey, cf), ((λ q. apart (sym ex ∙ q ∙ ey)), r.true_facts)));
      }

  -- an element that breaks an inclusion is that of a new individual
  pub inclusion_denied : (n : ℕ) (at : ℕ → List ℕ) → Elements at → (i : InclusionRow) (e : List ℕ) → Element I e → In I i.sub e → In I (complement i.sup) e → Extends n at (denial n (Inclusion i))
  inclusion_denied n at h i e de sub sup =
      let new = assigned-new at n e in
      record {
        next = assigned at n e;
        elements = assigned-elements at n e h de;
        agree = assigned_old at n e;
        true_facts = (cc (new, sub), (cc (new, sup), tt));
      }

  -- two individuals that are not one need no new individual
  pub same-denied : (n : ℕ) (at : ℕ → List ℕ) → Elements at → (a b : Individual) → (at a.0 ≡ at b.0 → ⊥) → Extends n at (denial n (Same a b))
  same-denied n at h a b apart = record { next = at; elements = h; agree = λ u l. refl; true_facts = (apart, tt) }

  module _ (individuals : (x : Individual) → Element I (I.individual x)) where
    -- where new individuals are joined to values, the values are shared
    shared_from : (x y : Individual) (z : ℕ) (pairs : List RolePair) → AllByRecursion (Asserted I) (shared_values x y z pairs) → AllByRecursion (Share I (I.individual x) (I.individual y)) pairs
    shared_from x y z [] a = tt
    shared_from x y z (p ∷ ps) a =
        ((I.individual (record { 0 = z }), individuals (record { 0 = z }), a.0, a.1.0), shared_from x y (suc z) ps a.1.1)

    -- where what denies a key is satisfied, the key is broken
    pub key_broken : (n : ℕ) (c d : Concept) (pairs : RolePairs) → AllByRecursion (Asserted I) (denial n (Key c d pairs)) → SatisfiesStatement I (Key c d pairs) → ⊥
    key_broken n c d pairs a s =
        let x : Individual = record { 0 = n } in
        let y : Individual = record { 0 = n + 1 } in
        a.1.1.0 (s (I.individual x) (I.individual y) (individuals x) (individuals y) a.0 a.1.0
        (all_row_at (Share I (I.individual x) (I.individual y)) (pair_list pairs) (shared_from x y (n + 2) (pair_list pairs) a.1.1.1)))

    -- so is an inclusion, where no element is in its second concept and in the complement
    pub inclusion_broken : (n : ℕ) (i : InclusionRow) → ((e : List ℕ) → Element I e → In I i.sup e → In I (complement i.sup) e → ⊥) → AllByRecursion (Asserted I) (denial n (Inclusion i)) → SatisfiesStatement I (Inclusion i) → ⊥
    inclusion_broken n i not-both a s =
        let x : Individual = record { 0 = n } in
        not-both (I.individual x) (individuals x) (s (I.individual x) (individuals x) a.0) a.1.0
