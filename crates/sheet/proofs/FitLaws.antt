-- What base and ledgers that are the sheet's give a look-up, and a right side that is taken up.
use Rattle.std.proofs.Common.{◌≡◌, ℕ, ◌≤◌, Bool, true, leb, ◌&&◌, List, [], ◌∷◌, take, Some, Ok, refl, sym, ap, ◌∙◌, ⊎_elim, arith}
use Rattle.std.proofs.lemmas.Bool.{and_parts, cases_Bool, le-leb, leb-true}
use Rattle.std.proofs.lemmas.List.Elements.{All-take}
use Rattle.std.proofs.lemmas.List.Sums.{AllPass-from_list_all, list_all-from_AllPass}
use Rattle.std.specs.List.{list_all}
use Rattle.kb.specs.declared.counts.Counts.{Counts}
use Rattle.kb.specs.Meanings.{Meaning, counts_of}
use Rattle.kb.specs.Range.{concept_in_range}
use Rattle.calculus.specs.declared.row_kinds.ConceptRow.{ConceptRow}
use Rattle.calculus.specs.declared.row_kinds.PairRow.{PairRow}
use Rattle.calculus.specs.declared.row_kinds.PairRow.TheVariants.{Same as SameRow, Different as DifferentRow}
use Rattle.calculus.specs.declared.row_kinds.PendingRow.{PendingRow}
use Rattle.calculus.specs.declared.row_kinds.RoleRow.{RoleRow}
use Rattle.calculus.specs.Playing.{cut_to, last_of, ready}
use Rattle.calculus.specs.States.{State, branch_of, concept_row_fits, fits, pair_row_fits, pending_row_fits, role_row_fits, row_counts, rows_fit, same_counts, same_lengths, sizes_of}
use Rattle.calculus.specs.Table.{below}
use Rattle.lookup.specs.Heads.{names_below}
use Rattle.lookup.specs.Views.{branch_over}
use Rattle.sheet.specs.Writing.{rows_shown}

module _ {A : Type 0} (test : A → Bool) where
  pub every_take : (n : ℕ) (xs : List A) → list_all test xs ≡ true → list_all test (take n xs) ≡ true
  every_take n xs e = list_all-from_AllPass test (take n xs) (All-take (λ x. test x ≡ true) n xs (AllPass-from_list_all test xs e))

  every_last : (xs : List A) (x : A) → list_all test xs ≡ true → last_of xs ≡ Some x → test x ≡ true
  every_last [] x e l = let z : ◌≡◌ {A = ℕ} 0 1 = cc in absurd (omega arith)
  every_last (y ∷ []) x e l = let same : y ≡ x = cc in ap test (sym same) ∙ (and_parts (test y) true e).0
  every_last (y ∷ z ∷ zs) x e l = every_last (z ∷ zs) x (and_parts (test y) (list_all test (z ∷ zs)) e).1 l

-- whether a same or different row fits does not depend on the base
every-names_below : (base : Counts) (n : ℕ) (ps : List PairRow) → list_all (names_below n) ps ≡ list_all (pair_row_fits base n) ps
every-names_below base n [] = refl
every-names_below base n (SameRow x y ∷ ps) = ap (λ b. names_below n (SameRow x y) && b) (every-names_below base n ps)
every-names_below base n (DifferentRow x y ∷ ps) = ap (λ b. names_below n (DifferentRow x y) && b) (every-names_below base n ps)

-- a view of rows that name only its individuals shows them
branchOver-named :
    (n : ℕ) (concepts : List ConceptRow) (roles : List RoleRow) (pairs : List PairRow) → n ≤ 65535 → list_all (names_below n) pairs ≡ true
    → branch_over n concepts roles pairs ≡ record { concepts = concepts; roles = roles; pairs = pairs; individuals = n }
branchOver-named n concepts roles pairs l e = let few : leb n 65535 ≡ true = le-leb n 65535 l in rw (few, e)

module _ (m : Meaning) (s : State) (own : fits m s ≡ true) where
  fit-rows : rows_fit s.numbers.base s.numbers.individuals s.ledgers ≡ true
  fit-rows =
      let p = and_parts (same_counts (counts_of m) s.numbers.base) _ own in
      let q = and_parts (same_lengths (sizes_of s.ledgers) s.numbers.sizes) _ p.1 in
      (and_parts (same_lengths (row_counts s.ledgers) s.numbers.rows) _ q.1).1

  fit-pairs-and-pending :
      (list_all (pair_row_fits s.numbers.base s.numbers.individuals) s.ledgers.pairs.rows ≡ true)
      × (list_all (pending_row_fits s.numbers.base s.numbers.individuals (row_counts s.ledgers)) s.ledgers.pending.rows ≡ true)
  fit-pairs-and-pending =
      let base = s.numbers.base in
      let n = s.numbers.individuals in
      let p = and_parts (list_all (concept_row_fits base n) s.ledgers.concepts.rows) _ fit-rows in
      let q = and_parts (list_all (role_row_fits base n) s.ledgers.roles.rows) _ p.1 in
      and_parts (list_all (pair_row_fits base n) s.ledgers.pairs.rows) _ q.1

  fit-named : list_all (names_below s.numbers.individuals) s.ledgers.pairs.rows ≡ true
  fit-named = every-names_below s.numbers.base s.numbers.individuals s.ledgers.pairs.rows ∙ fit-pairs-and-pending.0

  -- a view over as many numbers as there are individuals shows the rows as they are, and those to which a right side cuts back
  module _ (n : ℕ) (own_individuals : n ≡ s.numbers.individuals) (few : s.numbers.individuals ≤ 1024) where
    names : list_all (names_below n) s.ledgers.pairs.rows ≡ true
    names = ap (λ (k : ℕ). list_all (names_below k) s.ledgers.pairs.rows) own_individuals ∙ fit-named

    pub fit-shown : rows_shown n s.ledgers ≡ branch_of s.ledgers n
    fit-shown = branchOver-named n s.ledgers.concepts.rows s.ledgers.roles.rows s.ledgers.pairs.rows (omega arith) names

    pub fit-shown-before : (p : PendingRow) → rows_shown n (cut_to p s.ledgers) ≡ branch_of (cut_to p s.ledgers) n
    fit-shown-before p =
        branchOver-named n (take p.concepts s.ledgers.concepts.rows) (take p.roles s.ledgers.roles.rows) (take p.pairs s.ledgers.pairs.rows) (omega arith)
        (every_take (names_below n) p.pairs s.ledgers.pairs.rows names)

  -- the last right side notes no more individuals than there are
  pub fit-side : (p : PendingRow) → last_of s.ledgers.pending.rows ≡ Some p → p.individuals ≤ s.numbers.individuals
  fit-side p l =
      let base = s.numbers.base in
      let n = s.numbers.individuals in
      let f = every_last (pending_row_fits base n (row_counts s.ledgers)) s.ledgers.pending.rows p fit-pairs-and-pending.1 l in
      let a = and_parts (concept_in_range base p.side.concept) _ f in
      let b = and_parts (below p.individuals p.side.individual) _ a.1 in
      let c = and_parts (leb base.individuals p.individuals) _ b.1 in
      let d = and_parts (leb p.individuals n) _ c.1 in
      leb-true p.individuals n d.0

-- a sheet is ready only with its own base and ledgers, and a scratch that is long enough
pub ready-fits : (m : Meaning) (scratch : ℕ) (s : State) → ready m scratch s ≡ Ok tt → (fits m s ≡ true) × (1024 ≤ scratch)
ready-fits m scratch s e =
    ⊎_elim
    (λ own. (
      own,
      ⊎_elim
          (λ long. leb-true 1024 scratch long)
          (λ short. let full = rw (own, short) at e in let z : ◌≡◌ {A = ℕ} 0 1 = cc in absurd (omega arith))
          (cases_Bool (leb 1024 scratch)),
    ))
    (λ other. let changed = rw other at e in let z : ◌≡◌ {A = ℕ} 0 1 = cc in absurd (omega arith))
    (cases_Bool (fits m s))
