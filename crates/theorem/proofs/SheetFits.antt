-- The rows of a sheet that fits its base name individuals of the sheet, and its pending rows note no more than there is.
use Rattle.std.proofs.Common.{◌≡◌, ℕ, true, ◌&&◌, leb, List, reverse, length, sym, ◌∙◌}
use Rattle.std.proofs.lemmas.Bool.{and_parts, leb-true, ltb-true}
use Rattle.std.specs.List.{AllByRecursion, list_all}
use Rattle.kb.specs.declared.counts.Counts.{Counts}
use Rattle.kb.specs.Interpretations.{Interpretation}
use Rattle.kb.specs.Meanings.{Meaning, counts_of}
use Rattle.kb.specs.Range.{concept_in_range, role_in_range}
use Rattle.calculus.specs.declared.row_kinds.ConceptRow.{ConceptRow}
use Rattle.calculus.specs.declared.row_kinds.PairRow.{PairRow}
use Rattle.calculus.specs.declared.row_kinds.PairRow.TheVariants.{Same as SameRow, Different as DifferentRow}
use Rattle.calculus.specs.declared.row_kinds.PendingRow.{PendingRow}
use Rattle.calculus.specs.declared.row_kinds.RoleRow.{RoleRow}
use Rattle.calculus.specs.States.{Ledgers, State, branch_of, concept_row_fits, fits, pair_row_fits, pending_row_fits, role_row_fits, row_counts, rows_fit, same_counts, same_lengths, sizes_of}
use Rattle.calculus.specs.Table.{below}
use Rattle.theorem.proofs.Growing.{Within, all_reverse}
use Rattle.theorem.proofs.TableSound.{Agree}
use Rattle.theorem.proofs.Truth.{ConceptTrue, PairTrue, RoleTrue, RowsTrue, every_all, every-passes}

-- a sheet that fits has rows that fit
pub rows_fit_lem : (m : Meaning) (s : State) → fits m s ≡ true → rows_fit s.numbers.base s.numbers.individuals s.ledgers ≡ true
rows_fit_lem m s e =
    let p = and_parts (same_counts (counts_of m) s.numbers.base) _ e in
    let q = and_parts (same_lengths (sizes_of s.ledgers) s.numbers.sizes) _ p.1 in
    (and_parts (same_lengths (row_counts s.ledgers) s.numbers.rows) _ q.1).1

module _ (base : Counts) (n : ℕ) (l : Ledgers) where
  concepts-fit : rows_fit base n l ≡ true → list_all (concept_row_fits base n) l.concepts.rows ≡ true
  concepts-fit e = (and_parts (list_all (concept_row_fits base n) l.concepts.rows) _ e).0

  roles-fit : rows_fit base n l ≡ true → list_all (role_row_fits base n) l.roles.rows ≡ true
  roles-fit e =
      let p = and_parts (list_all (concept_row_fits base n) l.concepts.rows) _ e in
      (and_parts (list_all (role_row_fits base n) l.roles.rows) _ p.1).0

  pairs-fit : rows_fit base n l ≡ true → list_all (pair_row_fits base n) l.pairs.rows ≡ true
  pairs-fit e =
      let p = and_parts (list_all (concept_row_fits base n) l.concepts.rows) _ e in
      let q = and_parts (list_all (role_row_fits base n) l.roles.rows) _ p.1 in
      (and_parts (list_all (pair_row_fits base n) l.pairs.rows) _ q.1).0

  pending-fit : rows_fit base n l ≡ true → list_all (pending_row_fits base n (row_counts l)) l.pending.rows ≡ true
  pending-fit e =
      let p = and_parts (list_all (concept_row_fits base n) l.concepts.rows) _ e in
      let q = and_parts (list_all (role_row_fits base n) l.roles.rows) _ p.1 in
      (and_parts (list_all (pair_row_fits base n) l.pairs.rows) _ q.1).1

  pending-within : (k : ℕ) (p : PendingRow) → pending_row_fits base n (row_counts l) p ≡ true → Within (branch_of l k) p
  pending-within k p e =
      let a = and_parts (concept_in_range base p.side.concept) _ e in
      let b = and_parts (below p.individuals p.side.individual) _ a.1 in
      let c = and_parts (leb base.individuals p.individuals) _ b.1 in
      let d = and_parts (leb p.individuals n) _ c.1 in
      let f = and_parts (leb p.concepts (length l.concepts.rows)) _ d.1 in
      let g = and_parts (leb p.roles (length l.roles.rows)) _ f.1 in
      record {
        concepts = leb-true p.concepts (length l.concepts.rows) f.0;
        roles = leb-true p.roles (length l.roles.rows) g.0;
        pairs = leb-true p.pairs (length l.pairs.rows) g.1;
      }

  pub all_within : (k : ℕ) → rows_fit base n l ≡ true → AllByRecursion (Within (branch_of l k)) (reverse l.pending.rows)
  all_within k e =
      all_reverse (Within (branch_of l k)) l.pending.rows
      (every-passes (Within (branch_of l k)) (pending_row_fits base n (row_counts l)) l.pending.rows (pending-fit e) (pending-within k))

  module _ (I : Interpretation) (at at' : ℕ → List ℕ) (agree : Agree n at at') where
    pair_agrees : (w : PairRow) → pair_row_fits base n w ≡ true → PairTrue I at w → PairTrue I at' w
    pair_agrees (SameRow x y) f t =
        let p = and_parts (below n x) (below n y) f in
        agree x.0 (ltb-true x.0 n p.0) ∙ t ∙ sym (agree y.0 (ltb-true y.0 n p.1))
    pair_agrees (DifferentRow x y) f t =
        let p = and_parts (below n x) (below n y) f in
        λ e. t (sym (agree x.0 (ltb-true x.0 n p.0)) ∙ e ∙ agree y.0 (ltb-true y.0 n p.1))

    concept_agrees : (w : ConceptRow) → concept_row_fits base n w ≡ true → ConceptTrue I at w → ConceptTrue I at' w
    concept_agrees w f t =
        let p = and_parts (concept_in_range base w.concept) (below n w.individual) f in
        cc (agree w.individual.0 (ltb-true w.individual.0 n p.1), t)

    role_agrees : (w : RoleRow) → role_row_fits base n w ≡ true → RoleTrue I at w → RoleTrue I at' w
    role_agrees w f t =
        let p = and_parts (role_in_range base w.role) (below n w.from && below n w.to) f in
        let q = and_parts (below n w.from) (below n w.to) p.1 in
        cc (agree w.from.0 (ltb-true w.from.0 n q.0), agree w.to.0 (ltb-true w.to.0 n q.1), t)

    -- rows that name the first n individuals are true by an assignment that agrees on these
    pub rows_agree : (k k' : ℕ) → rows_fit base n l ≡ true → RowsTrue I at (branch_of l k) → RowsTrue I at' (branch_of l k')
    rows_agree k k' e t =
        record {
          concepts = every_all (ConceptTrue I at) (ConceptTrue I at') (concept_row_fits base n) l.concepts.rows (concepts-fit e) concept_agrees t.concepts;
          roles = every_all (RoleTrue I at) (RoleTrue I at') (role_row_fits base n) l.roles.rows (roles-fit e) role_agrees t.roles;
          pairs = every_all (PairTrue I at) (PairTrue I at') (pair_row_fits base n) l.pairs.rows (pairs-fit e) pair_agrees t.pairs;
        }
