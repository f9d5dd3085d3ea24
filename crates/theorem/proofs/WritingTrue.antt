-- Rows that are written stay true where the facts are.
use Rattle.std.proofs.Common.{◌≡◌, ℕ, List, [], ◌∷◌, ◌++◌, Ok}
use Rattle.std.proofs.ByRecursion.{All-push}
use Rattle.std.proofs.lemmas.Bool.{cond_both}
use Rattle.std.specs.List.{AllByRecursion}
use Rattle.kb.specs.declared.axioms.Assertion.{Assertion}
use Rattle.kb.specs.declared.axioms.Assertion.TheVariants.{Is, Joins, Same, Different, Unlisted}
use Rattle.kb.specs.Interpretations.{Interpretation}
use Rattle.kb.specs.Meanings.{Meaning}
use Rattle.calculus.specs.declared.row_kinds.ConceptRow.{ConceptRow}
use Rattle.calculus.specs.declared.row_kinds.PairRow.TheVariants.{Same as SameRow, Different as DifferentRow}
use Rattle.calculus.specs.Branches.{Branch, held}
use Rattle.calculus.specs.Playing.{Written, write, write_missing}
use Rattle.calculus.specs.States.{Ledgers, branch_of}
use Rattle.theorem.proofs.Growing.{all_pushed, with_side, write_missing_keeps}
use Rattle.theorem.proofs.Truth.{ConceptTrue, PairTrue, RoleTrue, RowsTrue, True}

module _ (I : Interpretation) (at : ℕ → List ℕ) where
  -- true facts keep the rows true
  write_true : (k : ℕ) (l : Ledgers) (a : Assertion) → True I at a → RowsTrue I at (branch_of l k) → RowsTrue I at (branch_of (write a l) k)
  write_true k l (Is c x) t h =
      record { concepts = all_pushed (ConceptTrue I at) (record { concept = c; individual = x }) l.concepts h.concepts t; roles = h.roles; pairs = h.pairs }
  write_true k l (Joins r x y) t h =
      record { concepts = h.concepts; roles = all_pushed (RoleTrue I at) (record { role = r; from = x; to = y }) l.roles h.roles t; pairs = h.pairs }
  write_true k l (Same x y) t h =
      record { concepts = h.concepts; roles = h.roles; pairs = all_pushed (PairTrue I at) (SameRow x y) l.pairs h.pairs t }
  write_true k l (Different x y) t h =
      record { concepts = h.concepts; roles = h.roles; pairs = all_pushed (PairTrue I at) (DifferentRow x y) l.pairs h.pairs t }
  write_true k l (Unlisted kind) t h = h

  pub write_missing_true : (m : Meaning) (n k : ℕ) (facts : List Assertion) (w v : Written) → write_missing m n facts w ≡ Ok v → AllByRecursion (True I at) facts → RowsTrue I at (branch_of w.ledgers k) → RowsTrue I at (branch_of v.ledgers k)
  write_missing_true m n k facts w v e t h =
      write_missing_keeps m n (λ l. RowsTrue I at (branch_of l k)) (True I at) (write_true k) facts t w v h e

  pub side_true : (m : Meaning) (q : ConceptRow) (b : Branch) → ConceptTrue I at q → RowsTrue I at b → RowsTrue I at (with_side m q b)
  side_true m q b t h =
      cond_both (held m b (Is q.concept q.individual)) b
      (record { concepts = b.concepts ++ q ∷ []; roles = b.roles; pairs = b.pairs; individuals = b.individuals }) (RowsTrue I at)
      (λ _. h)
      (λ _. record { concepts = All-push (ConceptTrue I at) b.concepts q h.concepts t; roles = h.roles; pairs = h.pairs })
