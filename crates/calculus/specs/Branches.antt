-- A branch of a tableau: rows and individuals; which individuals are equal on it, and what it holds.
use Rattle.std.specs.Prelude.{◌≡◌, ℕ, min, Bool, false, cond, ◌&&◌, ◌||◌, List, [], ◌∷◌, Ok, ◌==◌}
use Rattle.std.specs.List.{list_any}
use Rattle.rows.specs.Rows.{row_at}
use Rattle.kb.specs.declared.axioms.Assertion.{Assertion}
use Rattle.kb.specs.declared.axioms.Assertion.TheVariants.{Is, Joins, Same, Different, Unlisted}
use Rattle.kb.specs.declared.names.Concept.{Concept}
use Rattle.kb.specs.declared.names.Individual.{Individual}
use Rattle.kb.specs.declared.names.Role.{Role}
use Rattle.kb.specs.Meanings.{Meaning}
use Rattle.calculus.specs.declared.row_kinds.ConceptRow.{ConceptRow}
use Rattle.calculus.specs.declared.row_kinds.PairRow.{PairRow}
use Rattle.calculus.specs.declared.row_kinds.PairRow.TheVariants.{Same as SameRow, Different as DifferentRow}
use Rattle.calculus.specs.declared.row_kinds.RoleRow.{RoleRow}

-- The rows of a branch, and how many individuals it has: those of the base, then new ones.
pub record Branch : Type 0 where
  pub concepts : List ConceptRow
  pub roles : List RoleRow
  pub pairs : List PairRow
  pub individuals : ℕ

-- Individuals are equal by the least equivalence that contains the same rows.
pub data Equal (pairs : List PairRow) : Individual → Individual → Type 0 where
  same : {x y : Individual} (n : ℕ) → row_at pairs n ≡ Ok (SameRow x y) → Equal pairs x y
  self : {x : Individual} → Equal pairs x x
  turned : {x y : Individual} → Equal pairs x y → Equal pairs y x
  chained : {x y z : Individual} → Equal pairs x y → Equal pairs y z → Equal pairs x z

-- Heads are computed row by row. Where the heads so far are u of one individual and v of the other, a same row gives all
-- whose head is u or v the smaller of the two.
abbrev pub merged : ℕ → ℕ → ℕ → ℕ
merged u v x = cond (x == u || x == v) (min u v) x

abbrev pub join_heads : (ℕ → ℕ) → PairRow → ℕ → ℕ
join_heads head (SameRow x y) z = merged (head x.0) (head y.0) (head z)
join_heads head (DifferentRow x y) z = head z

abbrev pub heads_from : (ℕ → ℕ) → List PairRow → ℕ → ℕ
heads_from head [] = head
heads_from head (p ∷ ps) = heads_from (join_heads head p) ps

-- The head of an individual: the smallest that the rows make equal to it.
unfoldable pub head_of : List PairRow → ℕ → ℕ
head_of pairs = heads_from (λ x. x) pairs

-- Two individuals are equal if they have one head.
abbrev pub equal : List PairRow → Individual → Individual → Bool
equal pairs x y = head_of pairs x.0 == head_of pairs y.0

-- The role of a row holds the role that is asked for: over a base, a role holds itself.
abbrev pub role_holds : Meaning → Role → Role → Bool
role_holds m r s = r.0 == s.0

module _ (m : Meaning) (b : Branch) where
  -- A row holds "c of x", "r from x to y", "x different from y" if it says so of individuals equal to x and y; different
  -- rows in either order.
  abbrev pub concept_row_holds : Concept → Individual → ConceptRow → Bool
  concept_row_holds c x row = row.concept.0 == c.0 && equal b.pairs row.individual x

  abbrev pub role_row_holds : Role → Individual → Individual → RoleRow → Bool
  role_row_holds r x y row = role_holds m row.role r && (equal b.pairs row.from x && equal b.pairs row.to y)

  abbrev pub pair_row_holds : Individual → Individual → PairRow → Bool
  pair_row_holds x y (SameRow v w) = false
  pair_row_holds x y (DifferentRow v w) =
      (equal b.pairs v x && equal b.pairs w y) || (equal b.pairs v y && equal b.pairs w x)

  -- What a branch holds. Concept 0 is held of everything; "same" means equal; an unlisted assertion is never held.
  abbrev pub held : Assertion → Bool
  held (Is c x) = c.0 == 0 || list_any (concept_row_holds c x) b.concepts
  held (Joins r x y) = list_any (role_row_holds r x y) b.roles
  held (Same x y) = equal b.pairs x y
  held (Different x y) = list_any (pair_row_holds x y) b.pairs
  held (Unlisted kind) = false
