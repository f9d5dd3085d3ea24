-- What a branch holds, in words of the least equivalence.
use Rattle.std.specs.Prelude.{◌≡◌, ℕ, true, ◌⊎◌, Ok}
use Rattle.rows.specs.Rows.{row_at}
use Rattle.kb.specs.declared.axioms.Assertion.{Assertion}
use Rattle.kb.specs.declared.axioms.Assertion.TheVariants.{Is, Joins, Same, Different, Unlisted}
use Rattle.kb.specs.declared.names.Individual.{Individual}
use Rattle.kb.specs.Meanings.{Meaning}
use Rattle.calculus.specs.declared.row_kinds.ConceptRow.{ConceptRow}
use Rattle.calculus.specs.declared.row_kinds.PairRow.TheVariants.{Different as DifferentRow}
use Rattle.calculus.specs.declared.row_kinds.RoleRow.{RoleRow}
use Rattle.calculus.specs.Branches.{Branch, Equal, role_holds}

-- Two individuals are one pair or the other way round.
abbrev pub EitherOrder : (Individual → Individual → Type 0) → Individual → Individual → Individual → Individual → Type 0
EitherOrder R v w x y = (R v x × R w y) ⊎ (R v y × R w x)

-- "c of x" is held if c is 0 or a row has c with an individual equal to x; a role, if a row's role holds it and its
-- individuals are equal; "different", if a different row has two equal individuals, in either order; "same" means equal.
abbrev pub Held : Meaning → Branch → Assertion → Type 0
Held m b (Is c x) =
    (c.0 ≡ 0)
    ⊎ ((n : ℕ) × (r : ConceptRow) × (row_at b.concepts n ≡ Ok r) × (r.concept ≡ c) × Equal b.pairs r.individual x)
Held m b (Joins r x y) =
    (n : ℕ) × (w : RoleRow) × (row_at b.roles n ≡ Ok w) × (role_holds m w.role r ≡ true)
    × Equal b.pairs w.from x × Equal b.pairs w.to y
Held m b (Same x y) = Equal b.pairs x y
Held m b (Different x y) =
    (n : ℕ) × (v : Individual) × (w : Individual) × (row_at b.pairs n ≡ Ok (DifferentRow v w)) × EitherOrder (Equal b.pairs) v w x y
Held m b (Unlisted kind) = ⊥
