-- Which rows of a ledger count as alike, and that each is alike itself.
use Rattle.std.specs.Prelude.{◌≡◌, Bool, true, false, ◌&&◌, ◌==◌, refl}
use Rattle.std.proofs.lemmas.Bool.{and_from, eq-eqb}
use Rattle.calculus.specs.declared.row_kinds.ConceptRow.{ConceptRow}
use Rattle.calculus.specs.declared.row_kinds.PairRow.{PairRow}
use Rattle.calculus.specs.declared.row_kinds.PairRow.TheVariants.{Same, Different}
use Rattle.calculus.specs.declared.row_kinds.PendingRow.{PendingRow}
use Rattle.calculus.specs.declared.row_kinds.RoleRow.{RoleRow}

-- Concept rows are alike by their concept.
abbrev pub concept_rows_alike : ConceptRow → ConceptRow → Bool
concept_rows_alike v w = v.concept.0 == w.concept.0

pub concept_rows_reflexive : (w : ConceptRow) → concept_rows_alike w w ≡ true
concept_rows_reflexive w = eq-eqb w.concept.0 w.concept.0 refl

-- Role rows are alike by all they hold.
abbrev pub role_rows_alike : RoleRow → RoleRow → Bool
role_rows_alike v w = v.role.0 == w.role.0 && (v.from.0 == w.from.0 && v.to.0 == w.to.0)

pub role_rows_reflexive : (w : RoleRow) → role_rows_alike w w ≡ true
role_rows_reflexive w =
    and_from _ _ (eq-eqb w.role.0 w.role.0 refl) (and_from _ _ (eq-eqb w.from.0 w.from.0 refl) (eq-eqb w.to.0 w.to.0 refl))

-- Same and different rows are alike by their kind.
abbrev pub pair_rows_alike : PairRow → PairRow → Bool
pair_rows_alike (Same v w) (Same x y) = true
pair_rows_alike (Same v w) (Different x y) = false
pair_rows_alike (Different v w) (Same x y) = false
pair_rows_alike (Different v w) (Different x y) = true

pub pair_rows_reflexive : (w : PairRow) → pair_rows_alike w w ≡ true
pair_rows_reflexive (Same x y) = refl
pair_rows_reflexive (Different x y) = refl

-- Pending sides are alike by all they hold.
abbrev pub pending_rows_alike : PendingRow → PendingRow → Bool
pending_rows_alike v w =
    (v.side.concept.0 == w.side.concept.0) && (v.side.individual.0 == w.side.individual.0
    && (v.concepts == w.concepts && (v.roles == w.roles && (v.pairs == w.pairs && v.individuals == w.individuals))))

pub pending_rows_reflexive : (w : PendingRow) → pending_rows_alike w w ≡ true
pending_rows_reflexive w =
    and_from _ _ (eq-eqb w.side.concept.0 w.side.concept.0 refl)
    (and_from _ _ (eq-eqb w.side.individual.0 w.side.individual.0 refl)
    (and_from _ _ (eq-eqb w.concepts w.concepts refl)
    (and_from _ _ (eq-eqb w.roles w.roles refl)
    (and_from _ _ (eq-eqb w.pairs w.pairs refl) (eq-eqb w.individuals w.individuals refl)))))
