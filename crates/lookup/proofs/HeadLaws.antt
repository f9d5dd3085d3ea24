-- Heads as a list are the calculus' heads, row by row.
use Rattle.std.proofs.Common.{◌≡◌, ℕ, ◌+◌, ◌<◌, true, List, [], ◌∷◌, ◌++◌, get_or, map, take, length, ap, ◌∙◌, arith}
use Rattle.std.proofs.lemmas.List.{get_or-map, get_or_past, length-map, take_more}
use Rattle.std.proofs.lemmas.List.Elements.{All-get_or}
use Rattle.std.proofs.lemmas.List.Sums.{AllPass-from_list_all}
use Rattle.std.proofs.lemmas.Bool.Decides.{nat_tests}
use Rattle.std.proofs.lemmas.Grind.{common_steps}
use Rattle.std.specs.List.{list_all}
use Rattle.calculus.specs.declared.row_kinds.PairRow.{PairRow}
use Rattle.calculus.specs.declared.row_kinds.PairRow.TheVariants.{Same as SameRow, Different as DifferentRow}
use Rattle.calculus.specs.Branches.{head_of, join_heads, merged}
use Rattle.calculus.proofs.EqualityLaws.{head_le}
use Rattle.calculus.proofs.MissingLaws.{heads_from_last}
use Rattle.lookup.specs.Heads.{head_in, joined_by, names_below}

-- a number above two others is merged with neither
merged_above : (u v z : ℕ) → u < z → v < z → merged u v z ≡ z
merged_above u v z a b = grind (arith, nat_tests)

-- numbers of the list merge in the list; those beyond it stay as they are
headIn-map-merged :
    (hs : List ℕ) (u v : ℕ) → u < length hs → v < length hs → (z : ℕ) → merged u v (head_in hs z) ≡ head_in (map (merged u v) hs) z
headIn-map-merged hs u v a b z = grind (arith, common_steps, get_or-map (merged u v) hs z z z, get_or_past, length-map hs (merged u v), merged_above)

head_of_last : (ps : List PairRow) (p : PairRow) (z : ℕ) → head_of (ps ++ p ∷ []) z ≡ join_heads (head_of ps) p z
unfolding head_of
head_of_last ps p z = heads_from_last (λ x. x) ps p z

-- where the list has the heads of some rows, joining it by one row more gives the heads with that row
headOf-joinedBy :
    (ps : List PairRow) (p : PairRow) (hs : List ℕ) → names_below (length hs) p ≡ true → ((x : ℕ) → head_of ps x ≡ head_in hs x)
    → (z : ℕ) → head_of (ps ++ p ∷ []) z ≡ head_in (joined_by hs p) z
headOf-joinedBy ps (SameRow x y) hs n k z =
    let a : x.0 < length hs = grind (arith, nat_tests) in
    let b : y.0 < length hs = grind (arith, nat_tests) in
    head_of_last ps (SameRow x y) z
    ∙ (λ i. merged (k x.0 i) (k y.0 i) (k z i))
    ∙ headIn-map-merged hs (head_in hs x.0) (head_in hs y.0)
    (omega (arith, a, head_le ps x.0, k x.0)) (omega (arith, b, head_le ps y.0, k y.0)) z
headOf-joinedBy ps (DifferentRow x y) hs n k z = head_of_last ps (DifferentRow x y) z ∙ k z

-- so it is for the row at i, where rows name only individuals of the list
pub heads_more :
    (ps : List PairRow) (i : ℕ) (d : PairRow) (hs : List ℕ) → i < length ps → list_all (names_below (length hs)) ps ≡ true
    → ((x : ℕ) → head_of (take i ps) x ≡ head_in hs x) → (z : ℕ) → head_of (take (i + 1) ps) z ≡ head_in (joined_by hs (get_or ps i d)) z
heads_more ps i d hs l named k z =
    let below = All-get_or (λ row. names_below (length hs) row ≡ true) ps i d l (AllPass-from_list_all (names_below (length hs)) ps named) in
    ap (λ qs. head_of qs z) (take_more ps i d l) ∙ headOf-joinedBy (take i ps) (get_or ps i d) hs below k z
