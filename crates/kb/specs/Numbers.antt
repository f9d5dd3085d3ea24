-- The rows of a base as plain numbers, in the order in which a case file has them. A number that a row does not need
-- is 0.
use Rattle.std.specs.Prelude.{ℕ, List, [], ◌∷◌, ◌++◌}
use Rattle.kb.specs.declared.axioms.Assertion.{Assertion}
use Rattle.kb.specs.declared.axioms.Assertion.TheVariants.{Is, Joins, Same, Different, Unlisted as UnlistedAssertion}
use Rattle.kb.specs.declared.axioms.Inclusion.{Inclusion}
use Rattle.kb.specs.declared.axioms.Key.{Key}
use Rattle.kb.specs.declared.axioms.Key.TheVariants.{Link, Unlisted as UnlistedKey}
use Rattle.kb.specs.declared.axioms.RolePair.{RolePair}
use Rattle.kb.specs.declared.axioms.RolePairs.{RolePairs}
use Rattle.kb.specs.declared.axioms.RolePairs.TheVariants.{One, Two, Three, Four}
use Rattle.kb.specs.declared.lexicon.Entry.{Entry}
use Rattle.kb.specs.declared.lexicon.Entry.TheVariants.{Top, Name, Both, Some, Unlisted}

-- An entry: its kind and two numbers.
abbrev pub entry_numbers : Entry → List ℕ
entry_numbers Top = 0 ∷ 0 ∷ 0 ∷ []
entry_numbers Name = 1 ∷ 0 ∷ 0 ∷ []
entry_numbers (Both c d) = 2 ∷ c.0 ∷ d.0 ∷ []
entry_numbers (Some r c) = 3 ∷ r.0 ∷ c.0 ∷ []
entry_numbers (Unlisted kind) = kind ∷ 0 ∷ 0 ∷ []

-- An assertion: its kind and three numbers.
abbrev pub assertion_numbers : Assertion → List ℕ
assertion_numbers (Is c x) = 0 ∷ c.0 ∷ x.0 ∷ 0 ∷ []
assertion_numbers (Joins r x y) = 1 ∷ r.0 ∷ x.0 ∷ y.0 ∷ []
assertion_numbers (Same x y) = 2 ∷ x.0 ∷ y.0 ∷ 0 ∷ []
assertion_numbers (Different x y) = 3 ∷ x.0 ∷ y.0 ∷ 0 ∷ []
assertion_numbers (UnlistedAssertion kind) = kind ∷ 0 ∷ 0 ∷ 0 ∷ []

-- An inclusion: its two concepts.
abbrev pub inclusion_numbers : Inclusion → List ℕ
inclusion_numbers i = i.sub.0 ∷ i.sup.0 ∷ []

-- The pairs of a key, first to last.
abbrev pub pair_list : RolePairs → List RolePair
pair_list (One p) = p ∷ []
pair_list (Two p q) = p ∷ q ∷ []
pair_list (Three p q s) = p ∷ q ∷ s ∷ []
pair_list (Four p q s t) = p ∷ q ∷ s ∷ t ∷ []

abbrev pub pair_numbers : RolePair → List ℕ
pair_numbers p = p.left.0 ∷ p.right.0 ∷ []

-- The count of pairs, and four pairs of numbers.
abbrev pub pairs_numbers : RolePairs → List ℕ
pairs_numbers (One p) = 1 ∷ pair_numbers p ++ 0 ∷ 0 ∷ 0 ∷ 0 ∷ 0 ∷ 0 ∷ []
pairs_numbers (Two p q) = 2 ∷ pair_numbers p ++ pair_numbers q ++ 0 ∷ 0 ∷ 0 ∷ 0 ∷ []
pairs_numbers (Three p q s) = 3 ∷ pair_numbers p ++ pair_numbers q ++ pair_numbers s ++ 0 ∷ 0 ∷ []
pairs_numbers (Four p q s t) = 4 ∷ pair_numbers p ++ pair_numbers q ++ pair_numbers s ++ pair_numbers t

-- A key: its two classes, the count of its pairs, and four pairs of numbers.
abbrev pub key_numbers : Key → List ℕ
key_numbers (Link c d pairs) = c.0 ∷ d.0 ∷ pairs_numbers pairs
key_numbers (UnlistedKey count) = 0 ∷ 0 ∷ count ∷ 0 ∷ 0 ∷ 0 ∷ 0 ∷ 0 ∷ 0 ∷ 0 ∷ 0 ∷ []
