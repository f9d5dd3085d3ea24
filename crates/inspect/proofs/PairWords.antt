-- The pairs of a key in words.
use Rattle.std.proofs.Common.{◌≡◌, ℕ, List, [], ◌++◌, sym, ap, ◌∙◌, append_assoc, append-nil}
use Rattle.std.specs.List.{flat_map}
use Rattle.kb.specs.declared.axioms.RolePairs.{RolePairs}
use Rattle.kb.specs.declared.axioms.RolePairs.TheVariants.{One, Two, Three, Four}
use Rattle.kb.specs.Numbers.{pair_list}
use Rattle.inspect.specs.Words.{pair_words, pairs_words}

three : (a b c : List ℕ) → a ++ (b ++ (c ++ [])) ≡ a ++ b ++ c
three a b c = ap (λ text. a ++ (b ++ text)) (append-nil c) ∙ sym (append_assoc a b c)

four : (a b c d : List ℕ) → a ++ (b ++ (c ++ (d ++ []))) ≡ a ++ b ++ c ++ d
four a b c d = ap (λ text. a ++ text) (three b c d) ∙ ap (λ text. a ++ text) (append_assoc b c d) ∙ sym (append_assoc a b (c ++ d)) ∙ sym (append_assoc (a ++ b) c d)

pub pairs_are : (pairs : RolePairs) → flat_map pair_words (pair_list pairs) ≡ pairs_words pairs
pairs_are (One p) = append-nil (pair_words p)
pairs_are (Two p q) = ap (λ text. pair_words p ++ text) (append-nil (pair_words q))
pairs_are (Three p q s) = three (pair_words p) (pair_words q) (pair_words s)
pairs_are (Four p q s t) = four (pair_words p) (pair_words q) (pair_words s) (pair_words t)
