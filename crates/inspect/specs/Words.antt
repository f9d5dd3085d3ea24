-- The rows of a base in words, one line each, behind the row's number.
use Rattle.std.specs.Prelude.{ℕ, List, ◌++◌, codes, decimal}
use Rattle.kb.specs.declared.axioms.Assertion.{Assertion}
use Rattle.kb.specs.declared.axioms.Assertion.TheVariants.{Is, Joins, Same, Different, Unlisted as UnlistedAssertion}
use Rattle.kb.specs.declared.axioms.Inclusion.{Inclusion}
use Rattle.kb.specs.declared.axioms.Key.{Key}
use Rattle.kb.specs.declared.axioms.Key.TheVariants.{Link, Unlisted as UnlistedKey}
use Rattle.kb.specs.declared.axioms.RolePair.{RolePair}
use Rattle.kb.specs.declared.lexicon.Entry.{Entry}
use Rattle.kb.specs.declared.lexicon.Entry.TheVariants.{Top, Name, Both, Some, Unlisted}
use Rattle.kb.specs.declared.axioms.RolePairs.{RolePairs}
use Rattle.kb.specs.declared.axioms.RolePairs.TheVariants.{One, Two, Three, Four}
use Rattle.kb.specs.declared.names.Concept.{Concept}

abbrev pub newline : List ℕ
newline = codes "\n"

-- Each line ends in a newline.
abbrev pub entry_words : Entry → List ℕ
entry_words Top = codes "TOP" ++ newline
entry_words Name = codes "NAME" ++ newline
entry_words (Both c d) = codes "BOTH of concept " ++ (decimal c.0 ++ (codes " and concept " ++ (decimal d.0 ++ newline)))
entry_words (Some r c) = codes "SOME of role " ++ (decimal r.0 ++ (codes " and concept " ++ (decimal c.0 ++ newline)))
entry_words (Unlisted kind) = codes "unlisted kind " ++ (decimal kind ++ newline)

abbrev pub entry_line : ℕ → Entry → List ℕ
entry_line k e = codes "entry " ++ (decimal k ++ (codes ": " ++ entry_words e))

abbrev pub assertion_words : Assertion → List ℕ
assertion_words (Is c x) = codes "concept " ++ (decimal c.0 ++ (codes " of individual " ++ (decimal x.0 ++ newline)))
assertion_words (Joins r x y) =
    codes "role " ++ (decimal r.0 ++ (codes " from individual " ++ (decimal x.0 ++ (codes " to individual " ++ (decimal y.0 ++ newline)))))
assertion_words (Same x y) = codes "individual " ++ (decimal x.0 ++ (codes " same as individual " ++ (decimal y.0 ++ newline)))
assertion_words (Different x y) =
    codes "individual " ++ (decimal x.0 ++ (codes " different from individual " ++ (decimal y.0 ++ newline)))
assertion_words (UnlistedAssertion kind) = codes "unlisted kind " ++ (decimal kind ++ newline)

abbrev pub assertion_line : ℕ → Assertion → List ℕ
assertion_line k a = codes "assertion " ++ (decimal k ++ (codes ": " ++ assertion_words a))

abbrev pub inclusion_line : ℕ → Inclusion → List ℕ
inclusion_line k i =
    codes "inclusion " ++ (decimal k ++ (codes ": concept " ++ (decimal i.sub.0 ++ (codes " in concept " ++ (decimal i.sup.0 ++ newline)))))

abbrev pub pair_words : RolePair → List ℕ
pair_words p = codes ", roles " ++ (decimal p.left.0 ++ (codes " and " ++ decimal p.right.0))

-- The pairs of a key, one after the other.
abbrev pub pairs_words : RolePairs → List ℕ
pairs_words (One p) = pair_words p
pairs_words (Two p q) = pair_words p ++ pair_words q
pairs_words (Three p q s) = pair_words p ++ pair_words q ++ pair_words s
pairs_words (Four p q s t) = pair_words p ++ pair_words q ++ pair_words s ++ pair_words t

abbrev pub class_words : ℕ → Concept → Concept → List ℕ
class_words k c d = codes "key " ++ (decimal k ++ (codes ": concepts " ++ (decimal c.0 ++ (codes " and " ++ decimal d.0))))

abbrev pub key_line : ℕ → Key → List ℕ
key_line k (Link c d pairs) = class_words k c d ++ pairs_words pairs ++ newline
key_line k (UnlistedKey count) = codes "key " ++ (decimal k ++ (codes ": unlisted count of pairs " ++ (decimal count ++ newline)))
