-- What a base can tell: a number above 65,535 is told as 65,535, and a longer list is cut there.
use Rattle.std.specs.Prelude.{ℕ, min, List, [], ◌∷◌, ◌++◌, map, take}
use Rattle.std.proofs.Common.{arith, length-take}
use Rattle.std.specs.List.{AllByRecursion}
use Rattle.std.proofs.ByRecursion.{All-append, All-take}
use Rattle.kb.specs.declared.axioms.Assertion.{Assertion}
use Rattle.kb.specs.declared.axioms.Assertion.TheVariants.{Is, Joins, Same, Different, Unlisted as UnlistedAssertion}
use Rattle.kb.specs.declared.axioms.Inclusion.{Inclusion}
use Rattle.kb.specs.declared.axioms.Key.{Key}
use Rattle.kb.specs.declared.axioms.Key.TheVariants.{Link, Unlisted as UnlistedKey}
use Rattle.kb.specs.declared.axioms.RolePair.{RolePair}
use Rattle.kb.specs.declared.axioms.RolePairs.{RolePairs}
use Rattle.kb.specs.declared.axioms.RolePairs.TheVariants.{One, Two, Three, Four}
use Rattle.kb.specs.declared.lexicon.Entry.{Entry}
use Rattle.kb.specs.declared.lexicon.Entry.TheVariants.{Top, Name, Both, Some, Unlisted}
use Rattle.kb.specs.declared.names.Concept.{Concept}
use Rattle.kb.specs.declared.names.Individual.{Individual}
use Rattle.kb.specs.declared.names.Role.{Role}
use Rattle.kb.specs.Meanings.{Tellable, TellableList}
use Rattle.kb.specs.Numbers.{entry_numbers, assertion_numbers, inclusion_numbers, key_numbers}

-- A number above 65,535 is told as 65,535.
abbrev pub tell : ℕ → ℕ
tell n = min n 65535

abbrev pub tell_concept : Concept → Concept
tell_concept c = record { 0 = tell c.0 }

abbrev pub tell_role : Role → Role
tell_role r = record { 0 = tell r.0 }

abbrev pub tell_individual : Individual → Individual
tell_individual x = record { 0 = tell x.0 }

-- So is each number of a row.
abbrev pub tell_entry : Entry → Entry
tell_entry Top = Top
tell_entry Name = Name
tell_entry (Both c d) = Both (tell_concept c) (tell_concept d)
tell_entry (Some r c) = Some (tell_role r) (tell_concept c)
tell_entry (Unlisted kind) = Unlisted (tell kind)

abbrev pub tell_assertion : Assertion → Assertion
tell_assertion (Is c x) = Is (tell_concept c) (tell_individual x)
tell_assertion (Joins r x y) = Joins (tell_role r) (tell_individual x) (tell_individual y)
tell_assertion (Same x y) = Same (tell_individual x) (tell_individual y)
tell_assertion (Different x y) = Different (tell_individual x) (tell_individual y)
tell_assertion (UnlistedAssertion kind) = UnlistedAssertion (tell kind)

abbrev pub tell_inclusion : Inclusion → Inclusion
tell_inclusion i = record { sub = tell_concept i.sub; sup = tell_concept i.sup }

abbrev pub tell_pair : RolePair → RolePair
tell_pair p = record { left = tell_role p.left; right = tell_role p.right }

abbrev pub tell_pairs : RolePairs → RolePairs
tell_pairs (One p) = One (tell_pair p)
tell_pairs (Two p q) = Two (tell_pair p) (tell_pair q)
tell_pairs (Three p q s) = Three (tell_pair p) (tell_pair q) (tell_pair s)
tell_pairs (Four p q s t) = Four (tell_pair p) (tell_pair q) (tell_pair s) (tell_pair t)

abbrev pub tell_key : Key → Key
tell_key (Link c d pairs) = Link (tell_concept c) (tell_concept d) (tell_pairs pairs)
tell_key (UnlistedKey count) = UnlistedKey (tell count)

-- A list behind another, cut at 65,535 rows.
abbrev pub behind : {X : Type 0} → List X → List X → List X
behind xs ys = take 65535 (xs ++ ys)

-- What is told can be told. Implementations name these proofs, so they stand among the definitions.
told : (n : ℕ) → Tellable (tell n)
told n = omega arith

zero : Tellable 0
zero = omega arith

pub entry_tellable : (e : Entry) → AllByRecursion Tellable (entry_numbers (tell_entry e))
entry_tellable Top = (zero, (zero, (zero, tt)))
entry_tellable Name = (omega arith, (zero, (zero, tt)))
entry_tellable (Both c d) = (omega arith, (told c.0, (told d.0, tt)))
entry_tellable (Some r c) = (omega arith, (told r.0, (told c.0, tt)))
entry_tellable (Unlisted kind) = (told kind, (zero, (zero, tt)))

pub assertion_tellable : (a : Assertion) → AllByRecursion Tellable (assertion_numbers (tell_assertion a))
assertion_tellable (Is c x) = (zero, (told c.0, (told x.0, (zero, tt))))
assertion_tellable (Joins r x y) = (omega arith, (told r.0, (told x.0, (told y.0, tt))))
assertion_tellable (Same x y) = (omega arith, (told x.0, (told y.0, (zero, tt))))
assertion_tellable (Different x y) = (omega arith, (told x.0, (told y.0, (zero, tt))))
assertion_tellable (UnlistedAssertion kind) = (told kind, (zero, (zero, (zero, tt))))

pub inclusion_tellable : (i : Inclusion) → AllByRecursion Tellable (inclusion_numbers (tell_inclusion i))
inclusion_tellable i = (told i.sub.0, (told i.sup.0, tt))

pub key_tellable : (k : Key) → AllByRecursion Tellable (key_numbers (tell_key k))
key_tellable (Link c d (One p)) =
    (told c.0, (told d.0, (omega arith, (told p.left.0, (told p.right.0, (zero, (zero, (zero, (zero, (zero, (zero, tt)))))))))))
key_tellable (Link c d (Two p q)) =
    (told c.0, (told d.0, (omega arith, (told p.left.0, (told p.right.0, (told q.left.0, (told q.right.0, (zero, (zero, (zero, (zero, tt)))))))))))
key_tellable (Link c d (Three p q s)) =
    (told c.0, (told d.0, (omega arith, (told p.left.0, (told p.right.0, (told q.left.0, (told q.right.0, (told s.left.0, (told s.right.0, (zero, (zero, tt)))))))))))
key_tellable (Link c d (Four p q s t)) =
    (told c.0, (told d.0, (omega arith, (told p.left.0, (told p.right.0, (told q.left.0, (told q.right.0, (told s.left.0, (told s.right.0, (told t.left.0, (told t.right.0, tt)))))))))))
key_tellable (UnlistedKey count) = (zero, (zero, (told count, (zero, (zero, (zero, (zero, (zero, (zero, (zero, (zero, tt)))))))))))

module _ {X : Type 0} (numbers : X → List ℕ) where
  -- a cut list of small rows can be told
  pub cut_tellable : (xs : List X) → AllByRecursion (λ x. AllByRecursion Tellable (numbers x)) xs → TellableList numbers (take 65535 xs)
  cut_tellable xs a =
      record { short = simp length-take (omega arith); small = All-take (λ x. AllByRecursion Tellable (numbers x)) 65535 xs a }

  -- so can rows behind a list that can be told
  pub behind_tellable : (xs ys : List X) → TellableList numbers xs → AllByRecursion (λ x. AllByRecursion Tellable (numbers x)) ys → TellableList numbers (behind xs ys)
  behind_tellable xs ys t a = cut_tellable (xs ++ ys) (All-append (λ x. AllByRecursion Tellable (numbers x)) xs ys t.small a)

  -- each row of a list is told
  pub each-told : (f : X → X) → ((x : X) → AllByRecursion Tellable (numbers (f x))) → (xs : List X) → AllByRecursion (λ x. AllByRecursion Tellable (numbers x)) (map f xs)
  each-told f told [] = tt
  each-told f told (x ∷ xs) = (told x, each-told f told xs)
