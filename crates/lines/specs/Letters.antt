-- The letter of a line and its numbers, and the step that they are.
use Rattle.std.specs.Prelude.{ℕ, cond, List, [], ◌∷◌, map, length, Ok, Err, Result, ◌==◌, nat_le}
use Rattle.kb.specs.declared.names.Concept.{Concept}
use Rattle.kb.specs.declared.names.Individual.{Individual}
use Rattle.calculus.specs.declared.step.Step.{Step}
use Rattle.calculus.specs.declared.step.Step.TheVariants.{Take, Both, All, Some as SomeStep, Include, Key, Either, Cut, Clash, Apart}
use Rattle.calculus.specs.Table.{and_then}
use Rattle.words.specs.declared.fault.ReadFault.{ReadFault}
use Rattle.words.specs.declared.fault.ReadFault.TheVariants.{Unreadable}
use Rattle.lines.specs.Steps.{lent}

-- The letter of a step.
abbrev pub letter_of : Step → ℕ
letter_of (Take n) = 116
letter_of (Both c x) = 98
letter_of (All c x y) = 97
letter_of (SomeStep c x) = 115
letter_of (Include n x) = 105
letter_of (Key n x y zs) = 107
letter_of (Either c x) = 101
letter_of (Cut c x) = 117
letter_of (Clash c x) = 113
letter_of (Apart x y) = 100

abbrev pub individual_numbers : List Individual → List ℕ
individual_numbers zs = map (λ z. z.0) zs

-- The numbers of a step.
abbrev pub numbers_of : Step → List ℕ
numbers_of (Take n) = n ∷ []
numbers_of (Both c x) = c.0 ∷ x.0 ∷ []
numbers_of (All c x y) = c.0 ∷ x.0 ∷ y.0 ∷ []
numbers_of (SomeStep c x) = c.0 ∷ x.0 ∷ []
numbers_of (Include n x) = n ∷ x.0 ∷ []
numbers_of (Key n x y zs) = n ∷ x.0 ∷ y.0 ∷ individual_numbers zs.now
numbers_of (Either c x) = c.0 ∷ x.0 ∷ []
numbers_of (Cut c x) = c.0 ∷ x.0 ∷ []
numbers_of (Clash c x) = c.0 ∷ x.0 ∷ []
numbers_of (Apart x y) = x.0 ∷ y.0 ∷ []

-- Just one number, just two, just three.
abbrev pub one : List ℕ → Result ℕ ReadFault
one [] = Err Unreadable
one (n ∷ []) = Ok n
one (n ∷ m ∷ ns) = Err Unreadable

abbrev pub two : List ℕ → Result (ℕ × ℕ) ReadFault
two [] = Err Unreadable
two (m ∷ []) = Err Unreadable
two (m ∷ n ∷ []) = Ok (m, n)
two (m ∷ n ∷ k ∷ ns) = Err Unreadable

abbrev pub three : List ℕ → Result (ℕ × ℕ × ℕ) ReadFault
three [] = Err Unreadable
three (m ∷ []) = Err Unreadable
three (m ∷ n ∷ []) = Err Unreadable
three (m ∷ n ∷ k ∷ []) = Ok (m, n, k)
three (m ∷ n ∷ k ∷ l ∷ ns) = Err Unreadable

abbrev pub concept : ℕ → Concept
concept n = record { 0 = n }

abbrev pub individual : ℕ → Individual
individual n = record { 0 = n }

abbrev pub individuals : List ℕ → List Individual
individuals ns = map individual ns

-- A key line: the key, the two individuals, and up to four shared values.
abbrev pub key_of : List ℕ → Result Step ReadFault
key_of [] = Err Unreadable
key_of (n ∷ []) = Err Unreadable
key_of (n ∷ x ∷ []) = Err Unreadable
key_of (n ∷ x ∷ y ∷ zs) = cond (nat_le (length zs) 4) (Ok (Key n (individual x) (individual y) (lent (individuals zs)))) (Err Unreadable)

-- The step of a letter with numbers, if the letter is one of ten and takes so many.
abbrev pub step_of : ℕ → List ℕ → Result Step ReadFault
step_of letter ns =
    cond (letter == 116) (and_then (one ns) (λ n. Ok (Take n)))
    (cond (letter == 98) (and_then (two ns) (λ p. Ok (Both (concept p.0) (individual p.1))))
    (cond (letter == 97) (and_then (three ns) (λ p. Ok (All (concept p.0) (individual p.1) (individual p.2))))
    (cond (letter == 115) (and_then (two ns) (λ p. Ok (SomeStep (concept p.0) (individual p.1))))
    (cond (letter == 105) (and_then (two ns) (λ p. Ok (Include p.0 (individual p.1))))
    (cond (letter == 107) (key_of ns)
    (cond (letter == 101) (and_then (two ns) (λ p. Ok (Either (concept p.0) (individual p.1))))
    (cond (letter == 117) (and_then (two ns) (λ p. Ok (Cut (concept p.0) (individual p.1))))
    (cond (letter == 113) (and_then (two ns) (λ p. Ok (Clash (concept p.0) (individual p.1))))
    (cond (letter == 100) (and_then (two ns) (λ p. Ok (Apart (individual p.0) (individual p.1))))
    (Err Unreadable))))))))))
