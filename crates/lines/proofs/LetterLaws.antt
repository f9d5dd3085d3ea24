-- A letter with numbers is one step, and a step has one letter and its numbers.
use Rattle.std.proofs.Common.{◌≡◌, ℕ, ◌≤◌, Bool, true, false, cond, eqb, leb, List, [], ◌∷◌, length, Ok, Err, Result, sym, refl, ap, ◌∙◌, arith}
use Rattle.std.proofs.lemmas.Bool.{cond-false, cond-true, eqb-true, le-leb, leb-true}
use Rattle.kb.specs.declared.names.Individual.{Individual}
use Rattle.calculus.specs.declared.step.Step.{Step}
use Rattle.calculus.specs.declared.step.Step.TheVariants.{Take, Both, All, Some as SomeStep, Include, Key, Either, Cut, Clash, Apart}
use Rattle.calculus.specs.Table.{and_then}
use Rattle.words.specs.declared.fault.ReadFault.{ReadFault}
use Rattle.words.specs.declared.fault.ReadFault.TheVariants.{Unreadable}
use Rattle.words.specs.Fronts.{front_letter}
use Rattle.lines.specs.Letters.{concept, individual, individual_numbers, individuals, key_of, letter_of, numbers_of, one, step_of, three, two}
use Rattle.lines.specs.Steps.{lent, unplaced}

-- individuals and their numbers
individuals-numbers : (zs : List Individual) → individuals (individual_numbers zs) ≡ zs
individuals-numbers [] = refl
individuals-numbers (z ∷ zs) = ap (λ l. z ∷ l) (individuals-numbers zs)

numbers-individuals : (ns : List ℕ) → individual_numbers (individuals ns) ≡ ns
numbers-individuals [] = refl
numbers-individuals (n ∷ ns) = ap (λ l. n ∷ l) (numbers-individuals ns)

-- the letter and the numbers of a step are that step
pub step_of_names : (s : Step) → length (numbers_of s) ≤ 7 → step_of (letter_of s) (numbers_of s) ≡ Ok (unplaced s)
step_of_names (Take n) h = refl
step_of_names (Both c x) h = refl
step_of_names (All c x y) h = refl
step_of_names (SomeStep c x) h = refl
step_of_names (Include n x) h = refl
step_of_names (Key n x y zs) h =
    let l : length (individual_numbers zs.now) ≤ 4 = omega arith in
    rw (le-leb _ 4 l) (ap (λ l. Ok (Key n x y (lent l))) (individuals-numbers zs.now))
step_of_names (Either c x) h = refl
step_of_names (Cut c x) h = refl
step_of_names (Clash c x) h = refl
step_of_names (Apart x y) h = refl

-- no letter is a digit
pub letter-front : (s : Step) (bs : List ℕ) → front_letter (letter_of s ∷ bs) ≡ Ok (letter_of s)
letter-front (Take n) bs = refl
letter-front (Both c x) bs = refl
letter-front (All c x y) bs = refl
letter-front (SomeStep c x) bs = refl
letter-front (Include n x) bs = refl
letter-front (Key n x y zs) bs = refl
letter-front (Either c x) bs = refl
letter-front (Cut c x) bs = refl
letter-front (Clash c x) bs = refl
letter-front (Apart x y) bs = refl

-- a step, its letter and its numbers, of which there are at most seven; its shared values lie nowhere in particular
pub record Names (c : ℕ) (ns : List ℕ) (s : Step) : Type 0 where
  pub letter : c ≡ letter_of s
  pub numbers : ns ≡ numbers_of s
  pub few : length ns ≤ 7
  pub bare : unplaced s ≡ s

never : {X E : Type 0} (x : X) (e : E) → Err e ≡ Ok x → ⊥
never x e p = let z : ◌≡◌ {A = ℕ} 0 1 = cc in omega arith

module _ (letter : ℕ) (s : Step) where
  names_one : (f : ℕ → Step) → ((n : ℕ) → f n ≡ s → Names letter (n ∷ []) s) → (ns : List ℕ) → and_then (one ns) (λ n. Ok (f n)) ≡ Ok s → Names letter ns s
  names_one f k [] e = absurd (never s Unreadable e)
  names_one f k (n ∷ []) e = k n (cc)
  names_one f k (n ∷ m ∷ ns) e = absurd (never s Unreadable e)

  names_two : (f : ℕ × ℕ → Step) → ((m n : ℕ) → f (m, n) ≡ s → Names letter (m ∷ n ∷ []) s) → (ns : List ℕ) → and_then (two ns) (λ p. Ok (f p)) ≡ Ok s → Names letter ns s
  names_two f k [] e = absurd (never s Unreadable e)
  names_two f k (m ∷ []) e = absurd (never s Unreadable e)
  names_two f k (m ∷ n ∷ []) e = k m n (cc)
  names_two f k (m ∷ n ∷ l ∷ ns) e = absurd (never s Unreadable e)

  names_three : (f : ℕ × ℕ × ℕ → Step) → ((m n l : ℕ) → f (m, n, l) ≡ s → Names letter (m ∷ n ∷ l ∷ []) s) → (ns : List ℕ) → and_then (three ns) (λ p. Ok (f p)) ≡ Ok s → Names letter ns s
  names_three f k [] e = absurd (never s Unreadable e)
  names_three f k (m ∷ []) e = absurd (never s Unreadable e)
  names_three f k (m ∷ n ∷ []) e = absurd (never s Unreadable e)
  names_three f k (m ∷ n ∷ l ∷ []) e = k m n l (cc)
  names_three f k (m ∷ n ∷ l ∷ j ∷ ns) e = absurd (never s Unreadable e)

  names_key : (ns : List ℕ) → letter ≡ 107 → key_of ns ≡ Ok s → Names letter ns s
  names_key [] l e = absurd (never s Unreadable e)
  names_key (n ∷ []) l e = absurd (never s Unreadable e)
  names_key (n ∷ x ∷ []) l e = absurd (never s Unreadable e)
  names_key (n ∷ x ∷ y ∷ zs) l e = by (leb (length zs) 4) refl
    where
      by : (t : Bool) → leb (length zs) 4 ≡ t → Names letter (n ∷ x ∷ y ∷ zs) s
      by true q =
          let is : key_of (n ∷ x ∷ y ∷ zs) ≡ Ok (Key n (individual x) (individual y) (lent (individuals zs))) = rw q in
          let same : Key n (individual x) (individual y) (lent (individuals zs)) ≡ s = cc in
          record {
            letter = l ∙ ap letter_of same;
            numbers = ap (λ ms. n ∷ x ∷ y ∷ ms) (sym (numbers-individuals zs)) ∙ ap numbers_of same;
            few = omega (arith, leb-true (length zs) 4 q);
            bare = ap unplaced (sym same) ∙ same;
          }
      by false q = let is : key_of (n ∷ x ∷ y ∷ zs) ≡ Err Unreadable = rw q in absurd (never s Unreadable (sym is ∙ e))

  -- a step that two numbers name
  two-named : (f : ℕ × ℕ → Step) → ((m n : ℕ) → (letter ≡ letter_of (f (m, n))) × (m ∷ n ∷ [] ≡ numbers_of (f (m, n))) × (unplaced (f (m, n)) ≡ f (m, n))) → (ns : List ℕ) → and_then (two ns) (λ p. Ok (f p)) ≡ Ok s → Names letter ns s
  two-named f k =
      names_two f
      (λ m n q. record { letter = (k m n).0 ∙ ap letter_of q; numbers = (k m n).1 ∙ ap numbers_of q; few = omega arith; bare = ap unplaced (sym q) ∙ (k m n).2 ∙ q })

-- a test on the letter, passed or not
decided : {P : Type 0} (letter n : ℕ) (a b : Result Step ReadFault) (s : Step) → (letter ≡ n → a ≡ Ok s → P) → (b ≡ Ok s → P) → cond (eqb letter n) a b ≡ Ok s → P
decided {P} letter n a b s then else e = by (eqb letter n) refl
  where
    by : (t : Bool) → eqb letter n ≡ t → P
    by true q = then (eqb-true letter n q) (sym (cond-true (eqb letter n) a b q) ∙ e)
    by false q = else (sym (cond-false (eqb letter n) a b q) ∙ e)

-- what a letter with numbers is has that letter and those numbers
pub step-named : (letter : ℕ) (ns : List ℕ) (s : Step) → step_of letter ns ≡ Ok s → Names letter ns s
step-named c ns s =
    decided c 116 _ _ s
    (λ l. names_one c s Take (λ n q. record { letter = l ∙ ap letter_of q; numbers = ap numbers_of q; few = omega arith; bare = ap unplaced (sym q) ∙ q }) ns)
    (decided c 98 _ _ s (λ l. two-named c s (λ p. Both (concept p.0) (individual p.1)) (λ m n. (l, refl, refl)) ns)
    (decided c 97 _ _ s
    (λ l. names_three c s (λ p. All (concept p.0) (individual p.1) (individual p.2))
    (λ m n k q. record { letter = l ∙ ap letter_of q; numbers = ap numbers_of q; few = omega arith; bare = ap unplaced (sym q) ∙ q }) ns)
    (decided c 115 _ _ s (λ l. two-named c s (λ p. SomeStep (concept p.0) (individual p.1)) (λ m n. (l, refl, refl)) ns)
    (decided c 105 _ _ s (λ l. two-named c s (λ p. Include p.0 (individual p.1)) (λ m n. (l, refl, refl)) ns)
    (decided c 107 _ _ s (λ l. names_key c s ns l)
    (decided c 101 _ _ s (λ l. two-named c s (λ p. Either (concept p.0) (individual p.1)) (λ m n. (l, refl, refl)) ns)
    (decided c 117 _ _ s (λ l. two-named c s (λ p. Cut (concept p.0) (individual p.1)) (λ m n. (l, refl, refl)) ns)
    (decided c 113 _ _ s (λ l. two-named c s (λ p. Clash (concept p.0) (individual p.1)) (λ m n. (l, refl, refl)) ns)
    (decided c 100 _ _ s (λ l. two-named c s (λ p. Apart (individual p.0) (individual p.1)) (λ m n. (l, refl, refl)) ns)
    (λ e. absurd (never s Unreadable e)))))))))))
