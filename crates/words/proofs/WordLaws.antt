-- Which word stands at a place, by how many digits stand there.
use Rattle.std.proofs.Common.{◌≡◌, ℕ, ◌+◌, ◌-◌, ◌<◌, ◌≤◌, Bool, true, false, List, [], ◌∷◌, length, take, drop, Ok, Err, sym, refl, ap, ◌∙◌, arith, length-drop}
use Rattle.std.specs.Char.{is_ascii_digit}
use Rattle.std.proofs.lemmas.List.{at_drop_all, length-take-le, take_rest}
use Rattle.words.specs.declared.fault.ReadFault.{ReadFault}
use Rattle.words.specs.declared.fault.ReadFault.TheVariants.{Unreadable}
use Rattle.words.specs.Fronts.{front_number, sized}
use Rattle.words.specs.Numerals.{digit_count, number_of}
use Rattle.words.specs.Words.{SeenWord, letter_word, number_in, number_word, size_of, word_from, word_at}
use Rattle.words.proofs.NumeralLaws.{count-within}

-- one byte where there is no digit
letter-from : (bs : List ℕ) (at : ℕ) → 0 < length bs → digit_count bs ≡ 0 → Ok (letter_word (take 1 bs) at) ≡ word_from bs at
letter-from [] at h e = absurd (omega arith)
letter-from (b ∷ bs) at h e = by (is_ascii_digit b) refl
  where
    by : (t : Bool) → is_ascii_digit b ≡ t → Ok (letter_word (b ∷ []) at) ≡ word_from (b ∷ bs) at
    by true q = let z : digit_count (b ∷ bs) ≡ digit_count bs + 1 = rw q in absurd (omega arith)
    by false q = rw q

-- digits where there are some
number-from : (bs : List ℕ) (at n : ℕ) → n ≡ digit_count bs → (n ≡ 0 → ⊥) → Ok (number_word (take n bs) at) ≡ word_from bs at
number-from [] at n e h = absurd (h e)
number-from (b ∷ bs) at n e h = by (is_ascii_digit b) refl
  where
    by : (t : Bool) → is_ascii_digit b ≡ t → Ok (number_word (take n (b ∷ bs)) at) ≡ word_from (b ∷ bs) at
    by true q = rw (e, q)
    by false q = let z : digit_count (b ∷ bs) ≡ 0 = rw q in absurd (h (e ∙ z))

-- the part of a text from a place on
module _ (text : List ℕ) (at : ℕ) where
  abbrev pub part_from : List ℕ
  part_from = take (length text - at) (drop at text)

  pub no_word : length text ≤ at → Err Unreadable ≡ word_at text at
  no_word h = sym (at_drop_all (λ bs. word_from bs at) text at h)

  pub letter_word_lem : at < length text → digit_count part_from ≡ 0 → Ok (letter_word (take 1 part_from) at) ≡ word_at text at
  letter_word_lem h e =
      let r = take_rest text at in
      rw r (letter-from (drop at text) at (omega (arith, length-drop at text)) (sym (ap digit_count r) ∙ e))

  pub number_word_lem : (n : ℕ) → n ≡ digit_count part_from → (n ≡ 0 → ⊥) → Ok (number_word (take n part_from) at) ≡ word_at text at
  number_word_lem n e h =
      let r = take_rest text at in
      rw r (number-from (drop at text) at n (e ∙ ap digit_count r) h)

-- the number of a word is the number at the front
pub number_by_word : (bs : List ℕ) (at : ℕ) (w : SeenWord) → word_from bs at ≡ Ok w → front_number bs ≡ sized (size_of w) (number_in w)
number_by_word [] at w e = let z : ◌≡◌ {A = ℕ} 0 1 = cc in absurd (omega arith)
number_by_word (b ∷ bs) at w e = by (is_ascii_digit b) refl
  where
    by : (t : Bool) → is_ascii_digit b ≡ t → front_number (b ∷ bs) ≡ sized (size_of w) (number_in w)
    by true q =
        let n = digit_count (b ∷ bs) in
        let is : word_from (b ∷ bs) at ≡ Ok (number_word (take n (b ∷ bs)) at) = rw q in
        let same : w ≡ number_word (take n (b ∷ bs)) at = cc in
        ap (λ k. sized k (number_of (take n (b ∷ bs)))) (sym (length-take-le n (b ∷ bs) (count-within (b ∷ bs)))) ∙ ap (λ v. sized (size_of v) (number_in v)) (sym same)
    by false q =
        let is : word_from (b ∷ bs) at ≡ Ok (letter_word (b ∷ []) at) = rw q in
        let same : w ≡ letter_word (b ∷ []) at = cc in
        let none : front_number (b ∷ bs) ≡ Err Unreadable = rw q in
        none ∙ ap (λ v. sized (size_of v) (number_in v)) (sym same)

pub number_no_word : (bs : List ℕ) (at : ℕ) (f : ReadFault) → word_from bs at ≡ Err f → front_number bs ≡ Err f
number_no_word [] at f e = let q : Unreadable ≡ f = cc in ap Err q
number_no_word (b ∷ bs) at f e = by (is_ascii_digit b) refl
  where
    by : (t : Bool) → is_ascii_digit b ≡ t → front_number (b ∷ bs) ≡ Err f
    by true q =
        let is : word_from (b ∷ bs) at ≡ Ok (number_word (take (digit_count (b ∷ bs)) (b ∷ bs)) at) = rw q in
        let z : ◌≡◌ {A = ℕ} 0 1 = cc in absurd (omega arith)
    by false q =
        let is : word_from (b ∷ bs) at ≡ Ok (letter_word (b ∷ []) at) = rw q in
        let z : ◌≡◌ {A = ℕ} 0 1 = cc in absurd (omega arith)
