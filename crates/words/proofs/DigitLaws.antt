-- Digits one at a time, and what they write.
use Rattle.std.proofs.Common.{◌≡◌, ℕ, ◌+◌, ◌-◌, ◌*◌, ◌<◌, ◌≤◌, true, false, leb, List, [], ◌∷◌, length, get_or, drop, Ok, Err, ◌∙◌, arith, rules}
use Rattle.std.specs.Char.{is_ascii_digit}
use Rattle.std.specs.Str.{all_ascii_digits}
use Rattle.std.proofs.lemmas.List.{at_drop_all, at_drop_more}
use Rattle.std.proofs.lemmas.Bool.{cond-false, and_right, le-leb, lt-leb}
use Rattle.std.proofs.lemmas.Str.Parse.{IsNumeralModel, numerals_by_fold}
use Rattle.words.specs.declared.fault.ReadFault.TheVariants.{Unreadable}
use Rattle.words.specs.Numerals.{value_after, value_within}

-- digits and what they write, as the library's lemmas take them
pub own : IsNumeralModel (λ ds. all_ascii_digits ds ≡ true) (value_after 0)
own = numerals_by_fold _ (search rules) value_after (search rules)

-- digits behind a number write no smaller one
pub value_after_ge : (n : ℕ) (ds : List ℕ) → n ≤ value_after n ds
value_after_ge n [] = omega arith
value_after_ge n (d ∷ ds) = omega (arith, value_after_ge (10 * n + (d - 48)) ds)

-- the value at a place, behind the digits of n
module _ (ds : List ℕ) (i n : ℕ) where
  pub value-stops : i < length ds → is_ascii_digit (get_or ds i 0) ≡ false → value_within n (drop i ds) ≡ Err Unreadable
  value-stops h e = at_drop_more (value_within n) ds i 0 h ∙ rw e

  pub value_passes : (d : ℕ) → i < length ds → d ≡ get_or ds i 0 - 48 → 65535 < 10 * n + d → value_within n (drop i ds) ≡ Err Unreadable
  value_passes d h e l =
      let m = 10 * n + (get_or ds i 0 - 48) in
      let v = value_after m (drop (i + 1) ds) in
      at_drop_more (value_within n) ds i 0 h
      ∙ cond-false _ _ _ (and_right _ (leb v 65535) (lt-leb v 65535 (omega (arith, value_after_ge m (drop (i + 1) ds)))))

  pub value_goes : (d : ℕ) → i < length ds → d ≡ get_or ds i 0 - 48 → is_ascii_digit (get_or ds i 0) ≡ true → value_within n (drop i ds) ≡ value_within (10 * n + d) (drop (i + 1) ds)
  value_goes d h e t = at_drop_more (value_within n) ds i 0 h ∙ rw (t, e)

  pub value-ends : length ds ≤ i → n ≤ 65535 → value_within n (drop i ds) ≡ Ok n
  value-ends h l = at_drop_all (value_within n) ds i h ∙ rw (le-leb n 65535 l)
