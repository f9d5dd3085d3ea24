-- Where a row of a list behind another stands.
use Rattle.std.proofs.Common.{◌≡◌, ℕ, ◌+◌, ◌-◌, ◌<◌, ◌≤◌, List, ◌++◌, length, Ok, Err, Result, sym, ◌∙◌, arith, length-append, length-take}
use Rattle.std.specs.Result.{result_or}
use Rattle.rows.specs.declared.fault.RowFault.{RowFault}
use Rattle.rows.specs.declared.fault.RowFault.TheVariants.{NoSuchRow}
use Rattle.rows.specs.Rows.{row_at}
use Rattle.rows.proofs.RowLaws.{row_at-beyond, row_at-refused, row_at-found, row_at-take, row_at-append-left, row_at_append_right}
use Rattle.kb.specs.Telling.{tell, behind}

module _ {X : Type 0} (xs ys : List X) where
  pub length-behind : length (behind xs ys) ≡ tell (length xs + length ys)
  length-behind = simp (length-take, length-append) (omega arith)

  module _ (n : ℕ) where
    -- in the first list
    pub behind-first : length xs ≤ 65535 → n < length xs → row_at (behind xs ys) n ≡ row_at xs n
    behind-first s h = row_at-take 65535 (xs ++ ys) n (omega arith) ∙ row_at-append-left xs ys n h

    -- in the second
    pub behind-second : n < 65535 → length xs ≤ n → row_at (behind xs ys) n ≡ row_at ys (n - length xs)
    behind-second s h = row_at-take 65535 (xs ++ ys) n s ∙ row_at_append_right xs ys n h

    -- past the cut
    pub behind-cut : 65535 ≤ n → row_at (behind xs ys) n ≡ Err NoSuchRow
    behind-cut h = row_at-beyond (behind xs ys) n (simp length-take (omega arith))

    -- the same from the two answers
    pub behind-or : (first second : Result X RowFault) → length xs ≤ 65535 → n < 65535 → first ≡ row_at xs n → second ≡ row_at ys (n - length xs) → result_or first second ≡ row_at (behind xs ys) n
    behind-or (Ok x) second s h e f = e ∙ sym (behind-first s (row_at-found xs n x (sym e)))
    behind-or (Err a) second s h e f = f ∙ sym (behind-second h (row_at-refused xs n a (sym e)))

    pub behind-past : (first : Result X RowFault) → length xs ≤ 65535 → 65535 ≤ n → first ≡ row_at xs n → first ≡ row_at (behind xs ys) n
    behind-past first s h e = e ∙ row_at-beyond xs n (omega arith) ∙ sym (behind-cut h)
