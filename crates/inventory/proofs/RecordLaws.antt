-- Where the assertions of a record stand.
use Rattle.std.proofs.Common.{◌≡◌, ℕ, zero, suc, ◌+◌, ◌-◌, ◌*◌, ◌/◌, ◌%◌, ◌<◌, min, Bool, true, cond, List, [], ◌∷◌, map, length, take, Ok, Err, sym, ap, ◌∙◌, arith}
use Rattle.std.proofs.lemmas.List.{length-map, take_min}
use Rattle.rows.specs.declared.fault.RowFault.{RowFault}
use Rattle.rows.specs.declared.fault.RowFault.TheVariants.{NoSuchRow}
use Rattle.rows.specs.Rows.{row_at}
use Rattle.rows.proofs.RowLaws.{row_at-beyond, row_at-refused, row_at-append-left, row_at_append_right}
use Rattle.kb.specs.declared.axioms.Assertion.{Assertion}
use Rattle.kb.specs.declared.lexicon.Entry.{Entry}
use Rattle.kb.specs.Meanings.{empty_meaning}
use Rattle.inventory.specs.declared.contents.Columns.{Columns}
use Rattle.inventory.specs.declared.contents.Record.{Record}
use Rattle.inventory.specs.Inventories.{record_rows, rows_from, column_meaning, listed, inventory_meaning, length-rows_from}

module _ (f : Assertion → Assertion) (columns : Columns) (r : ℕ) where
  -- row k of the four of record q
  row_of : (xs : List Record) (i q k : ℕ) (x : Record) → k < 4 → row_at xs q ≡ Ok x → row_at (map f (rows_from columns r i xs)) (4 * q + k) ≡ row_at (map f (record_rows columns r (i + q) x)) k
  row_of [] i q k x h e = let z : ◌≡◌ {A = ℕ} 0 1 = cc in absurd (omega arith)
  row_of (y ∷ ys) i zero k x h e =
      let s : y ≡ x = cc in
      let n : 4 * 0 + k ≡ k = omega arith in
      let m : i ≡ i + 0 = omega arith in
      ap (row_at (map f (rows_from columns r i (y ∷ ys)))) n
      ∙ row_at-append-left (map f (record_rows columns r i y)) (map f (rows_from columns r (suc i) ys)) k h
      ∙ ap (λ (j : ℕ). row_at (map f (record_rows columns r j y)) k) m
      ∙ ap (λ (z : Record). row_at (map f (record_rows columns r (i + 0) z)) k) s
  row_of (y ∷ ys) i (suc q) k x h e =
      let n : 4 * suc q + k - 4 ≡ 4 * q + k = omega arith in
      let m : suc i + q ≡ i + suc q = omega arith in
      row_at_append_right (map f (record_rows columns r i y)) (map f (rows_from columns r (suc i) ys)) (4 * suc q + k) (omega arith)
      ∙ ap (row_at (map f (rows_from columns r (suc i) ys))) n ∙ row_of ys (suc i) q k x h e
      ∙ ap (λ (j : ℕ). row_at (map f (record_rows columns r j x)) k) m

  pub row-found : (xs : List Record) (n : ℕ) (x : Record) → row_at xs (n / 4) ≡ Ok x → row_at (map f (rows_from columns r 0 xs)) n ≡ row_at (map f (record_rows columns r (n / 4) x)) (n % 4)
  row-found xs n x e =
      let s : 4 * (n / 4) + n % 4 ≡ n = omega arith in
      let z : 0 + n / 4 ≡ n / 4 = omega arith in
      ap (row_at (map f (rows_from columns r 0 xs))) (sym s) ∙ row_of xs 0 (n / 4) (n % 4) x (omega arith) e
      ∙ ap (λ (i : ℕ). row_at (map f (record_rows columns r i x)) (n % 4)) z

  pub row-missing : (xs : List Record) (n : ℕ) (e : RowFault) → row_at xs (n / 4) ≡ Err e → row_at (map f (rows_from columns r 0 xs)) n ≡ Err e
  row-missing xs n NoSuchRow e =
      row_at-beyond (map f (rows_from columns r 0 xs)) n (omega (arith, length-map (rows_from columns r 0 xs) f, length-rows_from columns r 0 xs, row_at-refused xs (n / 4) NoSuchRow e))

-- within the limits an inventory lists its records
pub listed_meaning : (es : List Entry) (n : ℕ) (columns : Columns) (xs : List Record) (v k : ℕ) → true ≡ listed (length xs) v → k ≡ min 65535 (length es) → column_meaning (take k es) n columns xs v ≡ inventory_meaning es n columns xs v
listed_meaning es n columns xs v k t e =
    ap (λ (l : List Entry). column_meaning l n columns xs v) (ap (λ (m : ℕ). take m es) e ∙ take_min 65535 es)
    ∙ ap (λ (b : Bool). cond b (column_meaning (take 65535 es) n columns xs v) empty_meaning) t
