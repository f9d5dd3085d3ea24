-- Where the rows of a case file stand.
use Rattle.std.proofs.Common.{◌≡◌, ℕ, zero, suc, ◌+◌, ◌*◌, ◌<◌, ◌≤◌, List, drop, slice_index, Ok, Err, Result, IfOk, OnErr, sym, subst, ap, ◌∙◌, ⊎_elim, mul-suc, arith}
use Rattle.std.specs.Array.{IsFromFnResultFrom}
use Rattle.std.specs.Fn.{Called, Mut}
use Rattle.std.proofs.lemmas.Bool.{cases_eq}
use Rattle.std.proofs.lemmas.List.{drop-drop}
use Rattle.rows.specs.declared.fault.RowFault.{RowFault}
use Rattle.rows.specs.declared.fault.RowFault.TheVariants.{NoSuchRow}
use Rattle.rows.specs.Rows.{row_at}
use Rattle.rows.proofs.RowLaws.{row_at-beyond}
use Rattle.kb.specs.declared.counts.Counts.{Counts}
use Rattle.kb.specs.Meanings.{counts_of}
use Rattle.casefile.specs.declared.records.Record.{Record}
use Rattle.casefile.specs.Files.{rows_from, listed}
use Rattle.casefile.specs.Layout.{entries_at, assertions_at, inclusions_at, keys_at}
use Rattle.casefile.specs.Records.{IsRecord, read_entry, read_assertion, read_inclusion, read_key}
use Rattle.casefile.specs.Owing.{length-rows_from}

-- what every call tells of its number, from a state that stays, the whole array tells of each
pub each_told : {F : Type 0} (g : Mut F (ℕ × Unit {0}) ℕ) (P : ℕ → ℕ → Type 0) (f : F) → ((p q : F) (i y : ℕ) → p ≡ f → Called g p (i, tt) y q → P i y × (q ≡ f)) → (p : F) → p ≡ f → (ys : List ℕ) (n i : ℕ) → IsFromFnResultFrom g p ys i n → (j : ℕ) → i ≤ j → j < i + n → P j (slice_index ys j)
each_told g P f told p e ys zero i each j low high = absurd (omega arith)
each_told g P f told p e ys (suc n) i (q, y, is, called, rest) j low high =
    let t : P i y × (q ≡ f) = told p q i y e called in
    ⊎_elim
    (λ s. subst (λ (k : ℕ). P k (slice_index ys k)) (sym s) (subst (P i) (sym (is.1 0)) t.0))
    (λ ne. each_told g P f told q t.1 ys n (i + 1) rest j (omega (arith, ne)) (omega arith))
    (cases_eq j i)

-- numbers that agree in a record say the same row
module _ (ms ns : List ℕ) where
  pub entry_alike : IsRecord 3 ns ms → read_entry ms ≡ read_entry ns
  entry_alike h = rw (h 0 (omega arith), h 1 (omega arith), h 2 (omega arith))

  pub assertion_alike : IsRecord 4 ns ms → read_assertion ms ≡ read_assertion ns
  assertion_alike h = rw (h 0 (omega arith), h 1 (omega arith), h 2 (omega arith), h 3 (omega arith))

  pub inclusion_alike : IsRecord 2 ns ms → read_inclusion ms ≡ read_inclusion ns
  inclusion_alike h = rw (h 0 (omega arith), h 1 (omega arith))

  pub key_alike : IsRecord 11 ns ms → read_key ms ≡ read_key ns
  key_alike h =
      rw (h 0 (omega arith), h 1 (omega arith), h 2 (omega arith), h 3 (omega arith), h 4 (omega arith), h 5 (omega arith), h 6 (omega arith), h 7 (omega arith), h 8 (omega arith), h 9 (omega arith), h 10 (omega arith))

module _ {X : Type 0} (width : ℕ) (read : List ℕ → X) where
  -- row i of a section is read where it begins
  rows_from-begins : (k : ℕ) (ns : List ℕ) (i : ℕ) → i < k → row_at (rows_from width read k ns) i ≡ Ok (read (drop (width * i) ns))
  rows_from-begins zero ns i h = absurd (omega arith)
  rows_from-begins (suc k) ns zero h = let e : width * 0 ≡ 0 = omega arith in rw e
  rows_from-begins (suc k) ns (suc i) h =
      rows_from-begins k (drop width ns) i (omega arith)
      ∙ ap (λ (l : List ℕ). Ok (read l)) (drop-drop (width * i) width ns)
      ∙ ap (λ (j : ℕ). Ok (read (drop j ns))) (omega (arith, mul-suc width i))

  -- so what a section answers about row i is the row that begins that many widths behind the section's beginning
  pub row_found : ((ms ns : List ℕ) → IsRecord width ns ms → read ms ≡ read ns) → (at k p count i : ℕ) (ns : List ℕ) → p ≡ at → count ≡ k → (r : Result X RowFault) → IfOk r (λ x. (i < count) × (m : Record width) × IsRecord width (drop (p + width * i) ns) m.0 × (x ≡ read m.0)) → OnErr r (count ≤ i) → r ≡ row_at (rows_from width read k (drop at ns)) i
  row_found alike at k p count i ns q e (Ok x) (low, m, is, told) absent =
      ap Ok (told ∙ alike m.0 _ is ∙ ap (λ (j : ℕ). read (drop (j + width * i) ns)) q ∙ ap read (sym (drop-drop (width * i) at ns)))
      ∙ sym (rows_from-begins k (drop at ns) i (omega arith))
  row_found alike at k p count i ns q e (Err NoSuchRow) found absent =
      sym (row_at-beyond (rows_from width read k (drop at ns)) i (omega (arith, length-rows_from width read k (drop at ns))))

-- a file lists as many rows as its counts say
pub counts_listed : (n : Counts) (ns : List ℕ) → counts_of (listed n ns) ≡ n
counts_listed n ns =
    rw (
      length-rows_from 3 read_entry n.entries (drop entries_at ns),
      length-rows_from 4 read_assertion n.assertions (drop (assertions_at n) ns),
      length-rows_from 2 read_inclusion n.inclusions (drop (inclusions_at n) ns),
      length-rows_from 11 read_key n.keys (drop (keys_at n) ns),
    )
