-- A section written row by row.
use Rattle.std.proofs.Common.{◌≡◌, ℕ, zero, suc, ◌+◌, ◌*◌, ◌<◌, ◌≤◌, List, [], ◌∷◌, ◌++◌, length, take, drop, sym, refl, ap, ◌∙◌, arith, length-append, take-append-drop}
use Rattle.std.specs.List.{flat_map}
use Rattle.std.proofs.lemmas.List.{take_all}
use Rattle.std.proofs.lemmas.List.Concat.{flat_map-append}
use Rattle.rows.specs.Rows.{row_at}
use Rattle.rows.proofs.RowLaws.{row_at-inside}
use Rattle.kb.specs.declared.fault.RowList.{RowList}
use Rattle.kb.specs.declared.fault.RowList.TheVariants.{Entries, Assertions, Inclusions, Keys}
use Rattle.kb.specs.Check.{count_of}
use Rattle.kb.specs.Meanings.{Meaning, counts_of}
use Rattle.kb.specs.Numbers.{entry_numbers, assertion_numbers, inclusion_numbers, key_numbers}
use Rattle.casewriter.specs.Encoding.{bytes_of, case_bytes, found_numbers, header_numbers, row_numbers, section_numbers, two_bytes, width_of}
use Rattle.casewriter.proofs.ByteLaws.{joined-take, length-bytes}
use Rattle.casewriter.proofs.Overwriting.{length-behind}
use Rattle.casewriter.proofs.WidthLaws.{length_entry, length_assertion, length_inclusion, length_key}

-- the first k rows of a list
abbrev pub first_rows : Meaning → RowList → ℕ → List ℕ
first_rows m Entries k = flat_map entry_numbers (take k m.entries)
first_rows m Assertions k = flat_map assertion_numbers (take k m.assertions)
first_rows m Inclusions k = flat_map inclusion_numbers (take k m.inclusions)
first_rows m Keys k = flat_map key_numbers (take k m.keys)

joined-row : {X : Type 0} (f : X → List ℕ) (xs : List X) (k : ℕ) → k < length xs → flat_map f (take (k + 1) xs) ≡ flat_map f (take k xs) ++ found_numbers f (row_at xs k)
joined-row f [] k h = absurd (omega arith)
joined-row f (x ∷ xs) k h = rw (row_at-inside (x ∷ xs) k x h) (joined-take f (x ∷ xs) k x h)

joined-within : {X : Type 0} (f : X → List ℕ) (xs : List X) (k : ℕ) → length (flat_map f (take k xs)) ≤ length (flat_map f xs)
joined-within f xs k =
    let whole = ap (flat_map f) (take-append-drop k xs) in
    omega (arith, ap length (flat_map-append f (take k xs) (drop k xs)), length-append (flat_map f (take k xs)) (flat_map f (drop k xs)), ap length whole)

length_found : {X : Type 0} (f : X → List ℕ) (width : ℕ) → ((x : X) → length (f x) ≡ width) → (xs : List X) (k : ℕ) → k < length xs → length (found_numbers f (row_at xs k)) ≡ width
length_found f width same [] k h = absurd (omega arith)
length_found f width same (x ∷ xs) zero h = same x
length_found f width same (x ∷ xs) (suc k) h = length_found f width same xs k (omega arith)

-- What the first rows of a section are: one row more at a time, in the end all of it, and never longer. A row is as long
-- as every other.
pub record IsByRows (section : List ℕ) (first row : ℕ → List ℕ) (count width : ℕ) : Type 0 where
  pub more : (k : ℕ) → k < count → first (k + 1) ≡ first k ++ row k
  pub all : (k : ℕ) → count ≤ k → first k ≡ section
  pub within : (k : ℕ) → length (first k) ≤ length section
  pub wide : (k : ℕ) → k < count → length (row k) ≡ width

joined-is_by_rows : {X : Type 0} (f : X → List ℕ) (width : ℕ) → ((x : X) → length (f x) ≡ width) → (xs : List X) → IsByRows (flat_map f xs) (λ k. flat_map f (take k xs)) (λ k. found_numbers f (row_at xs k)) (length xs) width
joined-is_by_rows f width same xs =
    record { more = joined-row f xs; all = λ k h. ap (flat_map f) (take_all k xs h); within = joined-within f xs; wide = length_found f width same xs }

pub section-is_by_rows : (m : Meaning) (list : RowList) → IsByRows (section_numbers m list) (first_rows m list) (row_numbers m list) (count_of (counts_of m) list) (width_of list)
section-is_by_rows m Entries = joined-is_by_rows entry_numbers 3 length_entry m.entries
section-is_by_rows m Assertions = joined-is_by_rows assertion_numbers 4 length_assertion m.assertions
section-is_by_rows m Inclusions = joined-is_by_rows inclusion_numbers 2 length_inclusion m.inclusions
section-is_by_rows m Keys = joined-is_by_rows key_numbers 11 length_key m.keys

-- the bytes of one row more, row j
pub bytes-more : (m : Meaning) (list : RowList) (k j : ℕ) → j ≡ k → k < count_of (counts_of m) list → bytes_of (first_rows m list (k + 1)) ≡ bytes_of (first_rows m list k) ++ bytes_of (row_numbers m list j)
bytes-more m list k j e h =
    ap bytes_of ((section-is_by_rows m list).more k h) ∙ flat_map-append two_bytes (first_rows m list k) (row_numbers m list k)
    ∙ ap (λ (i : ℕ). bytes_of (first_rows m list k) ++ bytes_of (row_numbers m list i)) (sym e)

pub length_more : (m : Meaning) (list : RowList) (k j : ℕ) → j ≡ k → k < count_of (counts_of m) list → length (bytes_of (first_rows m list (k + 1))) ≡ length (bytes_of (first_rows m list k)) + length (bytes_of (row_numbers m list j))
length_more m list k j e h =
    ap length (bytes-more m list k j e h) ∙ length-append (bytes_of (first_rows m list k)) (bytes_of (row_numbers m list j))

pub bytes-within : (m : Meaning) (list : RowList) (k : ℕ) → length (bytes_of (first_rows m list k)) ≤ length (bytes_of (section_numbers m list))
bytes-within m list k =
    omega (arith, (section-is_by_rows m list).within k, length-bytes (first_rows m list k), length-bytes (section_numbers m list))

-- so where the section goes in, a row behind others of it does
pub row_within : (m : Meaning) (list : RowList) (k : ℕ) → k < count_of (counts_of m) list → length (bytes_of (first_rows m list k)) + 2 * width_of list ≤ length (bytes_of (section_numbers m list))
row_within m list k h =
    omega (arith, bytes-within m list (k + 1), length_more m list k k refl h, length-bytes (row_numbers m list k), (section-is_by_rows m list).wide k h)

-- a file is as long as its header and its sections
pub length-parts : (m : Meaning) → length (case_bytes m) ≡ 12 + length (bytes_of (section_numbers m Entries)) + length (bytes_of (section_numbers m Assertions)) + length (bytes_of (section_numbers m Inclusions)) + length (bytes_of (section_numbers m Keys))
length-parts m =
    let header = header_numbers (counts_of m) in
    let e = section_numbers m Entries in
    let a = section_numbers m Assertions in
    let i = section_numbers m Inclusions in
    omega (arith, length-behind (header ++ e ++ a ++ i) (section_numbers m Keys), length-behind (header ++ e ++ a) i, length-behind (header ++ e) a, length-behind header e)
