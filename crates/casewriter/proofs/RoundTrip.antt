-- A case file that was written is read as the base that it was written from.
use Rattle.std.proofs.Common.{◌≡◌, ℕ, suc, ◌*◌, ◌<◌, ◌≤◌, Bool, true, List, [], ◌∷◌, ◌++◌, length, drop, sym, refl, ap, ◌∙◌, append_assoc, append-nil, arith, length-append}
use Rattle.std.specs.List.{flat_map, AllByRecursion}
use Rattle.std.proofs.ByRecursion.{All-append}
use Rattle.std.proofs.lemmas.List.{drop_at}
use Rattle.std.proofs.lemmas.Bool.{and_from, le-leb, eq-eqb, false≢true}
use Rattle.std.proofs.lemmas.Bool.Decides.{nat_tests}
use Rattle.kb.specs.declared.axioms.Assertion.{Assertion}
use Rattle.kb.specs.declared.axioms.Assertion.TheVariants.{Is, Joins, Same, Different, Unlisted as UnlistedAssertion}
use Rattle.kb.specs.declared.axioms.Inclusion.{Inclusion}
use Rattle.kb.specs.declared.axioms.Key.{Key}
use Rattle.kb.specs.declared.axioms.Key.TheVariants.{Link, Unlisted as UnlistedKey}
use Rattle.kb.specs.declared.axioms.RolePairs.TheVariants.{One, Two, Three, Four}
use Rattle.kb.specs.declared.counts.Counts.{Counts}
use Rattle.kb.specs.declared.fault.RowList.TheVariants.{Entries, Assertions, Inclusions, Keys}
use Rattle.kb.specs.declared.lexicon.Entry.{Entry}
use Rattle.kb.specs.declared.lexicon.Entry.TheVariants.{Top, Name, Both, Some, Unlisted}
use Rattle.kb.specs.Check.{InRange, row_passes, sizes_accepted}
use Rattle.kb.specs.Meanings.{Meaning, Owed, Tellable, counts_of}
use Rattle.kb.specs.Numbers.{entry_numbers, assertion_numbers, inclusion_numbers, key_numbers}
use Rattle.kb.specs.Range.{entry_in_range, assertion_in_range, inclusion_in_range, key_in_range}
use Rattle.casefile.specs.Files.{announced, file_meaning, listed, rows_from, whole_file}
use Rattle.casefile.specs.Layout.{assertions_at, end_at, header_counts, inclusions_at, keys_at}
use Rattle.casefile.specs.Numbers.{numbers}
use Rattle.casefile.specs.Records.{read_entry, read_assertion, read_inclusion, read_key}
use Rattle.casewriter.specs.Encoding.{case_bytes, case_numbers, header_numbers, section_numbers}
use Rattle.casewriter.proofs.ByteLaws.{all_joined, length-bytes, numbers-bytes}
use Rattle.casewriter.proofs.WidthLaws.{length_entry, length_assertion, length_inclusion, length_key, length_section}

-- a row in range is read back from its numbers
module _ (n : Counts) (rest : List ℕ) where
  read_entry_lem : (k : ℕ) (e : Entry) → entry_in_range n k e ≡ true → read_entry (entry_numbers e ++ rest) ≡ e
  read_entry_lem k Top h = refl
  read_entry_lem k Name h = refl
  read_entry_lem k (Both c d) h = refl
  read_entry_lem k (Some r c) h = refl
  read_entry_lem k (Unlisted kind) h = absurd (false≢true h)

  read_assertion_lem : (a : Assertion) → assertion_in_range n a ≡ true → read_assertion (assertion_numbers a ++ rest) ≡ a
  read_assertion_lem (Is c x) h = refl
  read_assertion_lem (Joins r x y) h = refl
  read_assertion_lem (Same x y) h = refl
  read_assertion_lem (Different x y) h = refl
  read_assertion_lem (UnlistedAssertion kind) h = absurd (false≢true h)

  read_inclusion_lem : (i : Inclusion) → inclusion_in_range n i ≡ true → read_inclusion (inclusion_numbers i ++ rest) ≡ i
  read_inclusion_lem i h = refl

  read_key_lem : (k : Key) → key_in_range n k ≡ true → read_key (key_numbers k ++ rest) ≡ k
  read_key_lem (Link c d (One p)) h = refl
  read_key_lem (Link c d (Two p q)) h = refl
  read_key_lem (Link c d (Three p q s)) h = refl
  read_key_lem (Link c d (Four p q s t)) h = refl
  read_key_lem (UnlistedKey count) h = absurd (false≢true h)

-- so are the rows of a section, whatever stands behind them
read_rows : {X : Type 0} (numbers_of : X → List ℕ) (width : ℕ) (read : List ℕ → X) (test : ℕ → X → Bool) → ((x : X) → length (numbers_of x) ≡ width) → ((rest : List ℕ) (k : ℕ) (x : X) → test k x ≡ true → read (numbers_of x ++ rest) ≡ x) → (xs : List X) → ((k : ℕ) → k < length xs → row_passes test xs k ≡ true) → (rest : List ℕ) → rows_from width read (length xs) (flat_map numbers_of xs ++ rest) ≡ xs
read_rows numbers_of width read test wide back [] pass rest = refl
read_rows numbers_of width read test wide back (x ∷ xs) pass rest =
    let front : (numbers_of x ++ flat_map numbers_of xs) ++ rest ≡ numbers_of x ++ (flat_map numbers_of xs ++ rest) = append_assoc (numbers_of x) (flat_map numbers_of xs) rest in
    rw (front, back (flat_map numbers_of xs ++ rest) 0 x (pass 0 (omega arith)), drop_at (numbers_of x) (flat_map numbers_of xs ++ rest) width (wide x))
    (ap (λ ys. x ∷ ys) (read_rows numbers_of width read (λ k. test (suc k)) wide (λ r k. back r (suc k)) xs (λ k h. pass (suc k) (omega arith)) rest))

-- what bytes mean, by the numbers that they are
whole_by : (bytes ns : List ℕ) → numbers bytes ≡ ns → length bytes ≤ 16384 → length bytes ≡ 2 * end_at (header_counts ns) → whole_file bytes ≡ true
whole_by bytes ns e short long =
    and_from _ _ (le-leb (length bytes) 16384 short)
    (eq-eqb (length bytes) (announced bytes) (long ∙ ap (λ (l : List ℕ). 2 * end_at (header_counts l)) (sym e)))

meaning_by : (bytes ns : List ℕ) → numbers bytes ≡ ns → whole_file bytes ≡ true → file_meaning bytes ≡ listed (header_counts ns) ns
meaning_by bytes ns e whole = rw (whole, e)

-- a file of accepted sizes has at most 6,502 numbers
sizes-end : (n : Counts) → sizes_accepted n ≡ true → end_at n ≤ 6502
sizes-end n s = grind (arith, nat_tests)

module _ (m : Meaning) where
  pub length_case : length (case_numbers m) ≡ end_at (counts_of m)
  length_case =
      simp length-append (omega (arith, length_section m Entries, length_section m Assertions, length_section m Inclusions, length_section m Keys))

  -- what stands before a section
  abbrev before_assertions : List ℕ
  before_assertions = header_numbers (counts_of m) ++ section_numbers m Entries

  abbrev before_inclusions : List ℕ
  before_inclusions = before_assertions ++ section_numbers m Assertions

  abbrev before_keys : List ℕ
  before_keys = before_inclusions ++ section_numbers m Inclusions

  -- where each section stands in the file
  from_entries : drop 6 (case_numbers m) ≡ section_numbers m Entries ++ (section_numbers m Assertions ++ section_numbers m Inclusions ++ section_numbers m Keys)
  from_entries = simp append_assoc

  from-assertions : drop (assertions_at (counts_of m)) (case_numbers m) ≡ section_numbers m Assertions ++ (section_numbers m Inclusions ++ section_numbers m Keys)
  from-assertions =
      let long : length before_assertions ≡ assertions_at (counts_of m) = simp length-append (omega (arith, length_section m Entries)) in
      ap (drop (assertions_at (counts_of m))) (simp append_assoc)
      ∙ drop_at before_assertions (section_numbers m Assertions ++ (section_numbers m Inclusions ++ section_numbers m Keys)) (assertions_at (counts_of m)) long

  from-inclusions : drop (inclusions_at (counts_of m)) (case_numbers m) ≡ section_numbers m Inclusions ++ section_numbers m Keys
  from-inclusions =
      let long : length before_inclusions ≡ inclusions_at (counts_of m) = simp length-append (omega (arith, length_section m Entries, length_section m Assertions)) in
      ap (drop (inclusions_at (counts_of m))) (append_assoc before_inclusions (section_numbers m Inclusions) (section_numbers m Keys))
      ∙ drop_at before_inclusions (section_numbers m Inclusions ++ section_numbers m Keys) (inclusions_at (counts_of m)) long

  from-keys : drop (keys_at (counts_of m)) (case_numbers m) ≡ section_numbers m Keys ++ []
  from-keys =
      let long : length before_keys ≡ keys_at (counts_of m) = simp length-append (omega (arith, length_section m Entries, length_section m Assertions, length_section m Inclusions)) in
      drop_at before_keys (section_numbers m Keys) (keys_at (counts_of m)) long ∙ sym (append-nil (section_numbers m Keys))

  -- the numbers of a base in range list the base
  listed_case : InRange m → listed (counts_of m) (case_numbers m) ≡ m
  listed_case a =
      let n = counts_of m in
      let e = ap (rows_from 3 read_entry n.entries) from_entries ∙ read_rows entry_numbers 3 read_entry (entry_in_range n) length_entry (read_entry_lem n) m.entries a.entries _ in
      let s = ap (rows_from 4 read_assertion n.assertions) from-assertions ∙ read_rows assertion_numbers 4 read_assertion (λ _. assertion_in_range n) length_assertion (λ r _. read_assertion_lem n r) m.assertions a.assertions _ in
      let i = ap (rows_from 2 read_inclusion n.inclusions) from-inclusions ∙ read_rows inclusion_numbers 2 read_inclusion (λ _. inclusion_in_range n) length_inclusion (λ r _. read_inclusion_lem n r) m.inclusions a.inclusions _ in
      let k = ap (rows_from 11 read_key n.keys) from-keys ∙ read_rows key_numbers 11 read_key (λ _. key_in_range n) length_key (λ r _. read_key_lem n r) m.keys a.keys _ in
      λ j. record { entries = e j; roles = m.roles; individuals = m.individuals; assertions = s j; inclusions = i j; keys = k j }

  -- every number of a file can be told
  case_tellable : Owed m → AllByRecursion Tellable (case_numbers m)
  case_tellable o =
      All-append Tellable before_keys (section_numbers m Keys)
      (All-append Tellable before_inclusions (section_numbers m Inclusions)
      (All-append Tellable before_assertions (section_numbers m Assertions)
      (All-append Tellable (header_numbers (counts_of m)) (section_numbers m Entries)
      (o.individuals, (o.roles, (o.entries.short, (o.assertions.short, (o.inclusions.short, (o.keys.short, tt))))))
      (all_joined entry_numbers Tellable m.entries o.entries.small))
      (all_joined assertion_numbers Tellable m.assertions o.assertions.small))
      (all_joined inclusion_numbers Tellable m.inclusions o.inclusions.small))
      (all_joined key_numbers Tellable m.keys o.keys.small)

  pub length-case_bytes : length (case_bytes m) ≡ 2 * end_at (counts_of m)
  length-case_bytes = length-bytes (case_numbers m) ∙ ap (λ (k : ℕ). 2 * k) length_case

  -- the size that the counts give
  pub size_is : (n : Counts) (size : ℕ) → n ≡ counts_of m → size ≡ 2 * end_at n → size ≡ length (case_bytes m)
  size_is n size e long = long ∙ ap (λ (k : Counts). 2 * end_at k) e ∙ sym length-case_bytes

  pub whole_case : sizes_accepted (counts_of m) ≡ true → Owed m → whole_file (case_bytes m) ≡ true
  whole_case s o =
      whole_by (case_bytes m) (case_numbers m) (numbers-bytes (case_numbers m) (case_tellable o)) (omega (arith, length-case_bytes, sizes-end (counts_of m) s)) length-case_bytes

  pub reads_case : sizes_accepted (counts_of m) ≡ true → InRange m → Owed m → file_meaning (case_bytes m) ≡ m
  reads_case s a o =
      meaning_by (case_bytes m) (case_numbers m) (numbers-bytes (case_numbers m) (case_tellable o)) (whole_case s o) ∙ listed_case a
