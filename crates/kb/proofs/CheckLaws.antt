-- What the check of a base answers is what the words say.
use Rattle.std.proofs.Common.{◌≡◌, ℕ, ◌<◌, true, false, cond, eqb, Ok, Err, Result, sym, refl, ap, ◌∙◌, subst, ⊎_elim, arith}
use Rattle.std.proofs.lemmas.Bool.{cases_Bool, cases_order, both_ways}
use Rattle.kb.specs.declared.counts.Counts.{Counts}
use Rattle.kb.specs.declared.fault.BaseFault.{BaseFault}
use Rattle.kb.specs.declared.fault.BaseFault.TheVariants.{Size, Row}
use Rattle.kb.specs.declared.fault.RowList.{RowList}
use Rattle.kb.specs.declared.fault.RowList.TheVariants.{Entries, Assertions, Inclusions, Keys}
use Rattle.kb.specs.Meanings.{Meaning, counts_of}
use Rattle.kb.specs.Check.{list_number, sizes_accepted, count_of, row_in_range, checked_list, and_then, checked_rows, checked_base, ListInRange, InRange, FirstOutOfRange, Checked}
use Rattle.kb.proofs.FirstLaws.{first_failing-none, first_failing-some, pass_or_fails}

list_of : ℕ → RowList
list_of n = cond (eqb n 0) Entries (cond (eqb n 1) Assertions (cond (eqb n 2) Inclusions Keys))

list_of-list_number : (list : RowList) → list_of (list_number list) ≡ list
unfolding list_of
list_of-list_number Entries = refl
list_of-list_number Assertions = refl
list_of-list_number Inclusions = refl
list_of-list_number Keys = refl

list_number_injective : (a b : RowList) → list_number a ≡ list_number b → a ≡ b
list_number_injective a b e = sym (list_of-list_number a) ∙ ap list_of e ∙ list_of-list_number b

module _ (m : Meaning) where
  -- the three things that can be said of a base
  data Outcome : Result Counts BaseFault → Type 0 where
    size : sizes_accepted (counts_of m) ≡ false → Outcome (Err Size)
    row : (list : RowList) (k : ℕ) → sizes_accepted (counts_of m) ≡ true → FirstOutOfRange m list k → Outcome (Err (Row list k))
    accepted : sizes_accepted (counts_of m) ≡ true → InRange m → Outcome (Ok (counts_of m))

  Before : RowList → Type 0
  Before list = (other : RowList) → list_number other < list_number list → ListInRange m other

  -- a list is checked, then the rest
  list_outcome : (list : RowList) (rest : Result Counts BaseFault) → sizes_accepted (counts_of m) ≡ true → Before list → (ListInRange m list → Outcome rest) → Outcome (and_then (checked_list (counts_of m) m list) rest)
  unfolding Before
  list_outcome list rest s before next =
      ⊎_elim
      (λ p. rw (first_failing-none (row_in_range (counts_of m) m list) (count_of (counts_of m) list) p) (next p))
      (λ f. rw (first_failing-some (row_in_range (counts_of m) m list) (count_of (counts_of m) list) f.0 f.1) (row list f.0 s (record { there = f.1.0; out = f.1.1; rows_before = f.1.2; lists_before = before })))
      (pass_or_fails (row_in_range (counts_of m) m list) (count_of (counts_of m) list))

  before-entries : Before Entries
  unfolding Before
  before-entries Entries h = absurd (omega arith)
  before-entries Assertions h = absurd (omega arith)
  before-entries Inclusions h = absurd (omega arith)
  before-entries Keys h = absurd (omega arith)

  before-assertions : ListInRange m Entries → Before Assertions
  unfolding Before
  before-assertions e Entries h = e
  before-assertions e Assertions h = absurd (omega arith)
  before-assertions e Inclusions h = absurd (omega arith)
  before-assertions e Keys h = absurd (omega arith)

  before-inclusions : ListInRange m Entries → ListInRange m Assertions → Before Inclusions
  unfolding Before
  before-inclusions e a Entries h = e
  before-inclusions e a Assertions h = a
  before-inclusions e a Inclusions h = absurd (omega arith)
  before-inclusions e a Keys h = absurd (omega arith)

  before-keys : ListInRange m Entries → ListInRange m Assertions → ListInRange m Inclusions → Before Keys
  unfolding Before
  before-keys e a i Entries h = e
  before-keys e a i Assertions h = a
  before-keys e a i Inclusions h = i
  before-keys e a i Keys h = absurd (omega arith)

  rows-outcome : sizes_accepted (counts_of m) ≡ true → Outcome (checked_rows (counts_of m) m)
  rows-outcome s =
      list_outcome Entries _ s before-entries (λ e.
      list_outcome Assertions _ s (before-assertions e) (λ a.
      list_outcome Inclusions _ s (before-inclusions e a) (λ i.
      list_outcome Keys _ s (before-keys e a i) (λ k.
      accepted s (record { entries = e; assertions = a; inclusions = i; keys = k })))))

  base-outcome : Outcome (checked_base m)
  base-outcome =
      ⊎_elim (λ s. rw s (rows-outcome s)) (λ f. rw f (size f)) (cases_Bool (sizes_accepted (counts_of m)))

  in_range_lem : InRange m → (list : RowList) → ListInRange m list
  in_range_lem a Entries = a.entries
  in_range_lem a Assertions = a.assertions
  in_range_lem a Inclusions = a.inclusions
  in_range_lem a Keys = a.keys

  -- no row is out of range where every row is in range
  not-both : (list : RowList) (k : ℕ) → ListInRange m list → FirstOutOfRange m list k → ⊥
  not-both list k a f = both_ways (row_in_range (counts_of m) m list k) f.out (a k f.there)

  -- only one row is the first
  first_unique : (a b : RowList) (j k : ℕ) → FirstOutOfRange m a j → FirstOutOfRange m b k → (a ≡ b) × (j ≡ k)
  first_unique a b j k f g =
      ⊎_elim
      (λ e. let same = list_number_injective a b e in (same, same_row same))
      (⊎_elim (λ l. absurd (not-both a j (g.lists_before a l) f)) (λ l. absurd (not-both b k (f.lists_before b l) g)))
      (cases_order (list_number a) (list_number b))
    where
      same_row : a ≡ b → j ≡ k
      same_row e =
          let h : FirstOutOfRange m a k = subst (λ (l : RowList). FirstOutOfRange m l k) (sym e) g in
          ⊎_elim
          (λ q. q)
          (⊎_elim
          (λ l. absurd (both_ways (row_in_range (counts_of m) m a j) f.out (h.rows_before j l)))
          (λ l. absurd (both_ways (row_in_range (counts_of m) m a k) h.out (f.rows_before k l))))
          (cases_order j k)

  outcome-means : (r : Result Counts BaseFault) → Outcome r → Checked m r
  outcome-means r (size f) =
      record {
        accepted = λ s a. absurd (both_ways _ f s);
        accepts = λ n e. let z : ◌≡◌ {A = ℕ} 0 1 = cc in absurd (omega arith);
        size = λ _. refl;
        size_only = λ _. f;
        row = λ list k s o. absurd (both_ways _ f s);
        row_only = λ list k e. let z : ◌≡◌ {A = ℕ} 4 2 = cc in absurd (omega arith);
      }
  outcome-means r (row list k s o) =
      record {
        accepted = λ _ a. absurd (not-both list k (in_range_lem a list) o);
        accepts = λ n e. let z : ◌≡◌ {A = ℕ} 0 1 = cc in absurd (omega arith);
        size = λ f. absurd (both_ways _ f s);
        size_only = λ e. let z : ◌≡◌ {A = ℕ} 2 4 = cc in absurd (omega arith);
        row = λ other j _ p. let u = first_unique list other k j o p in cc (u.0, u.1);
        row_only = λ other j e.
            let l : list_number list ≡ list_number other = cc in
            let q : k ≡ j = cc in
            (s, subst (λ (n : ℕ). FirstOutOfRange m other n) q (subst (λ (x : RowList). FirstOutOfRange m x k) (list_number_injective list other l) o));
      }
  outcome-means r (accepted s a) =
      record {
        accepted = λ _ _. refl;
        accepts = λ n e. (let q : n ≡ counts_of m = cc in q, s, a);
        size = λ f. absurd (both_ways _ f s);
        size_only = λ e. let z : ◌≡◌ {A = ℕ} 0 1 = cc in absurd (omega arith);
        row = λ list k _ o. absurd (not-both list k (in_range_lem a list) o);
        row_only = λ list k e. let z : ◌≡◌ {A = ℕ} 0 1 = cc in absurd (omega arith);
      }

pub checked_means : (m : Meaning) (r : Result Counts BaseFault) → r ≡ checked_base m → Checked m r
checked_means m r e = subst (λ (x : Result Counts BaseFault). Checked m x) (sym e) (outcome-means m (checked_base m) (base-outcome m))

-- the two ways through the check
pub checked_rows_lem : (m : Meaning) (n : Counts) (r : Result Counts BaseFault) → n ≡ counts_of m → true ≡ sizes_accepted n → r ≡ checked_rows n m → r ≡ checked_base m
checked_rows_lem m n r e s h =
    let t : sizes_accepted (counts_of m) ≡ true = sym (s ∙ ap sizes_accepted e) in
    rw t (h ∙ ap (λ (x : Counts). checked_rows x m) e)

pub checked_size : (m : Meaning) (n : Counts) → n ≡ counts_of m → false ≡ sizes_accepted n → Err Size ≡ checked_base m
checked_size m n e s = let t : sizes_accepted (counts_of m) ≡ false = sym (s ∙ ap sizes_accepted e) in rw t
