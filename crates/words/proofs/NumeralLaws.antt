-- Reading a number is the inverse of writing one.
use Rattle.std.proofs.Common.{◌≡◌, ℕ, suc, ◌+◌, ◌<◌, ◌≤◌, Bool, true, false, ◌&&◌, leb, List, [], ◌∷◌, ◌++◌, length, get_or, take, drop, IfOk, Ok, Err, decimal, Result, sym, refl, ap, ◌∙◌, subst, ⊎_elim, add-one, arith, length-drop, take-append-drop}
use Rattle.std.specs.Char.{is_ascii_digit}
use Rattle.std.specs.Str.{all_ascii_digits}
use Rattle.std.proofs.lemmas.Fmt.{decimal_digit, decimal_nonempty, decimal-digits_value, digits_decimal, first_decimal, digits_value-decimal}
use Rattle.std.proofs.lemmas.List.{at_drop_all, length-take-le, take_at}
use Rattle.std.proofs.lemmas.Bool.{and_parts, both_ways, cases_lt, cond_both, le-leb, leb-true, ne_eqb, not_from_false, not-true, eqb-false}
use Rattle.words.specs.declared.fault.ReadFault.{ReadFault}
use Rattle.words.specs.declared.fault.ReadFault.TheVariants.{Unreadable}
use Rattle.words.specs.declared.read.FrontNumber.{FrontNumber}
use Rattle.words.specs.Fronts.{NumberRead, front_number, sized}
use Rattle.words.specs.Numerals.{digit_count, number_of, plain, value_after}
use Rattle.words.proofs.DigitLaws.{own}

-- no leading zero
plain-from : (ds : List ℕ) → 0 < length ds → (get_or ds 0 0 ≡ 48 → length ds ≡ 1) → plain ds ≡ true
plain-from [] h e = absurd (omega arith)
plain-from (d ∷ []) h e = refl
plain-from (d ∷ d' ∷ ds) h e = not_from_false _ (ne_eqb d 48 (λ q. let z = e q in omega arith))

plain-some : (ds : List ℕ) → plain ds ≡ true → 0 < length ds
plain-some [] e = absurd (both_ways false refl e)
plain-some (d ∷ ds) e = omega arith

plain_lone : (ds : List ℕ) → plain ds ≡ true → get_or ds 0 0 ≡ 48 → length ds ≡ 1
plain_lone [] e q = absurd (both_ways false refl e)
plain_lone (d ∷ []) e q = refl
plain_lone (d ∷ d' ∷ ds) e q = absurd (eqb-false d 48 (not-true _ e) q)

plain_decimal : (n : ℕ) → n ≤ 65535 → plain (decimal n) ≡ true
plain_decimal n h =
    plain-from (decimal n) (decimal_nonempty n (omega arith))
    (λ e. ⊎_elim (λ l. absurd (omega (arith, first_decimal n l (omega arith)))) (λ z. let q = decimal_digit n (omega arith) in ap length q) (cases_lt 0 n))

-- what a number is written as reads as that number
pub number_decimal : (n : ℕ) → n ≤ 65535 → number_of (decimal n) ≡ Ok n
number_decimal n h =
    let v = digits_value-decimal own n (omega arith) in
    let l : value_after 0 (decimal n) ≤ 65535 = omega arith in
    rw (plain_decimal n h, digits_decimal own n (omega arith), le-leb _ 65535 l, v)

-- and what reads as a number is what it is written as
pub decimal_number : (ds : List ℕ) (n : ℕ) → number_of ds ≡ Ok n → (n ≤ 65535) × (ds ≡ decimal n)
decimal_number ds n e =
    by (plain ds) refl (all_ascii_digits ds && leb (value_after 0 ds) 65535) refl
  where
    by : (p : Bool) → plain ds ≡ p → (t : Bool) → (all_ascii_digits ds && leb (value_after 0 ds) 65535) ≡ t → (n ≤ 65535) × (ds ≡ decimal n)
    by true q true u =
        let is : number_of ds ≡ Ok (value_after 0 ds) = rw (q, u) in
        let same : value_after 0 ds ≡ n = cc in
        let parts = and_parts _ _ u in
        let l = leb-true (value_after 0 ds) 65535 parts.1 in
        (omega arith, sym (decimal-digits_value own ds parts.0 (plain-some ds q) (plain_lone ds q) (omega arith)) ∙ ap decimal same)
    by true q false u = let is : number_of ds ≡ Err Unreadable = rw (q, u) in let z : ◌≡◌ {A = ℕ} 0 1 = cc in absurd (omega arith)
    by false q t u = let is : number_of ds ≡ Err Unreadable = rw q in let z : ◌≡◌ {A = ℕ} 0 1 = cc in absurd (omega arith)

-- digits, and no digit behind them
count_digits : (ds rest : List ℕ) → all_ascii_digits ds ≡ true → digit_count rest ≡ 0 → digit_count (ds ++ rest) ≡ length ds
count_digits [] rest a z = z
count_digits (d ∷ ds) rest a z =
    let parts = and_parts (is_ascii_digit d) (all_ascii_digits ds) a in
    rw parts.0 (omega (arith, count_digits ds rest parts.1 z))

-- behind the digits that are counted there is none
count-behind : (bs : List ℕ) → digit_count (drop (digit_count bs) bs) ≡ 0
count-behind [] = refl
count-behind (b ∷ bs) = by (count-behind bs) (is_ascii_digit b) refl
  where
    from : (k : ℕ) → digit_count (b ∷ bs) ≡ k → digit_count (drop k (b ∷ bs)) ≡ 0 → digit_count (drop (digit_count (b ∷ bs)) (b ∷ bs)) ≡ 0
    from k e z = ap (λ j. digit_count (drop j (b ∷ bs))) e ∙ z

    by : digit_count (drop (digit_count bs) bs) ≡ 0 → (t : Bool) → is_ascii_digit b ≡ t → digit_count (drop (digit_count (b ∷ bs)) (b ∷ bs)) ≡ 0
    by z true q = from (suc (digit_count bs)) (rw (q, add-one)) z
    by z false q = from 0 (rw q) (rw q)

pub count-within : (bs : List ℕ) → digit_count bs ≤ length bs
count-within [] = omega arith
count-within (b ∷ bs) = cond_both (is_ascii_digit b) (digit_count bs + 1) 0 (λ k. k ≤ length (b ∷ bs)) (λ _. omega (arith, count-within bs)) (λ _. omega arith)

-- a number that is read, and the digits that it was read from
sized-parts : (size : ℕ) (r : Result ℕ ReadFault) (f : FrontNumber) → sized size r ≡ Ok f → (r ≡ Ok f.value) × (f.size ≡ size)
sized-parts size (Ok n) f e = let q : f ≡ record { value = n; size = size } = cc in (ap (λ g. Ok g.value) (sym q), ap (λ g. g.size) q)
sized-parts size (Err x) f e = let z : ◌≡◌ {A = ℕ} 0 1 = cc in absurd (omega arith)

pub number_read : (bs : List ℕ) → NumberRead bs (front_number bs)
number_read bs =
    record {
      found = λ n rest h z e.
          let count : digit_count bs ≡ length (decimal n) = ap digit_count e ∙ count_digits (decimal n) rest (digits_decimal own n (omega arith)) z in
          let front : take (digit_count bs) bs ≡ decimal n = ap (take (digit_count bs)) e ∙ take_at (decimal n) rest (digit_count bs) (sym count) in
          ap (λ ds. sized (digit_count bs) (number_of ds)) front ∙ ap (sized (digit_count bs)) (number_decimal n h) ∙ ap (λ k. Ok (record { value = n; size = k })) count;
      small = λ f e. (parts f e).1.0;
      size = λ f e.
          let p = parts f e in
          p.0 ∙ sym (length-take-le (digit_count bs) bs (count-within bs)) ∙ ap length p.1.1;
      spelled = λ f e.
          let p = parts f e in
          sym (take-append-drop (digit_count bs) bs) ∙ ap (λ ds. ds ++ drop (digit_count bs) bs) p.1.1 ∙ ap (λ k. decimal f.value ++ drop k bs) (sym p.0);
      ends = λ f e. ap (λ k. digit_count (drop k bs)) (parts f e).0 ∙ count-behind bs;
    }
  where
    parts : (f : FrontNumber) → front_number bs ≡ Ok f → (f.size ≡ digit_count bs) × ((f.value ≤ 65535) × (take (digit_count bs) bs ≡ decimal f.value))
    parts f e =
        let p = sized-parts (digit_count bs) (number_of (take (digit_count bs) bs)) f e in
        (p.1, decimal_number (take (digit_count bs) bs) f.value p.0)

-- it ends within the text that it was read from
number-within : (text : List ℕ) (at : ℕ) (f : FrontNumber) → front_number (drop at text) ≡ Ok f → at + f.size ≤ length text
number-within text at f e =
    let p = sized-parts (digit_count (drop at text)) _ f e in
    ⊎_elim (λ l. omega (arith, count-within (drop at text), length-drop at text))
    (λ l. let z : Err Unreadable ≡ Ok f = sym (at_drop_all front_number text at l) ∙ e in let q : ◌≡◌ {A = ℕ} 0 1 = cc in absurd (omega arith))
    (cases_lt at (length text))

-- what is told of a number that is read at a place
pub record ReadAt (text : List ℕ) (at : ℕ) (r : Result FrontNumber ReadFault) : Type 0 where
  pub value : r ≡ front_number (drop at text)
  pub within : IfOk r (λ n. at + n.size ≤ length text)
  pub means : NumberRead (drop at text) r

pub read_at : (text : List ℕ) (at : ℕ) (r : Result FrontNumber ReadFault) → front_number (drop at text) ≡ r → ReadAt text at r
read_at text at (Ok f) e =
    record { value = sym e; within = number-within text at f e; means = subst (NumberRead (drop at text)) e (number_read (drop at text)) }
read_at text at (Err x) e = record { value = sym e; within = tt; means = subst (NumberRead (drop at text)) e (number_read (drop at text)) }
