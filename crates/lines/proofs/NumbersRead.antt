-- The numbers of a line, one at a time and all together.
use Rattle.std.proofs.Common.{◌≡◌, ℕ, zero, suc, ◌+◌, ◌-◌, ◌<◌, ◌≤◌, Bool, true, false, List, [], ◌∷◌, ◌++◌, length, drop, Ok, Err, decimal, Result, sym, refl, ap, ◌∙◌, append_assoc, append-nil, arith}
use Rattle.std.specs.List.{flat_map, list_all}
use Rattle.std.proofs.lemmas.List.{drop_at, drop-drop}
use Rattle.std.proofs.lemmas.Bool.{and_from, and_parts, both_ways, eqb-true, le-leb, leb-true}
use Rattle.words.specs.declared.fault.ReadFault.{ReadFault}
use Rattle.words.specs.declared.read.FrontNumber.{FrontNumber}
use Rattle.words.specs.Fronts.{front_number}
use Rattle.words.specs.Numerals.{digit_count}
use Rattle.words.proofs.NumeralLaws.{number_read}
use Rattle.lines.specs.Reading.{Numbered, begins, read_numbers}
use Rattle.lines.specs.Spelling.{number_text, small}

-- the byte at the front
pub begins-front : (b : ℕ) (bs : List ℕ) → begins b bs ≡ true → bs ≡ b ∷ drop 1 bs
begins-front b [] t = absurd (both_ways false refl t)
begins-front b (c ∷ bs) t = ap (λ x. x ∷ bs) (eqb-true c b t)

-- the numbers that are left to read, at a place where no number begins, where none can be read, and where one is read
module _ (ns bs : List ℕ) where
  pub numbers-none : (k : ℕ) → k ≡ 0 → Ok (record { numbers = ns; rest = bs }) ≡ read_numbers k ns bs
  unfolding read_numbers
  numbers-none zero e = refl
  numbers-none (suc k) e = absurd (omega arith)

  pub numbers_stop : (k : ℕ) → begins 32 bs ≡ false → Ok (record { numbers = ns; rest = bs }) ≡ read_numbers k ns bs
  unfolding read_numbers
  numbers_stop zero e = refl
  numbers_stop (suc k) e = rw e

  pub numbers_fail : (k : ℕ) (f : ReadFault) → 0 < k → begins 32 bs ≡ true → Err f ≡ front_number (drop 1 bs) → Err f ≡ read_numbers k ns bs
  unfolding read_numbers
  numbers_fail zero f h e q = absurd (omega arith)
  numbers_fail (suc k) f h e q = rw (e, ← q)

  pub numbers_more : (k : ℕ) (n : FrontNumber) → 0 < k → begins 32 bs ≡ true → Ok n ≡ front_number (drop 1 bs) → read_numbers (k - 1) (ns ++ n.value ∷ []) (drop n.size (drop 1 bs)) ≡ read_numbers k ns bs
  unfolding read_numbers
  numbers_more zero n h e q = absurd (omega arith)
  numbers_more (suc k) n h e q =
      let z : suc k - 1 ≡ k = omega arith in
      ap (λ j. read_numbers j (ns ++ n.value ∷ []) (drop n.size (drop 1 bs))) z ∙ rw (e, ← q)

-- the same at a place of a text, with the numbers that may still be read
module _ (text ns : List ℕ) (at count : ℕ) (here : begins 32 (drop at text) ≡ true) (more : count < 7) where
  pub none-at : (f : ReadFault) → Err f ≡ front_number (drop (at + 1) text) → Err f ≡ read_numbers (7 - count) ns (drop at text)
  none-at f q = numbers_fail ns (drop at text) (7 - count) f (omega arith) here (q ∙ ap front_number (sym (drop-drop 1 at text)))

  pub one_at : (ms : List ℕ) (n : FrontNumber) → Ok n ≡ front_number (drop (at + 1) text) → ms ≡ ns ++ n.value ∷ [] → read_numbers (7 - (count + 1)) ms (drop (at + (1 + n.size)) text) ≡ read_numbers (7 - count) ns (drop at text)
  one_at ms n q e =
      let left : 7 - (count + 1) ≡ 7 - count - 1 = omega arith in
      let sum : at + (1 + n.size) ≡ at + 1 + n.size = omega arith in
      let place : drop (at + (1 + n.size)) text ≡ drop n.size (drop 1 (drop at text)) =
      ap (λ k. drop k text) sum ∙ sym (ap (drop n.size) (drop-drop 1 at text) ∙ drop-drop n.size (at + 1) text) in
      rw (left, e, place) (numbers_more ns (drop at text) (7 - count) n (omega arith) here (q ∙ ap front_number (sym (drop-drop 1 at text))))

-- numbers behind spaces, and no digit behind them
spaced_digits : (ms rest : List ℕ) → digit_count rest ≡ 0 → digit_count (flat_map number_text ms ++ rest) ≡ 0
spaced_digits [] rest z = z
spaced_digits (m ∷ ms) rest z = refl

-- what numbers are written as reads as those numbers
pub spelled-numbers : (k : ℕ) (ns ms rest : List ℕ) → length ms ≤ k → list_all small ms ≡ true → begins 32 rest ≡ false → digit_count rest ≡ 0 → read_numbers k ns (flat_map number_text ms ++ rest) ≡ Ok (record { numbers = ns ++ ms; rest = rest })
spelled-numbers k ns [] rest h s b z = sym (numbers_stop ns rest k b) ∙ ap (λ l. Ok (record { numbers = l; rest = rest })) (sym (append-nil ns))
spelled-numbers zero ns (m ∷ ms) rest h s b z = absurd (omega arith)
spelled-numbers (suc k) ns (m ∷ ms) rest h s b z =
    let parts = and_parts (small m) (list_all small ms) s in
    let tail = flat_map number_text ms ++ rest in
    let whole : (decimal m ++ flat_map number_text ms) ++ rest ≡ decimal m ++ tail = append_assoc (decimal m) (flat_map number_text ms) rest in
    let number = (number_read ((decimal m ++ flat_map number_text ms) ++ rest)).found m tail (leb-true m 65535 parts.0) (spaced_digits ms rest z) whole in
    let after : drop (length (decimal m)) ((decimal m ++ flat_map number_text ms) ++ rest) ≡ tail =
    ap (drop (length (decimal m))) whole ∙ drop_at (decimal m) tail (length (decimal m)) refl in
    sym (numbers_more ns (flat_map number_text (m ∷ ms) ++ rest) (suc k) (record { value = m; size = length (decimal m) }) (omega arith) refl (sym number))
    ∙ ap (λ l. read_numbers (suc k - 1) (ns ++ m ∷ []) l) after
    ∙ spelled-numbers (suc k - 1) (ns ++ m ∷ []) ms rest (omega arith) parts.1 b z
    ∙ ap (λ l. Ok (record { numbers = l; rest = rest })) (append_assoc ns (m ∷ []) ms)

-- numbers that were read behind others, and the text that they were read from
pub record Spelled (k : ℕ) (ns bs : List ℕ) (r : Numbered) : Type 0 where
  pub more : List ℕ
  pub numbers : r.numbers ≡ ns ++ more
  pub few : length more ≤ k
  pub smalls : list_all small more ≡ true
  pub text : bs ≡ flat_map number_text more ++ r.rest

-- none
spelled_none : (k : ℕ) (ns bs : List ℕ) (r : Numbered) → ◌≡◌ {A = Result Numbered ReadFault} (Ok (record { numbers = ns; rest = bs })) (Ok r) → Spelled k ns bs r
spelled_none k ns bs r e =
    let q : r ≡ record { numbers = ns; rest = bs } = cc in
    record { more = []; numbers = ap (λ n. n.numbers) q ∙ sym (append-nil ns); few = omega arith; smalls = refl; text = ap (λ n. n.rest) (sym q) }

-- one, and those behind it
spelled-more : (k : ℕ) (ns bs : List ℕ) (r : Numbered) (n : FrontNumber) → begins 32 bs ≡ true → front_number (drop 1 bs) ≡ Ok n → Spelled k (ns ++ n.value ∷ []) (drop n.size (drop 1 bs)) r → Spelled (suc k) ns bs r
spelled-more k ns bs r n b e s =
    let law = number_read (drop 1 bs) in
    record {
      more = n.value ∷ s.more;
      numbers = s.numbers ∙ append_assoc ns (n.value ∷ []) s.more;
      few = omega (arith, s.few);
      smalls = and_from _ _ (le-leb n.value 65535 (law.small n e)) s.smalls;
      text =
          begins-front 32 bs b
          ∙ ap (λ l. 32 ∷ l) (law.spelled n e ∙ ap (λ l. decimal n.value ++ l) s.text ∙ sym (append_assoc (decimal n.value) (flat_map number_text s.more) r.rest));
    }

-- what reads as numbers is what they are written as
pub numbers-spelled : (k : ℕ) (ns bs : List ℕ) (r : Numbered) → read_numbers k ns bs ≡ Ok r → Spelled k ns bs r
unfolding read_numbers
numbers-spelled zero ns bs r e = spelled_none zero ns bs r e
numbers-spelled (suc k) ns bs r e =
    by (numbers-spelled k) (begins 32 bs) refl (front_number (drop 1 bs)) refl
  where
    by : ((ms cs : List ℕ) (q : Numbered) → read_numbers k ms cs ≡ Ok q → Spelled k ms cs q) → (t : Bool) → begins 32 bs ≡ t → (f : Result FrontNumber ReadFault) → front_number (drop 1 bs) ≡ f → Spelled (suc k) ns bs r
    by ih false b f q = spelled_none (suc k) ns bs r (numbers_stop ns bs (suc k) b ∙ e)
    by ih true b (Ok n) q =
        let z : suc k - 1 ≡ k = omega arith in
        spelled-more k ns bs r n b q
        (ih (ns ++ n.value ∷ []) (drop n.size (drop 1 bs)) r
        (ap (λ j. read_numbers j (ns ++ n.value ∷ []) (drop n.size (drop 1 bs))) (sym z) ∙ numbers_more ns bs (suc k) n (omega arith) b (sym q) ∙ e))
    by ih true b (Err x) q =
        let u = numbers_fail ns bs (suc k) x (omega arith) b (sym q) in
        let z : ◌≡◌ {A = ℕ} 0 1 = cc in absurd (omega arith)
