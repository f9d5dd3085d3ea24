-- Reading a line is the inverse of writing one.
use Rattle.std.proofs.Common.{◌≡◌, ℕ, ◌+◌, ◌-◌, ◌<◌, ◌≤◌, Bool, true, false, leb, List, [], ◌∷◌, ◌++◌, length, drop, Ok, Err, Result, sym, refl, ap, ◌∙◌, subst, append_assoc, arith, length-append, length-drop}
use Rattle.std.specs.Char.{is_ascii_digit}
use Rattle.std.specs.List.{flat_map, list_all}
use Rattle.std.proofs.lemmas.List.{drop_at, drop-drop}
use Rattle.std.proofs.lemmas.Bool.{and_from, and_parts, cond-false, cond-true, le-leb, leb-true}
use Rattle.calculus.specs.declared.step.Step.{Step}
use Rattle.calculus.specs.Table.{and_then}
use Rattle.words.specs.declared.fault.ReadFault.{ReadFault}
use Rattle.words.specs.declared.fault.ReadFault.TheVariants.{Unreadable}
use Rattle.words.specs.Fronts.{front_letter}
use Rattle.lines.specs.Letters.{letter_of, numbers_of, step_of}
use Rattle.lines.specs.Reading.{Numbered, Placed, Stepped, begins, close_line, line_at, placed, read_line, read_numbers}
use Rattle.lines.specs.Spelling.{LineRead, number_text, small, step_text, writable}
use Rattle.lines.specs.Steps.{unplaced}
use Rattle.lines.proofs.LetterLaws.{Names, letter-front, step-named, step_of_names}
use Rattle.lines.proofs.NumbersRead.{Spelled, begins-front, numbers-spelled, spelled-numbers}

-- a line once its letter and its numbers are read
pub line_numbered : (bs : List ℕ) (c : ℕ) (n : Numbered) → Ok c ≡ front_letter bs → Ok n ≡ read_numbers 7 [] (drop 1 bs) → read_line bs ≡ close_line c n
line_numbered bs c n e q = rw (← e, ← q)

-- what a step is written as reads as that step
pub spelled-line : (s : Step) (rest : List ℕ) → writable s ≡ true → read_line (step_text s ++ rest) ≡ Ok (record { step = unplaced s; rest = rest })
spelled-line s rest w =
    let parts = and_parts (leb (length (numbers_of s)) 7) (list_all small (numbers_of s)) w in
    let few = leb-true (length (numbers_of s)) 7 parts.0 in
    let after : (flat_map number_text (numbers_of s) ++ 10 ∷ []) ++ rest ≡ flat_map number_text (numbers_of s) ++ 10 ∷ rest =
    append_assoc (flat_map number_text (numbers_of s)) (10 ∷ []) rest in
    let numbers : Ok (record { numbers = numbers_of s; rest = 10 ∷ rest }) ≡ read_numbers 7 [] ((flat_map number_text (numbers_of s) ++ 10 ∷ []) ++ rest) =
    sym (ap (read_numbers 7 []) after ∙ spelled-numbers 7 [] (numbers_of s) (10 ∷ rest) few parts.1 refl refl) in
    line_numbered (step_text s ++ rest) (letter_of s) (record { numbers = numbers_of s; rest = 10 ∷ rest }) (sym (letter-front s ((flat_map number_text (numbers_of s) ++ 10 ∷ []) ++ rest))) numbers
    ∙ ap (λ r. and_then r (λ t. Ok (record { step = t; rest = rest }))) (step_of_names s few)

-- a step that was read at the front of a text, and its text
pub record Written (bs : List ℕ) (r : Stepped) : Type 0 where
  pub fit : writable r.step ≡ true
  pub text : bs ≡ step_text r.step ++ r.rest
  pub bare : unplaced r.step ≡ r.step

never : {X E : Type 0} (x : X) (e : E) → Err e ≡ Ok x → ⊥
never x e p = let z : ◌≡◌ {A = ℕ} 0 1 = cc in omega arith

letter-first : (bs : List ℕ) (c : ℕ) → front_letter bs ≡ Ok c → bs ≡ c ∷ drop 1 bs
letter-first [] c e = absurd (never c Unreadable e)
letter-first (b ∷ bs) c e = by (is_ascii_digit b) refl
  where
    by : (t : Bool) → is_ascii_digit b ≡ t → b ∷ bs ≡ c ∷ bs
    by true q = let is : front_letter (b ∷ bs) ≡ Err Unreadable = rw q in absurd (never c Unreadable (sym is ∙ e))
    by false q =
        let is : front_letter (b ∷ bs) ≡ Ok b = rw q in
        let same : b ≡ c = cc in ap (λ x. x ∷ bs) same

-- a line that was closed by a newline
record Closed (c : ℕ) (n : Numbered) (r : Stepped) : Type 0 where
  newline : begins 10 n.rest ≡ true
  step : step_of c n.numbers ≡ Ok r.step
  rest : drop 1 n.rest ≡ r.rest

closed_parts : (c : ℕ) (n : Numbered) (r : Stepped) → close_line c n ≡ Ok r → Closed c n r
closed_parts c n r e = by (begins 10 n.rest) refl (step_of c n.numbers) refl
  where
    by : (t : Bool) → begins 10 n.rest ≡ t → (f : Result Step ReadFault) → step_of c n.numbers ≡ f → Closed c n r
    by true b (Ok s) q =
        let is : close_line c n ≡ Ok (record { step = s; rest = drop 1 n.rest }) = cond-true _ _ _ b ∙ ap (λ f. and_then f (λ t. Ok (record { step = t; rest = drop 1 n.rest }))) q in
        let same : record { step = s; rest = drop 1 n.rest } ≡ r = cc in
        record { newline = b; step = q ∙ ap (λ t. Ok t.step) same; rest = ap (λ t. t.rest) same }
    by true b (Err f) q =
        let is : close_line c n ≡ Err f = cond-true _ _ _ b ∙ ap (λ f. and_then f (λ t. Ok (record { step = t; rest = drop 1 n.rest }))) q in
        absurd (never r f (sym is ∙ e))
    by false b f q =
        let is : close_line c n ≡ Err Unreadable = cond-false _ _ _ b in
        absurd (never r Unreadable (sym is ∙ e))

-- what reads as a step is what it is written as
written-by : (bs : List ℕ) (c : ℕ) (n : Numbered) (r : Stepped) → front_letter bs ≡ Ok c → Spelled 7 [] (drop 1 bs) n → Closed c n r → Names c n.numbers r.step → Written bs r
written-by bs c n r l s k m =
    let ns = numbers_of r.step in
    let same : s.more ≡ ns = sym s.numbers ∙ m.numbers in
    let few : length ns ≤ 7 = omega (arith, m.few, ap length m.numbers) in
    let newline : n.rest ≡ 10 ∷ r.rest = begins-front 10 n.rest k.newline ∙ ap (λ x. 10 ∷ x) k.rest in
    record {
      fit = and_from _ _ (le-leb (length ns) 7 few) (subst (λ (x : List ℕ). list_all small x ≡ true) same s.smalls);
      text =
          letter-first bs c l
          ∙ ap (λ x. c ∷ x) (s.text ∙ ap (λ x. flat_map number_text x ++ n.rest) same ∙ ap (λ x. flat_map number_text ns ++ x) newline ∙ sym (append_assoc (flat_map number_text ns) (10 ∷ []) r.rest))
          ∙ ap (λ x. x ∷ (flat_map number_text ns ++ 10 ∷ []) ++ r.rest) m.letter;
      bare = m.bare;
    }

pub line-spelled : (bs : List ℕ) (r : Stepped) → read_line bs ≡ Ok r → Written bs r
line-spelled bs r e = by (front_letter bs) refl (read_numbers 7 [] (drop 1 bs)) refl
  where
    by : (l : Result ℕ ReadFault) → front_letter bs ≡ l → (n : Result Numbered ReadFault) → read_numbers 7 [] (drop 1 bs) ≡ n → Written bs r
    by (Err f) p m q = let is : read_line bs ≡ Err f = rw p in absurd (never r f (sym is ∙ e))
    by (Ok c) p (Err f) q = let is : read_line bs ≡ Err f = rw (p, q) in absurd (never r f (sym is ∙ e))
    by (Ok c) p (Ok n) q =
        let k = closed_parts c n r (sym (line_numbered bs c n (sym p) (sym q)) ∙ e) in
        written-by bs c n r p (numbers-spelled 7 [] (drop 1 bs) n q) k (step-named c n.numbers r.step k.step)

-- a line at a place
module _ (text : List ℕ) (from : ℕ) where
  -- where the text behind it begins
  place-behind : (s : Step) (rest : List ℕ) → drop from text ≡ step_text s ++ rest → length text - length rest ≡ from + length (step_text s)
  place-behind s rest e = omega (arith, length-drop from text, ap length e, length-append (step_text s) rest)

  placed-parts : (r : Result Stepped ReadFault) (p : Placed) → placed (length text) r ≡ Ok p → (t : Stepped) × ((r ≡ Ok t) × (p ≡ record { step = t.step; end = length text - length t.rest }))
  placed-parts (Ok t) p e = (t, (refl, cc))
  placed-parts (Err f) p e = absurd (never p f e)

  found_at : (s : Step) (rest : List ℕ) → writable s ≡ true → drop from text ≡ step_text s ++ rest → line_at text from ≡ Ok (record { step = unplaced s; end = from + length (step_text s) })
  found_at s rest w e =
      ap (placed (length text)) (ap read_line e ∙ spelled-line s rest w) ∙ ap (λ k. Ok (record { step = unplaced s; end = k })) (place-behind s rest e)

  -- what was read at a place, and its text
  record WrittenAt (p : Placed) : Type 0 where
    fit : writable p.step ≡ true
    spelled : drop from text ≡ step_text p.step ++ drop p.end text
    end : p.end ≡ from + length (step_text p.step)

  written_at : (p : Placed) → line_at text from ≡ Ok p → WrittenAt p
  written_at p e =
      let parts = placed-parts (read_line (drop from text)) p e in
      let t = parts.0 in
      let w = line-spelled (drop from text) t parts.1.0 in
      let size = length (step_text t.step) in
      let end = place-behind t.step t.rest w.text in
      let rest : t.rest ≡ drop (length text - length t.rest) text =
      sym (ap (drop size) w.text ∙ drop_at (step_text t.step) t.rest size refl) ∙ drop-drop size from text ∙ ap (λ k. drop k text) (sym end) in
      subst WrittenAt (sym parts.1.1) (record { fit = w.fit; spelled = w.text ∙ ap (λ x. step_text t.step ++ x) rest; end = end })

  -- reading is the inverse of writing
  pub line_read : LineRead text from (line_at text from)
  line_read =
      record {
        found = found_at;
        fit = λ p e. (written_at p e).fit;
        spelled = λ p e. (written_at p e).spelled;
        end = λ p e. (written_at p e).end;
        unreadable = λ f e s rest w q. never _ f (sym e ∙ found_at s rest w q);
        unreadable_only = λ none. by none (line_at text from) refl;
      }
    where
      by : ((s : Step) (rest : List ℕ) → writable s ≡ true → drop from text ≡ step_text s ++ rest → ⊥) → (r : Result Placed ReadFault) → line_at text from ≡ r → r ≡ Err Unreadable
      by none (Ok p) e = let w = written_at p e in absurd (none p.step (drop p.end text) w.fit w.spelled)
      by none (Err Unreadable) e = refl

  -- what is told of the line at a place
  pub record Told (r : Result Placed ReadFault) : Type 0 where
    pub value : r ≡ line_at text from
    pub means : LineRead text from r

  told : (r : Result Placed ReadFault) → r ≡ line_at text from → Told r
  told r e = record { value = e; means = subst (LineRead text from) (sym e) line_read }

  -- no numbers, or none that a newline ends, or no step
  module _ (c : ℕ) (letter : Ok c ≡ front_letter (drop from text)) where
    next : drop 1 (drop from text) ≡ drop (from + 1) text
    next = drop-drop 1 from text

    pub no_numbers : (r : Result Placed ReadFault) (f : ReadFault) → r ≡ Err f → Err f ≡ read_numbers 7 [] (drop (from + 1) text) → Told r
    no_numbers r f p e =
        let none : Err f ≡ read_numbers 7 [] (drop 1 (drop from text)) = e ∙ ap (read_numbers 7 []) (sym next) in
        let is : read_line (drop from text) ≡ Err f = rw (← letter, ← none) in
        told r (p ∙ ap (placed (length text)) (sym is))

    module _ (n : Numbered) (numbers : Ok n ≡ read_numbers 7 [] (drop (from + 1) text)) where
      closing : read_line (drop from text) ≡ close_line c n
      closing = line_numbered (drop from text) c n letter (numbers ∙ ap (read_numbers 7 []) (sym next))

      pub no_newline : begins 10 n.rest ≡ false → Told (Err Unreadable)
      no_newline b = told (Err Unreadable) (ap (placed (length text)) (sym (closing ∙ cond-false _ _ _ b)))

      module _ (newline : begins 10 n.rest ≡ true) where
        ending : (f : Result Step ReadFault) → f ≡ step_of c n.numbers → read_line (drop from text) ≡ and_then f (λ s. Ok (record { step = s; rest = drop 1 n.rest }))
        ending f q = closing ∙ cond-true _ _ _ newline ∙ ap (λ x. and_then x (λ s. Ok (record { step = s; rest = drop 1 n.rest }))) (sym q)

        pub no_step : (r : Result Placed ReadFault) (f : ReadFault) → r ≡ Err f → Err f ≡ step_of c n.numbers → Told r
        no_step r f p q = told r (p ∙ ap (placed (length text)) (sym (ending (Err f) q)))

        pub step-told : (s : Step) (end : ℕ) → n.rest ≡ drop end text → end < length text → Ok s ≡ step_of c n.numbers → Told (Ok (record { step = s; end = end + 1 }))
        step-told s end d h q =
            let size : end + 1 ≡ length text - length (drop 1 n.rest) = omega (arith, length-drop 1 n.rest, ap length d, length-drop end text) in
            told (Ok (record { step = s; end = end + 1 })) (ap (λ k. Ok (record { step = s; end = k })) size ∙ ap (placed (length text)) (sym (ending (Ok s) q)))
