-- What a step is written as, and which are not written.
use Rattle.std.proofs.Common.{◌≡◌, ℕ, ◌≤◌, true, List, [], ◌∷◌, ◌++◌, length, take, drop, Ok, Err, sym, ap, ◌∙◌, subst, arith}
use Rattle.std.specs.List.{flat_map, list_all}
use Rattle.std.proofs.lemmas.List.{drop_at, take_at}
use Rattle.std.proofs.lemmas.Bool.{and_from, both_ways, le-leb}
use Rattle.calculus.specs.declared.step.Step.{Step}
use Rattle.lines.specs.declared.fault.LineFault.TheVariants.{Unwritable, Full}
use Rattle.lines.specs.Letters.{letter_of, numbers_of}
use Rattle.lines.specs.Reading.{read_line}
use Rattle.lines.specs.Spelling.{number_text, small, step_text, writable}
use Rattle.lines.specs.Steps.{unplaced}
use Rattle.lines.specs.Writing.{LineWritten}
use Rattle.lines.proofs.LineLaws.{spelled-line}

-- a line that is spelled by the letter and the numbers of a step
pub record SpelledStep (s : Step) (line : List ℕ) : Type 0 where
  pub text : line ≡ step_text s
  pub fit : writable s ≡ true

pub spelled_step : (s : Step) (letter : ℕ) (ns spelled : List ℕ) → length ns ≤ 7 → ns ≡ numbers_of s → letter ≡ letter_of s → spelled ≡ letter ∷ flat_map number_text ns ++ 10 ∷ [] → list_all small ns ≡ true → SpelledStep s spelled
spelled_step s letter ns spelled few numbers named text smalls =
    let all : length (numbers_of s) ≤ 7 = omega (arith, few, ap length numbers) in
    record {
      text = text ∙ ap (λ x. x ∷ flat_map number_text ns ++ 10 ∷ []) named ∙ ap (λ x. letter_of s ∷ flat_map number_text x ++ 10 ∷ []) numbers;
      fit = and_from _ _ (le-leb (length (numbers_of s)) 7 all) (subst (λ (x : List ℕ). list_all small x ≡ true) numbers smalls);
    }

not-both : {X E : Type 0} (x : X) (e : E) → Ok x ≡ Err e → ⊥
not-both x e p = let z : ◌≡◌ {A = ℕ} 0 1 = cc in omega arith

module _ (s : Step) (before : List ℕ) where
  -- a line that was written
  pub wrote : (size : ℕ) (after : List ℕ) → size ≡ length (step_text s) → writable s ≡ true → size ≤ length before → after ≡ step_text s ++ drop size before → LineWritten s before (Ok size) after
  wrote size after long w h f =
      let front : take size after ≡ step_text s = ap (take size) f ∙ take_at (step_text s) _ size (sym long) in
      let rest : drop size after ≡ drop size before = ap (drop size) f ∙ drop_at (step_text s) _ size (sym long) in
      let reads : read_line after ≡ Ok (record { step = unplaced s; rest = drop size after }) =
      ap read_line (f ∙ ap (λ x. step_text s ++ x) (sym rest)) ∙ spelled-line s (drop size after) w in
      record {
        written = λ _ _. ap Ok long;
        text = λ n q. let e : size ≡ n = cc in ap (λ k. take k after) (sym e) ∙ front;
        reads_back = λ n q. let e : size ≡ n = cc in reads ∙ ap (λ k. Ok (record { step = unplaced s; rest = drop k after })) e;
        behind = λ n q. let e : size ≡ n = cc in subst (λ (k : ℕ). drop k after ≡ drop k before) e rest;
        unwritable = λ g. absurd (both_ways _ g w);
        unwritable_only = λ q. absurd (not-both size Unwritable q);
        full = λ _ l. absurd (omega arith);
        full_only = λ q. absurd (not-both size Full q);
        unchanged = λ g q. absurd (not-both size g q);
      }
