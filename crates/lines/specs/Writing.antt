-- What a step is written as, and what is said of one that is not written.
use Rattle.std.specs.Prelude.{◌≡◌, ℕ, ◌<◌, ◌≤◌, true, false, cond, List, ◌++◌, length, take, drop, Ok, Err, Result, nat_le}
use Rattle.calculus.specs.declared.step.Step.{Step}
use Rattle.lines.specs.declared.fault.LineFault.{LineFault}
use Rattle.lines.specs.declared.fault.LineFault.TheVariants.{Unwritable, Full}
use Rattle.lines.specs.Reading.{read_line}
use Rattle.lines.specs.Spelling.{small, step_text, writable}
use Rattle.lines.specs.Steps.{unplaced}

-- A number, if a line can have it.
abbrev pub row_number : ℕ → Result ℕ LineFault
row_number n = cond (small n) (Ok n) (Err Unwritable)

-- What a write into a buffer answers: the number of bytes written, or why none is.
abbrev pub write_answer : Step → List ℕ → Result ℕ LineFault
write_answer s before =
    cond (writable s) (cond (nat_le (length (step_text s)) (length before)) (Ok (length (step_text s))) (Err Full)) (Err Unwritable)

-- What the buffer holds after that answer: the text over its front, or what it held before.
abbrev pub after_answer : Result ℕ LineFault → List ℕ → List ℕ → List ℕ
after_answer (Ok n) text before = text ++ drop n before
after_answer (Err f) text before = before

abbrev pub buffer_after : Step → List ℕ → List ℕ
buffer_after s before = after_answer (write_answer s before) (step_text s) before

-- What a write does, in words. It writes exactly if the step can be written and the buffer is as long as its text or longer.
-- The bytes that it says it wrote are the step's text, so that the line read at the front of the buffer is the step; what
-- lies behind them stays. A step that cannot be written is refused first, and then a buffer that is too short; a refusal
-- leaves the buffer as it was.
pub record LineWritten (s : Step) (before : List ℕ) (r : Result ℕ LineFault) (after : List ℕ) : Type 0 where
  pub written : writable s ≡ true → length (step_text s) ≤ length before → r ≡ Ok (length (step_text s))
  pub text : (n : ℕ) → r ≡ Ok n → take n after ≡ step_text s
  pub reads_back : (n : ℕ) → r ≡ Ok n → read_line after ≡ Ok (record { step = unplaced s; rest = drop n after })
  pub behind : (n : ℕ) → r ≡ Ok n → drop n after ≡ drop n before
  pub unwritable : writable s ≡ false → r ≡ Err Unwritable
  pub unwritable_only : r ≡ Err Unwritable → writable s ≡ false
  pub full : writable s ≡ true → length before < length (step_text s) → r ≡ Err Full
  pub full_only : r ≡ Err Full → (writable s ≡ true) × (length before < length (step_text s))
  pub unchanged : (f : LineFault) → r ≡ Err f → after ≡ before
