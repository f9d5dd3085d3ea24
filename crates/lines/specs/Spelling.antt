-- The text of a step, and reading as the inverse of writing.
--
-- A line is a letter, then for each number a space and its decimal digits, then a newline. The letter says which step it is,
-- and so how many numbers there are.
use Rattle.std.specs.Prelude.{◌≡◌, ℕ, ◌+◌, Bool, true, ◌&&◌, List, [], ◌∷◌, ◌++◌, length, drop, Ok, Err, decimal, Result, ◌≢◌, nat_le}
use Rattle.std.specs.List.{flat_map, list_all}
use Rattle.calculus.specs.declared.step.Step.{Step}
use Rattle.words.specs.declared.fault.ReadFault.{ReadFault}
use Rattle.words.specs.declared.fault.ReadFault.TheVariants.{Unreadable}
use Rattle.lines.specs.Letters.{letter_of, numbers_of}
use Rattle.lines.specs.Reading.{Placed}
use Rattle.lines.specs.Steps.{unplaced}

-- A number behind a space.
abbrev pub number_text : ℕ → List ℕ
number_text n = 32 ∷ decimal n

-- The text of a step: its letter, its numbers, a newline.
abbrev pub step_text : Step → List ℕ
step_text s = letter_of s ∷ flat_map number_text (numbers_of s) ++ 10 ∷ []

-- A number that a line can have.
abbrev pub small : ℕ → Bool
small n = nat_le n 65535

-- A step that can be written: it has at most seven numbers, so at most four shared values, and none above 65,535.
abbrev pub writable : Step → Bool
writable s = nat_le (length (numbers_of s)) 7 && list_all small (numbers_of s)

-- Reading is the inverse of writing, in words. Where the text of a step stands at a place, that step is read there, and the
-- place behind its newline is told. Where a step is read, it can be written, and its text stands there and ends at the place
-- that is told. And a line is unreadable exactly if no step's text stands there.
pub record LineRead (text : List ℕ) (from : ℕ) (r : Result Placed ReadFault) : Type 0 where
  pub found : (s : Step) (rest : List ℕ) → writable s ≡ true → drop from text ≡ step_text s ++ rest → r ≡ Ok (record { step = unplaced s; end = from + length (step_text s) })
  pub fit : (p : Placed) → r ≡ Ok p → writable p.step ≡ true
  pub spelled : (p : Placed) → r ≡ Ok p → drop from text ≡ step_text p.step ++ drop p.end text
  pub end : (p : Placed) → r ≡ Ok p → p.end ≡ from + length (step_text p.step)
  pub unreadable : (f : ReadFault) → r ≡ Err f → (s : Step) (rest : List ℕ) → writable s ≡ true → drop from text ≢ step_text s ++ rest
  pub unreadable_only : ((s : Step) (rest : List ℕ) → writable s ≡ true → drop from text ≢ step_text s ++ rest) → r ≡ Err Unreadable
