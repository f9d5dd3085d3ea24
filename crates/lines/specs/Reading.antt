-- A line read from the front of a text.
use Rattle.std.specs.Prelude.{ℕ, zero, suc, ◌-◌, Bool, false, cond, List, [], ◌∷◌, ◌++◌, length, drop, Ok, Err, Result, ◌==◌}
use Rattle.calculus.specs.declared.step.Step.{Step}
use Rattle.calculus.specs.Table.{and_then}
use Rattle.words.specs.declared.fault.ReadFault.{ReadFault}
use Rattle.words.specs.declared.fault.ReadFault.TheVariants.{Unreadable}
use Rattle.words.specs.Fronts.{front_letter, front_number}
use Rattle.lines.specs.declared.read.ReadNumbers.{ReadNumbers}
use Rattle.lines.specs.declared.read.ReadLine.{ReadLine}
use Rattle.lines.specs.Letters.{step_of}
use Rattle.lines.specs.Steps.{line_step}

-- The first byte is this one.
abbrev pub begins : ℕ → List ℕ → Bool
begins byte [] = false
begins byte (b ∷ bs) = b == byte

-- Numbers that were read, and the text behind them.
pub record Numbered : Type 0 where
  pub numbers : List ℕ
  pub rest : List ℕ

-- At most k numbers, each behind a space, read behind those before them.
unfoldable pub read_numbers : ℕ → List ℕ → List ℕ → Result Numbered ReadFault
read_numbers zero ns bs = Ok (record { numbers = ns; rest = bs })
read_numbers (suc k) ns bs =
    cond (begins 32 bs) (and_then (front_number (drop 1 bs)) (λ n. read_numbers k (ns ++ n.value ∷ []) (drop n.size (drop 1 bs))))
    (Ok (record { numbers = ns; rest = bs }))

-- A step that was read, and the text behind its line.
pub record Stepped : Type 0 where
  pub step : Step
  pub rest : List ℕ

-- The step of a letter with numbers, if a newline stands behind them.
abbrev pub close_line : ℕ → Numbered → Result Stepped ReadFault
close_line letter n =
    cond (begins 10 n.rest) (and_then (step_of letter n.numbers) (λ s. Ok (record { step = s; rest = drop 1 n.rest }))) (Err Unreadable)

-- A line: a letter, up to seven numbers, a newline; letter and numbers are a step.
abbrev pub read_line : List ℕ → Result Stepped ReadFault
read_line bs = and_then (front_letter bs) (λ letter. and_then (read_numbers 7 [] (drop 1 bs)) (close_line letter))

-- A step that was read from a text, and the place behind its line.
pub record Placed : Type 0 where
  pub step : Step
  pub end : ℕ

abbrev pub placed : ℕ → Result Stepped ReadFault → Result Placed ReadFault
placed size (Ok s) = Ok (record { step = s.step; end = size - length s.rest })
placed size (Err f) = Err f

-- The line at a place of a text.
abbrev pub line_at : List ℕ → ℕ → Result Placed ReadFault
line_at text from = placed (length text) (read_line (drop from text))

-- What was read, as it is told.
abbrev pub seen_numbers : List ℕ → ReadNumbers → Numbered
seen_numbers text n = record { numbers = n.numbers.items; rest = drop n.end text }

abbrev pub seen_line : ReadLine → Placed
seen_line l = record { step = line_step l.line; end = l.end }
