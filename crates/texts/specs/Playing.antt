-- Playing a text: its lines are read and played one by one.
use Rattle.std.specs.Prelude.{◌≡◌, ℕ, zero, suc, ◌+◌, cond, List, length, Ok, Err, Result, nat_le, nat_lt}
use Rattle.words.specs.declared.fault.ReadFault.{ReadFault}
use Rattle.kb.specs.Meanings.{Meaning}
use Rattle.calculus.specs.declared.fault.StepFault.{StepFault}
use Rattle.calculus.specs.Playing.{Played, play}
use Rattle.calculus.specs.States.{State}
use Rattle.calculus.specs.Table.{and_then}
use Rattle.lines.specs.Reading.{Placed, line_at}
use Rattle.texts.specs.declared.fault.LineFault.{LineFault}
use Rattle.texts.specs.declared.fault.LineFault.TheVariants.{Unreadable, Step}
use Rattle.texts.specs.declared.fault.TextFault.{TextFault}
use Rattle.texts.specs.declared.fault.TextFault.TheVariants.{Size, Line}

-- The refusal of a reading or of a step inside a line's.
abbrev pub line_read : Result Placed ReadFault → Result Placed LineFault
line_read (Ok p) = Ok p
line_read (Err f) = Err Unreadable

abbrev pub line_stepped : Result Played StepFault → Result Played LineFault
line_stepped (Ok p) = Ok p
line_stepped (Err f) = Err (Step f)

-- A line that was played: the place behind it, and the sheet that it left.
pub record PlayedLine : Type 0 where
  pub end : ℕ
  pub state : State

-- What a call on a text answers, and the sheet that it leaves.
pub record PlayedText : Type 0 where
  pub answer : Result ℕ TextFault
  pub state : State

module _ (m : Meaning) (scratch : ℕ) (text : List ℕ) where
  -- The line that begins at a place.
  abbrev pub play_line : ℕ → State → Result PlayedLine LineFault
  play_line from s =
      and_then (line_read (line_at text from))
      (λ p. and_then (line_stepped (play m scratch p.step s)) (λ q. Ok (record { end = p.end; state = q.state })))

  -- After n lines: a line that was played is followed by the lines behind it, and one that was not is the last.
  abbrev pub played_on : ℕ → State → (PlayedLine → PlayedText) → Result PlayedLine LineFault → PlayedText
  played_on n s next (Ok q) = next q
  played_on n s next (Err f) = record { answer = Err (Line (n + 1) f); state = s }

  -- At most so many lines from a place on, after n lines.
  unfoldable pub play_lines : ℕ → ℕ → ℕ → State → PlayedText
  play_lines zero n from s = record { answer = Ok n; state = s }
  play_lines (suc most) n from s =
      cond (nat_lt from (length text))
      (played_on n s (λ q. play_lines most (n + 1) q.end q.state) (play_line from s))
      (record { answer = Ok n; state = s })

  -- A text of at most 32,768 bytes. It has no more lines than bytes.
  abbrev pub play_text : State → PlayedText
  play_text s = cond (nat_le (length text) 32768) (play_lines (length text) 0 0 s) (record { answer = Err Size; state = s })

-- What a line left, and its answer.
abbrev pub end_of : Result PlayedLine LineFault → Result ℕ LineFault
end_of (Ok q) = Ok q.end
end_of (Err f) = Err f

abbrev pub left_by : State → Result PlayedLine LineFault → State
left_by s (Ok q) = q.state
left_by s (Err f) = s

pub record LineDone (p : Result PlayedLine LineFault) (s : State) (r : Result ℕ LineFault) (t : State) : Type 0 where
  pub value : r ≡ end_of p
  pub state : t ≡ left_by s p

pub record TextDone (p : PlayedText) (r : Result ℕ TextFault) (t : State) : Type 0 where
  pub value : r ≡ p.answer
  pub state : t ≡ p.state
