-- What playing a text is, in words: its front is the text of steps that are accepted one after the other, and it is played to
-- its end, or up to a line that is unreadable or whose step is refused.
use Rattle.std.specs.Prelude.{◌≡◌, ℕ, ◌+◌, ◌<◌, ◌≤◌, true, List, [], ◌∷◌, ◌++◌, length, Ok, Err, Result, ◌≢◌}
use Rattle.kb.specs.Meanings.{Meaning}
use Rattle.calculus.specs.declared.fault.StepFault.{StepFault}
use Rattle.calculus.specs.declared.step.Step.{Step}
use Rattle.calculus.specs.Playing.{Played, play}
use Rattle.calculus.specs.Runs.{Run}
use Rattle.calculus.specs.States.{State}
use Rattle.lines.specs.Spelling.{step_text, writable}
use Rattle.texts.specs.declared.fault.LineFault.TheVariants.{Unreadable, Step as StepRefused}
use Rattle.texts.specs.declared.fault.TextFault.{TextFault}
use Rattle.texts.specs.declared.fault.TextFault.TheVariants.{Size, Line}

-- The text of steps, a line each.
abbrev pub steps_text : List Step → List ℕ
steps_text [] = []
steps_text (t ∷ ts) = step_text t ++ steps_text ts

module _ (m : Meaning) (scratch : ℕ) where
  -- Steps that are accepted one after the other, from one sheet to another.
  pub data Accepted : List Step → State → State → Type 0 where
    none : {s : State} → Accepted [] s s
    first : {s s' : State} (t : Step) (ts : List Step) (p : Played) → play m scratch t s ≡ Ok p → Accepted ts p.state s' → Accepted (t ∷ ts) s s'

  -- Why playing stops on a sheet before what is left of a text, after n lines: nothing is left; or no step's text begins what is
  -- left; or one does, and the step is refused.
  pub data Stops (s : State) (n : ℕ) (rest : List ℕ) : Result ℕ TextFault → Type 0 where
    at_end : rest ≡ [] → Stops s n rest (Ok n)
    unreadable : ((t : Step) (more : List ℕ) → writable t ≡ true → rest ≢ step_text t ++ more) → Stops s n rest (Err (Line (n + 1) Unreadable))
    refused :
        (t : Step) (more : List ℕ) (f : StepFault) → rest ≡ step_text t ++ more → play m scratch t s ≡ Err f
        → Stops s n rest (Err (Line (n + 1) (StepRefused f)))

  -- From a sheet s to a sheet t, with an answer r.
  pub record LinesPlayed (text : List ℕ) (s : State) (r : Result ℕ TextFault) (t : State) : Type 0 where
    pub steps : List Step
    pub rest : List ℕ
    pub spelled : text ≡ steps_text steps ++ rest
    pub accepted : Accepted steps s t
    pub stops : Stops t (length steps) rest r

  -- A text that is too long is refused and nothing changes; any other is played. A run goes on.
  pub record TextPlayed (text : List ℕ) (s : State) (r : Result ℕ TextFault) (t : State) : Type 0 where
    pub long : 32768 < length text → (r ≡ Err Size) × (t ≡ s)
    pub played : length text ≤ 32768 → LinesPlayed text s r t
    pub goes_on : Run m s → Run m t
