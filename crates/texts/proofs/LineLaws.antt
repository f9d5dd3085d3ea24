-- What a line that is read and played answers and leaves.
use Rattle.std.proofs.Common.{◌≡◌, ℕ, ◌<◌, List, Ok, Err, Result, sym, refl, ap, ◌∙◌, subst, arith}
use Rattle.kb.specs.Meanings.{Meaning}
use Rattle.calculus.specs.declared.fault.StepFault.{StepFault}
use Rattle.calculus.specs.declared.step.Step.{Step}
use Rattle.calculus.specs.declared.step.Step.TheVariants.{Take, Both, All, Some as SomeStep, Include, Key, Either, Cut, Clash, Apart}
use Rattle.calculus.specs.Playing.{Played, answer, left, perform, play, ready}
use Rattle.calculus.specs.States.{State}
use Rattle.calculus.specs.Table.{and_then, rule}
use Rattle.lines.specs.Reading.{Placed, line_at}
use Rattle.lines.specs.Steps.{unplaced}
use Rattle.lines.proofs.LineLaws.{line_read}
use Rattle.sheet.specs.States.{Stepped}
use Rattle.texts.specs.declared.fault.LineFault.{LineFault}
use Rattle.texts.specs.declared.fault.LineFault.TheVariants.{Step as StepRefused}
use Rattle.texts.specs.Playing.{LineDone, PlayedLine, line_stepped, play_line}

-- where the shared values of a step lie plays no part
rule-unplaced : (m : Meaning) (n : ℕ) (t : Step) → rule m n t ≡ rule m n (unplaced t)
rule-unplaced m n (Take k) = refl
rule-unplaced m n (Both c x) = refl
rule-unplaced m n (All c x y) = refl
rule-unplaced m n (SomeStep c x) = refl
rule-unplaced m n (Include k x) = refl
rule-unplaced m n (Key k x y zs) = refl
rule-unplaced m n (Either c x) = refl
rule-unplaced m n (Cut c x) = refl
rule-unplaced m n (Clash c x) = refl
rule-unplaced m n (Apart x y) = refl

pub play-unplaced : (m : Meaning) (scratch : ℕ) (t : Step) (s : State) → play m scratch t s ≡ play m scratch (unplaced t) s
play-unplaced m scratch t s = ap (λ r. and_then (ready m scratch s) (λ _. and_then r (perform m s))) (rule-unplaced m s.numbers.individuals t)

-- what is answered of a line whose step was played
abbrev pub line_answer : Placed → Result ℕ StepFault → Result ℕ LineFault
line_answer p (Ok n) = Ok p.end
line_answer p (Err f) = Err (StepRefused f)

abbrev played_from : Placed → Result Played StepFault → Result PlayedLine LineFault
played_from p q = and_then (line_stepped q) (λ q. Ok (record { end = p.end; state = q.state }))

played_from_done : (p : Placed) (q : Result Played StepFault) (s : State) → LineDone (played_from p q) s (line_answer p (answer q)) (left s q)
played_from_done p (Ok q) s = record { value = refl; state = refl }
played_from_done p (Err f) s = record { value = refl; state = refl }

module _ (m : Meaning) (scratch : ℕ) (text : List ℕ) (from : ℕ) (s : State) where
  pub play_line_read : (p : Placed) → line_at text from ≡ Ok p → play_line m scratch text from s ≡ played_from p (play m scratch p.step s)
  play_line_read p e = rw e

  pub line-done :
      (p : Placed) (t : Step) (a : Result ℕ StepFault) (s' : State) → Ok p ≡ line_at text from → unplaced t ≡ p.step
      → Stepped (play m scratch t s) s a s' → LineDone (play_line m scratch text from s) s (line_answer p a) s'
  line-done p t a s' e same done =
      let q = play m scratch t s in
      let line = play_line_read p (sym e) ∙ ap (λ u. played_from p (play m scratch u s)) (sym same) ∙ ap (played_from p) (sym (play-unplaced m scratch t s)) in
      subst (λ l. LineDone l s (line_answer p a) s') (sym line)
      (subst (λ b. LineDone (played_from p q) s (line_answer p b) s') (sym done.value)
      (subst (LineDone (played_from p q) s (line_answer p (answer q))) (sym done.state) (played_from_done p q s)))

  -- a line ends behind where it begins
  pub line-further : (p : Placed) → line_at text from ≡ Ok p → from < p.end
  line-further p e = omega (arith, (line_read text from).end p e)
