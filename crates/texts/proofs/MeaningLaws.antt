-- What playing a text is, in words.
use Rattle.std.proofs.Common.{◌≡◌, ℕ, zero, suc, ◌+◌, ◌<◌, ◌≤◌, Bool, true, false, ltb, List, [], ◌∷◌, ◌++◌, length, drop, Ok, Err, Result, sym, refl, ap, ◌∙◌, subst, append_assoc, arith}
use Rattle.std.proofs.lemmas.Bool.{ltb-false, ltb-true}
use Rattle.std.proofs.lemmas.List.{drop_all}
use Rattle.kb.specs.Meanings.{Meaning}
use Rattle.words.specs.declared.fault.ReadFault.{ReadFault}
use Rattle.calculus.specs.declared.fault.StepFault.{StepFault}
use Rattle.calculus.specs.declared.step.Step.{Step}
use Rattle.calculus.specs.Playing.{Played, left, play}
use Rattle.calculus.specs.Runs.{Run}
use Rattle.calculus.specs.Runs.Run.{step}
use Rattle.calculus.specs.States.{State}
use Rattle.lines.specs.Reading.{Placed, line_at}
use Rattle.lines.specs.Spelling.{step_text}
use Rattle.lines.proofs.LineLaws.{line_read}
use Rattle.texts.specs.declared.fault.LineFault.TheVariants.{Unreadable, Step as StepRefused}
use Rattle.texts.specs.declared.fault.TextFault.{TextFault}
use Rattle.texts.specs.declared.fault.TextFault.TheVariants.{Line}
use Rattle.texts.specs.Playing.{PlayedLine, PlayedText, TextDone, play_line, play_lines, played_on}
use Rattle.texts.specs.Texts.{Accepted, Stops, TextPlayed, steps_text}
use Rattle.texts.specs.Texts.Accepted.{first, none}
use Rattle.texts.specs.Texts.Stops.{at_end, refused, unreadable}
use Rattle.texts.proofs.LineLaws.{line-further}
use Rattle.texts.proofs.LoopLaws.{lines-at, lines-over}

module _ (m : Meaning) (scratch : ℕ) (text : List ℕ) where
  -- after n lines, from a place on: what is left is played, and a run goes on
  record Rest (n from : ℕ) (s : State) (p : PlayedText) : Type 0 where
    steps : List Step
    rest : List ℕ
    spelled : drop from text ≡ steps_text steps ++ rest
    accepted : Accepted m scratch steps s p.state
    stops : Stops m scratch p.state (n + length steps) rest p.answer
    goes_on : Run m s → Run m p.state

  over : (n from : ℕ) (s : State) → length text ≤ from → Rest n from s (record { answer = Ok n; state = s })
  over n from s h =
      record {
        steps = [];
        rest = [];
        spelled = drop_all from text h;
        accepted = none;
        stops = subst (λ k. Stops m scratch s k [] (Ok n)) (omega arith) (at_end refl);
        goes_on = λ run. run;
      }

  module _ (n from : ℕ) (s : State) (next : PlayedLine → PlayedText) where
    -- the line at a place is no line
    not_read : (f : ReadFault) → line_at text from ≡ Err f → Rest n from s (played_on m scratch text n s next (Err Unreadable))
    not_read f e =
        record {
          steps = [];
          rest = drop from text;
          spelled = refl;
          accepted = none;
          stops = subst (λ k. Stops m scratch s k (drop from text) (Err (Line (n + 1) Unreadable))) (omega arith) (unreadable ((line_read text from).unreadable f e));
          goes_on = λ run. run;
        }

    -- its step is refused
    not_played :
        (p : Placed) (f : StepFault) → line_at text from ≡ Ok p → play m scratch p.step s ≡ Err f
        → Rest n from s (played_on m scratch text n s next (Err (StepRefused f)))
    not_played p f e q =
        record {
          steps = [];
          rest = drop from text;
          spelled = refl;
          accepted = none;
          stops =
              subst (λ k. Stops m scratch s k (drop from text) (Err (Line (n + 1) (StepRefused f)))) (omega arith)
              (refused p.step (drop p.end text) f ((line_read text from).spelled p e) q);
          goes_on = λ run. run;
        }

    -- or it is played
    one_more :
        (p : Placed) (q : Played) → line_at text from ≡ Ok p → play m scratch p.step s ≡ Ok q
        → Rest (n + 1) p.end q.state (next (record { end = p.end; state = q.state }))
        → Rest n from s (played_on m scratch text n s next (Ok (record { end = p.end; state = q.state })))
    one_more p q e d r =
        let t = next (record { end = p.end; state = q.state }) in
        record {
          steps = p.step ∷ r.steps;
          rest = r.rest;
          spelled =
              (line_read text from).spelled p e
              ∙ ap (λ x. step_text p.step ++ x) r.spelled
              ∙ sym (append_assoc (step_text p.step) (steps_text r.steps) r.rest);
          accepted = first p.step r.steps q d r.accepted;
          stops = subst (λ k. Stops m scratch t.state k r.rest t.answer) (omega arith) r.stops;
          goes_on = λ run. r.goes_on (subst (λ a. Run m (left s a)) d (step run scratch p.step));
        }

    -- one of the three, if what is behind a line that is played is played
    line-rest :
        ((p : Placed) (q : Played) → from < p.end → Rest (n + 1) p.end q.state (next (record { end = p.end; state = q.state })))
        → Rest n from s (played_on m scratch text n s next (play_line m scratch text from s))
    line-rest behind = by (line_at text from) refl
      where
        played_by : (p : Placed) → line_at text from ≡ Ok p → (r : Result Played StepFault) → play m scratch p.step s ≡ r → Rest n from s (played_on m scratch text n s next (play_line m scratch text from s))
        played_by p e (Ok q) d =
            let line : play_line m scratch text from s ≡ Ok (record { end = p.end; state = q.state }) = rw (e, d) in
            subst (λ l. Rest n from s (played_on m scratch text n s next l)) (sym line) (one_more p q e d (behind p q (line-further m scratch text from s p e)))
        played_by p e (Err f) d =
            let line : play_line m scratch text from s ≡ Err (StepRefused f) = rw (e, d) in
            subst (λ l. Rest n from s (played_on m scratch text n s next l)) (sym line) (not_played p f e d)

        by : (r : Result Placed ReadFault) → line_at text from ≡ r → Rest n from s (played_on m scratch text n s next (play_line m scratch text from s))
        by (Ok p) e = played_by p e (play m scratch p.step s) refl
        by (Err f) e =
            let line : play_line m scratch text from s ≡ Err Unreadable = rw e in
            subst (λ l. Rest n from s (played_on m scratch text n s next l)) (sym line) (not_read f e)

  -- with one line more
  more-rest :
      (most : ℕ) → ((n from : ℕ) (s : State) → length text ≤ from + most → Rest n from s (play_lines m scratch text most n from s))
      → (n from : ℕ) (s : State) → length text ≤ from + suc most → Rest n from s (play_lines m scratch text (suc most) n from s)
  more-rest most fewer n from s h = by (ltb from (length text)) refl
    where
      by : (b : Bool) → ltb from (length text) ≡ b → Rest n from s (play_lines m scratch text (suc most) n from s)
      by true e =
          subst (Rest n from s) (sym (lines-at m scratch text most n from s (ltb-true from (length text) e)))
          (line-rest n from s (λ q. play_lines m scratch text most (n + 1) q.end q.state) (λ p q l. fewer (n + 1) p.end q.state (omega arith)))
      by false e =
          let l = ltb-false from (length text) e in
          subst (Rest n from s) (sym (lines-over m scratch text (suc most) n from s l)) (over n from s l)

  lines-rest : (most n from : ℕ) (s : State) → length text ≤ from + most → Rest n from s (play_lines m scratch text most n from s)
  lines-rest zero n from s h =
      let l : length text ≤ from = omega arith in
      subst (Rest n from s) (sym (lines-over m scratch text zero n from s l)) (over n from s l)
  lines-rest (suc most) n from s h = more-rest most (lines-rest most) n from s h

  pub text-played :
      (s : State) (r : Result ℕ TextFault) (t : State) → length text ≤ 32768 → TextDone (play_lines m scratch text (length text) 0 0 s) r t
      → TextPlayed m scratch text s r t
  text-played s r t few d =
      let p = play_lines m scratch text (length text) 0 0 s in
      let all = lines-rest (length text) 0 0 s (omega arith) in
      let stops : Stops m scratch p.state (length all.steps) all.rest p.answer = subst (λ k. Stops m scratch p.state k all.rest p.answer) (omega arith) all.stops in
      subst (λ u. TextPlayed m scratch text s r u) (sym d.state)
      (subst (λ a. TextPlayed m scratch text s a p.state) (sym d.value)
      (record {
        long = λ l. absurd (omega arith);
        played = λ _. record { steps = all.steps; rest = all.rest; spelled = all.spelled; accepted = all.accepted; stops = stops };
        goes_on = all.goes_on;
      }))
