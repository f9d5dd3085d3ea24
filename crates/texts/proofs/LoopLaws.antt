-- Playing a text line by line: where the player has come to, what is left to play gives what the whole text gives.
use Rattle.std.proofs.Common.{◌≡◌, ℕ, zero, suc, ◌+◌, ◌<◌, ◌≤◌, List, length, Ok, Err, Result, sym, refl, ap, ◌∙◌, subst, arith}
use Rattle.std.proofs.lemmas.Bool.{cond-false, cond-true, le-ltb, lt-ltb}
use Rattle.kb.specs.Meanings.{Meaning}
use Rattle.calculus.specs.States.{State}
use Rattle.calculus.proofs.Accepting.{Err_not_Ok, Ok_injective}
use Rattle.texts.specs.declared.fault.LineFault.{LineFault}
use Rattle.texts.specs.declared.fault.TextFault.TheVariants.{Line}
use Rattle.texts.specs.Playing.{LineDone, PlayedLine, PlayedText, TextDone, play_line, play_lines, played_on}

-- a line that was played, from what it answered and left
done_Ok : (p : Result PlayedLine LineFault) (s : State) (end : ℕ) (t : State) → LineDone p s (Ok end) t → p ≡ Ok (record { end = end; state = t })
done_Ok (Ok q) s end t d =
    ap Ok (ap (λ k. record { end = k; state = q.state }) (sym (Ok_injective d.value)) ∙ ap (λ u. record { end = end; state = u }) (sym d.state))
done_Ok (Err f) s end t d = Err_not_Ok (sym d.value)

-- and one that was refused
record Refused (p : Result PlayedLine LineFault) (s : State) (f : LineFault) (t : State) : Type 0 where
  is : p ≡ Err f
  state : t ≡ s

done_Err : (p : Result PlayedLine LineFault) (s : State) (f : LineFault) (t : State) → LineDone p s (Err f) t → Refused p s f t
done_Err (Ok q) s f t d = Err_not_Ok d.value
done_Err (Err h) s f t d = let told = d.value in let same : h ≡ f = cc in record { is = ap Err same; state = d.state }

module _ (m : Meaning) (scratch : ℕ) (text : List ℕ) where
  pub lines-over : (most n from : ℕ) (s : State) → length text ≤ from → play_lines m scratch text most n from s ≡ record { answer = Ok n; state = s }
  unfolding play_lines
  lines-over zero n from s h = refl
  lines-over (suc most) n from s h = cond-false _ _ _ (le-ltb from (length text) h)

  pub lines-at :
      (most n from : ℕ) (s : State) → from < length text
      → play_lines m scratch text (suc most) n from s
      ≡ played_on m scratch text n s (λ q. play_lines m scratch text most (n + 1) q.end q.state) (play_line m scratch text from s)
  unfolding play_lines
  lines-at most n from s h = cond-true _ _ _ (lt-ltb from (length text) h)

  -- after n lines, at a place and on a sheet: what comes of the rest is what comes of the whole
  pub record Going (n from : ℕ) (s : State) (whole : PlayedText) : Type 0 where
    pub most : ℕ
    pub enough : length text ≤ from + most
    pub count : n ≤ from
    pub rest : play_lines m scratch text most n from s ≡ whole

  pub going-first : (s : State) → Going 0 0 s (play_lines m scratch text (length text) 0 0 s)
  going-first s = record { most = length text; enough = omega arith; count = omega arith; rest = refl }

  module _ (n from : ℕ) (s : State) (whole : PlayedText) where
    pub going-over : Going n from s whole → length text ≤ from → TextDone whole (Ok n) s
    going-over g h = subst (λ p. TextDone p (Ok n) s) (sym (lines-over g.most n from s h) ∙ g.rest) (record { value = refl; state = refl })

    -- one more line
    at-line :
        (most : ℕ) → length text ≤ from + most → from < length text → play_lines m scratch text most n from s ≡ whole
        → (k : ℕ) × (length text ≤ from + k + 1) × (played_on m scratch text n s (λ q. play_lines m scratch text k (n + 1) q.end q.state) (play_line m scratch text from s) ≡ whole)
    at-line zero e h r = absurd (omega arith)
    at-line (suc k) e h r = (k, omega arith, sym (lines-at k n from s h) ∙ r)

    pub going_on :
        Going n from s whole → from < length text → (end : ℕ) (t : State) → LineDone (play_line m scratch text from s) s (Ok end) t → from < end
        → Going (n + 1) end t whole
    going_on g h end t d further =
        let a = at-line g.most g.enough h g.rest in
        let next = λ (q : PlayedLine). play_lines m scratch text a.0 (n + 1) q.end q.state in
        record {
          most = a.0;
          enough = omega (arith, a.1);
          count = omega (arith, g.count);
          rest = sym (ap (played_on m scratch text n s next) (done_Ok (play_line m scratch text from s) s end t d)) ∙ a.2;
        }

    pub going-refused :
        Going n from s whole → from < length text → (f : LineFault) (t : State) → LineDone (play_line m scratch text from s) s (Err f) t
        → TextDone whole (Err (Line (n + 1) f)) t
    going-refused g h f t d =
        let a = at-line g.most g.enough h g.rest in
        let next = λ (q : PlayedLine). play_lines m scratch text a.0 (n + 1) q.end q.state in
        let r = done_Err (play_line m scratch text from s) s f t d in
        subst (λ p. TextDone p (Err (Line (n + 1) f)) t) (sym (ap (played_on m scratch text n s next) r.is) ∙ a.2) (record { value = refl; state = r.state })
