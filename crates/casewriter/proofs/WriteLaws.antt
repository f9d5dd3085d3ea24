-- What a write answers, and what it leaves in the buffer, is what the words say.
use Rattle.std.proofs.Common.{◌≡◌, ℕ, ◌<◌, ◌≤◌, List, [], ◌∷◌, length, take, drop, Ok, Err, Result, sym, refl, ap, ◌∙◌, subst, arith}
use Rattle.std.proofs.lemmas.List.{take_at, drop_at}
use Rattle.std.proofs.lemmas.Bool.{cond-true, cond-false, le-leb, lt-leb}
use Rattle.kb.specs.declared.counts.Counts.{Counts}
use Rattle.kb.specs.declared.fault.BaseFault.{BaseFault}
use Rattle.kb.specs.declared.fault.BaseFault.TheVariants.{Size, Row}
use Rattle.kb.specs.Check.{base_fault_numbers, checked_base}
use Rattle.kb.specs.Meanings.{Meaning, Owed}
use Rattle.kb.proofs.CheckLaws.{checked_means}
use Rattle.casefile.specs.Files.{file_meaning, whole_file}
use Rattle.casewriter.specs.declared.fault.WriteFault.{WriteFault}
use Rattle.casewriter.specs.declared.fault.WriteFault.TheVariants.{Base, Full}
use Rattle.casewriter.specs.Encoding.{case_bytes}
use Rattle.casewriter.specs.Writing.{after_answer, buffer_after, fitted, over, write_answer, Written}
use Rattle.casewriter.proofs.RoundTrip.{reads_case, whole_case}

not_ten : (f : BaseFault) → base_fault_numbers f ≡ 10 ∷ [] → ⊥
not_ten Size e = cc e
not_ten (Row list k) e = cc e

-- the answer, the buffer after it, and the words
pub record Answered (m : Meaning) (before : List ℕ) (r : Result ℕ WriteFault) (after : List ℕ) : Type 0 where
  pub value : r ≡ write_answer m before
  pub bytes : after ≡ buffer_after m before
  pub means : Written m before r after

module _ (m : Meaning) (before : List ℕ) where
  answered : (r : Result ℕ WriteFault) (after : List ℕ) → write_answer m before ≡ r → after ≡ after_answer r (case_bytes m) before → Written m before r after → Answered m before r after
  answered r after e f w =
      record { value = sym e; bytes = f ∙ ap (λ (a : Result ℕ WriteFault). after_answer a (case_bytes m) before) (sym e); means = w }

  -- a base that is not accepted
  pub refused : (f : BaseFault) → checked_base m ≡ Err f → Answered m before (Err (Base f)) before
  refused f q =
      answered (Err (Base f)) before (ap (fitted (length (case_bytes m)) (length before)) q) refl
      (record {
        written = λ a _. cc (a, q);
        whole = λ n e. cc e;
        reads_back = λ n e. cc e;
        behind = λ n e. cc e;
        refused = λ g p. let e : f ≡ g = cc (q, p) in ap base_fault_numbers e;
        full = λ a _. cc (a, q);
        full_only = λ e. absurd (not_ten f e);
        unchanged = λ _ _. refl;
      })

  -- a buffer that is too short
  pub short : (n : Counts) → checked_base m ≡ Ok n → length before < length (case_bytes m) → Answered m before (Err Full) before
  short n q h =
      let a = (checked_means m (checked_base m) refl).accepts n q in
      answered (Err Full) before
      (ap (fitted (length (case_bytes m)) (length before)) q ∙ cond-false _ _ _ (lt-leb (length (case_bytes m)) (length before) h)) refl
      (record {
        written = λ _ l. absurd (omega arith);
        whole = λ k e. cc e;
        reads_back = λ k e. cc e;
        behind = λ k e. cc e;
        refused = λ f p. cc (q, p);
        full = λ _ _. refl;
        full_only = λ _. (q ∙ ap Ok a.0, h);
        unchanged = λ _ _. refl;
      })

  -- a file that was written
  pub wrote : (n : Counts) (after : List ℕ) → checked_base m ≡ Ok n → Owed m → length (case_bytes m) ≤ length before → after ≡ over (case_bytes m) before → Answered m before (Ok (length (case_bytes m))) after
  wrote n after q o h f =
      let a = (checked_means m (checked_base m) refl).accepts n q in
      let file : take (length (case_bytes m)) after ≡ case_bytes m = ap (take (length (case_bytes m))) f ∙ take_at (case_bytes m) _ _ refl in
      let rest : drop (length (case_bytes m)) after ≡ drop (length (case_bytes m)) before = ap (drop (length (case_bytes m))) f ∙ drop_at (case_bytes m) _ _ refl in
      answered (Ok (length (case_bytes m))) after
      (ap (fitted (length (case_bytes m)) (length before)) q ∙ cond-true _ _ _ (le-leb (length (case_bytes m)) (length before) h)) f
      (record {
        written = λ _ _. refl;
        whole = λ k e. ap whole_file (front k e ∙ file) ∙ whole_case m a.1 o;
        reads_back = λ k e. ap file_meaning (front k e ∙ file) ∙ reads_case m a.1 a.2 o;
        behind = λ k e. let s = same k e in subst (λ (j : ℕ). drop j after ≡ drop j before) s rest;
        refused = λ f p. cc (q, p);
        full = λ _ l. absurd (omega arith);
        full_only = λ e. cc e;
        unchanged = λ f e. cc e;
      })
    where
      same : (k : ℕ) → ◌≡◌ {A = Result ℕ WriteFault} (Ok (length (case_bytes m))) (Ok k) → length (case_bytes m) ≡ k
      same k e = cc

      front : (k : ℕ) → ◌≡◌ {A = Result ℕ WriteFault} (Ok (length (case_bytes m))) (Ok k) → take k after ≡ take (length (case_bytes m)) after
      front k e = ap (λ (j : ℕ). take j after) (sym (same k e))
