-- When opening is accepted, and what it leaves.
use Rattle.std.proofs.Common.{◌≡◌, ℕ, true, false, Ok, Err, Result, sym, ap, ◌∙◌, ⊎_elim, arith}
use Rattle.std.proofs.lemmas.Bool.{cases_Bool}
use Rattle.kb.specs.declared.counts.Counts.{Counts}
use Rattle.kb.specs.declared.fault.BaseFault.{BaseFault}
use Rattle.kb.specs.Check.{checked_base, sizes_accepted}
use Rattle.kb.specs.Meanings.{Meaning, counts_of}
use Rattle.calculus.specs.declared.lengths.Lengths.{Lengths}
use Rattle.calculus.specs.Playing.{emptied, opened}
use Rattle.calculus.specs.Runs.{lengths_accepted, opening}
use Rattle.calculus.specs.Runs.Run.{start}
use Rattle.calculus.specs.States.{Ledgers, State, row_counts, sizes_of}
use Rattle.sheet.specs.declared.state.Sheet.{Sheet}
use Rattle.sheet.specs.States.{Opened, opened_as}

-- the state of a sheet before any step, over a base with these counts, in ledgers of these sizes
abbrev pub begun : Counts → Lengths → Lengths → Ledgers → State
begun n sizes rows l =
    record {
      ledgers = l;
      numbers = record { base = n; sizes = sizes; rows = rows; individuals = n.individuals; steps = 0; closed = false };
    }

module _ (m : Meaning) (l : Ledgers) where
  pub opening-accepted : (n : Counts) → checked_base m ≡ Ok n → lengths_accepted (sizes_of l) ≡ true → opening m l ≡ Ok (opened m l)
  opening-accepted n e a =
      ⊎_elim
      (λ t. let rows = rw t at e in rw (t, a, rows))
      (λ f. let refused = rw f at e in let z : ◌≡◌ {A = ℕ} 0 1 = cc in absurd (omega arith))
      (cases_Bool (sizes_accepted (counts_of m)))

  pub begun_opened :
      (n : Counts) (sizes rows : Lengths) (l' : Ledgers) → n ≡ counts_of m → sizes ≡ sizes_of l → rows ≡ row_counts l' → l' ≡ emptied l
      → begun n sizes rows l' ≡ opened m l
  begun_opened n sizes rows l' e f g h = ap (λ k. begun n sizes k l') g ∙ (λ i. begun (e i) (f i) (row_counts (h i)) (h i))

  -- what opening answers and leaves begins a run, or changes nothing
  pub opened-begins : (r : Result Sheet BaseFault) (l' : Ledgers) → opened_as r l' ≡ opening m l → ((f : BaseFault) → r ≡ Err f → l' ≡ l) → Opened m l r l'
  opened-begins r l' e unchanged =
      record { value = e; refused = unchanged; begins = λ s q. start l (sym e ∙ ap (λ a. opened_as a l') q) }
