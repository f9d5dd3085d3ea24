-- The main theorem, from its three parts.
use Rattle.std.proofs.Common.{◌≡◌, ℕ, ◌≤◌, Bool, true, false, cond, ◌&&◌, leb, length, Some, None, Ok, Err, Option, Result, refl, subst, arith}
use Rattle.std.proofs.lemmas.Bool.{and_parts, le-leb, leb-true}
use Rattle.kb.specs.declared.statement.Statement.{Statement}
use Rattle.kb.specs.declared.fault.BaseFault.TheVariants.{Size}
use Rattle.kb.specs.Check.{InRange, checked_rows, sizes_accepted}
use Rattle.kb.specs.Interpretations.{Lawful, Satisfies}
use Rattle.kb.specs.Meanings.{Meaning, counts_of}
use Rattle.kb.specs.Questions.{asking}
use Rattle.calculus.specs.declared.review.Condition.{Condition}
use Rattle.calculus.specs.declared.review.Finding.{Finding}
use Rattle.calculus.specs.declared.review.Finding.TheVariants.{Closed, Open}
use Rattle.calculus.specs.declared.review.ReviewFault.{ReviewFault}
use Rattle.calculus.specs.declared.review.ReviewFault.TheVariants.{Changed, Full}
use Rattle.calculus.specs.Conditions.{Conditions}
use Rattle.calculus.specs.Review.{found, lowest_failing, review}
use Rattle.calculus.specs.Playing.{opened}
use Rattle.calculus.specs.Runs.{Run, lengths_accepted, opening, start, step}
use Rattle.calculus.specs.States.{Ledgers, State, branch, fits, sizes_of}
use Rattle.calculus.specs.Table.{and_then}
use Rattle.calculus.specs.Walks.{walks}
use Rattle.calculus.proofs.ConditionLaws.{lowest_failing-none}
use Rattle.theorem.specs.Asking.{Asked, Unsatisfiable}
use Rattle.theorem.specs.MainTheorem.{FindingHolds, FoundExactly, MainTheorem}
use Rattle.calculus.proofs.Accepting.{cond_Ok}
use Rattle.theorem.proofs.AskingLaws.{closed_entails, open_breaks}
use Rattle.theorem.proofs.RunFits.{run_fits}
use Rattle.theorem.proofs.RunPlaced.{run_placed}
use Rattle.theorem.proofs.RunSound.{closed_is_sound, run_in_range}
use Rattle.theorem.proofs.WalksSatisfy.{open_walks_satisfy}

-- review, as what it comes to after its three tests
reviewed : Bool → Bool → Bool → Option Condition → Result Finding ReviewFault
reviewed fit long closed lowest = cond fit (cond long (cond closed (Ok Closed) (found lowest)) (Err Full)) (Err Changed)

reviewed-closed : (fit long closed : Bool) (lowest : Option Condition) → reviewed fit long closed lowest ≡ Ok Closed → (fit ≡ true) × (long ≡ true) × (closed ≡ true)
unfolding reviewed
reviewed-closed true true true lowest e = (refl, refl, refl)
reviewed-closed true true false None e = let z : ◌≡◌ {A = ℕ} 0 1 = cc in absurd (omega arith)
reviewed-closed true true false (Some k) e = let z : ◌≡◌ {A = ℕ} 0 1 = cc in absurd (omega arith)
reviewed-closed true false closed lowest e = let z : ◌≡◌ {A = ℕ} 0 1 = cc in absurd (omega arith)
reviewed-closed false long closed lowest e = let z : ◌≡◌ {A = ℕ} 0 1 = cc in absurd (omega arith)

reviewed_open : (fit long closed : Bool) (lowest : Option Condition) → reviewed fit long closed lowest ≡ Ok Open → (fit ≡ true) × (long ≡ true) × (closed ≡ false) × (lowest ≡ None)
unfolding reviewed
reviewed_open true true true lowest e = let z : ◌≡◌ {A = ℕ} 0 1 = cc in absurd (omega arith)
reviewed_open true true false None e = (refl, refl, refl, refl)
reviewed_open true true false (Some k) e = let z : ◌≡◌ {A = ℕ} 0 1 = cc in absurd (omega arith)
reviewed_open true false closed lowest e = let z : ◌≡◌ {A = ℕ} 0 1 = cc in absurd (omega arith)
reviewed_open false long closed lowest e = let z : ◌≡◌ {A = ℕ} 0 1 = cc in absurd (omega arith)

module _ (m : Meaning) (scratch : ℕ) (s : State) where
  closed-means : review m scratch s ≡ Ok Closed → (fits m s ≡ true) × (1024 ≤ scratch) × (s.numbers.closed ≡ true)
  unfolding reviewed
  closed-means e =
      let (f, l, c) = reviewed-closed (fits m s) (leb 1024 scratch) s.numbers.closed (lowest_failing m (branch s)) e in
      (f, leb-true 1024 scratch l, c)

  closed-from : (fits m s ≡ true) × (1024 ≤ scratch) × (s.numbers.closed ≡ true) → review m scratch s ≡ Ok Closed
  closed-from (f, l, c) = rw (f, le-leb 1024 scratch l, c)

  open_means : review m scratch s ≡ Ok Open → (fits m s ≡ true) × (1024 ≤ scratch) × (s.numbers.closed ≡ false) × Conditions m (branch s)
  unfolding reviewed
  open_means e =
      let (f, l, c, n) = reviewed_open (fits m s) (leb 1024 scratch) s.numbers.closed (lowest_failing m (branch s)) e in
      (f, leb-true 1024 scratch l, c, (lowest_failing-none m (branch s)).0 n)

  open_from : (fits m s ≡ true) × (1024 ≤ scratch) × (s.numbers.closed ≡ false) × Conditions m (branch s) → review m scratch s ≡ Ok Open
  open_from (f, l, c, h) = rw (f, le-leb 1024 scratch l, c, (lowest_failing-none m (branch s)).1 h)

pub found-exactly : (m : Meaning) (s : State) → Run m s → (scratch : ℕ) → FoundExactly m scratch s
found-exactly m s run scratch =
    let own = run_fits m s run in
    record {
      own = own;
      closed = (λ e. let h = closed-means m scratch s e in (h.1, h.2), λ h. closed-from m scratch s (own, h.0, h.1));
      open_sheet = (λ e. let h = open_means m scratch s e in (h.1, h.2, h.3), λ h. open_from m scratch s (own, h.0, h.1, h.2));
    }

-- a base over which there is a run has sizes that are accepted
opening-sizes : (m : Meaning) (l : Ledgers) (s : State) → opening m l ≡ Ok s → sizes_accepted (counts_of m) ≡ true
opening-sizes m l s e =
    let q = cond_Ok (sizes_accepted (counts_of m) && lengths_accepted (sizes_of l)) (and_then (checked_rows (counts_of m) m) (λ _. Ok (opened m l))) Size s e in
    (and_parts (sizes_accepted (counts_of m)) (lengths_accepted (sizes_of l)) q.0).0

pub run_sizes : (m : Meaning) (s : State) → Run m s → sizes_accepted (counts_of m) ≡ true
run_sizes m s (start l e) = opening-sizes m l s e
run_sizes m s (step {s = before} r scratch t) = run_sizes m before r

-- so it has an entry and an individual
some_entry : (m : Meaning) → sizes_accepted (counts_of m) ≡ true → 1 ≤ length m.entries
some_entry m e = leb-true 1 (length m.entries) (and_parts (leb 1 (length m.entries)) _ e).0

some-individual : (m : Meaning) → sizes_accepted (counts_of m) ≡ true → 1 ≤ m.individuals
some-individual m e =
    let a = and_parts (leb 1 (length m.entries)) _ e in
    let b = and_parts (leb (length m.entries) 512) _ a.1 in
    let c = and_parts (leb 1 m.roles) _ b.1 in
    let d = and_parts (leb m.roles 64) _ c.1 in
    leb-true 1 m.individuals (and_parts (leb 1 m.individuals) _ d.1).0

module _ (m : Meaning) (s : State) (run : Run m s) where
  -- a base that asks a statement, and over which there is a run, is asked
  asked : (lower : Meaning) (st : Statement) → m ≡ asking lower st → Asked lower st
  asked lower st q =
      record {
        sizes = subst (λ (x : Meaning). sizes_accepted (counts_of x) ≡ true) q (run_sizes m s run);
        rows = subst InRange q (run_in_range m s run);
      }

  closed-holds : s.numbers.closed ≡ true → FindingHolds m s Closed
  closed-holds c =
      record {
        of_base = closed_is_sound m s run c;
        of_statement = λ lower st range q. closed_entails lower st range (asked lower st q) (subst Unsatisfiable q (closed_is_sound m s run c));
      }

  open_holds : Conditions m (branch s) → FindingHolds m s Open
  open_holds h =
      let W = walks m (branch s) in
      let sizes = run_sizes m s run in
      let models = open_walks_satisfy m (branch s) (run_in_range m s run) (some-individual m sizes) (some_entry m sizes) (run_placed m s run) h in
      record {
        of_base = models;
        of_statement = λ lower st range q.
            let lawful = subst (λ (x : Meaning). Lawful W x.entries) q models.0 in
            let broken = open_breaks lower st (asked lower st q) W lawful (subst (Satisfies W) q models.1) in
            ((lawful, broken.0), broken.1);
      }

  finding-holds : (scratch : ℕ) (f : Finding) → review m scratch s ≡ Ok f → FindingHolds m s f
  finding-holds scratch Closed e = closed-holds (closed-means m scratch s e).2
  finding-holds scratch Open e = open_holds (open_means m scratch s e).3

pub main_theorem : MainTheorem
main_theorem m s run scratch = (found-exactly m s run scratch, finding-holds m s run scratch)
