-- Worked examples: bases, lines played on a new sheet, and what comes of it.
use Rattle.std.specs.Prelude.{◌≡◌, ℕ, true, false, List, [], ◌∷◌, ◌++◌, map, length, replicate, Ok, Err, Result}
use Rattle.std.specs.Borrow.{Bor}
use Rattle.rows.specs.Rows.{refusal}
use Rattle.kb.specs.declared.axioms.Assertion.TheVariants.{Is, Joins, Different}
use Rattle.kb.specs.declared.axioms.Key.TheVariants.{Link}
use Rattle.kb.specs.declared.axioms.RolePairs.TheVariants.{One}
use Rattle.kb.specs.declared.lexicon.Entry.TheVariants.{Top, Name, Some as SomeEntry}
use Rattle.kb.specs.declared.names.Concept.{Concept}
use Rattle.kb.specs.declared.names.Individual.{Individual}
use Rattle.kb.specs.declared.names.Role.{Role}
use Rattle.kb.specs.declared.statement.Statement.TheVariants.{Key as KeyStatement}
use Rattle.kb.specs.Meanings.{Meaning}
use Rattle.kb.specs.Questions.{asking}
use Rattle.ledger.specs.Books.{unused}
use Rattle.calculus.specs.declared.review.Condition.TheVariants.{Assertions, Inclusions, Keys}
use Rattle.calculus.specs.declared.review.Finding.{Finding}
use Rattle.calculus.specs.declared.review.Finding.TheVariants.{Closed, Open}
use Rattle.calculus.specs.declared.review.ReviewFault.{ReviewFault}
use Rattle.calculus.specs.declared.review.ReviewFault.TheVariants.{Condition}
use Rattle.calculus.specs.declared.row_kinds.PairRow.TheVariants.{Same as SameRow}
use Rattle.calculus.specs.declared.step.Step.{Step}
use Rattle.calculus.specs.declared.step.Step.TheVariants.{Take, Both, Some as SomeStep, Include, Key, Cut, Clash, Apart}
use Rattle.calculus.specs.Faults.{step_fault_numbers}
use Rattle.calculus.specs.Branches.{Branch}
use Rattle.calculus.specs.Playing.{answer, left, opened, play}
use Rattle.calculus.specs.Review.{review}
use Rattle.calculus.specs.States.{Ledgers, State, branch}
use Rattle.calculus.specs.Walks.{after_by, joins_walks, walk}

abbrev concept : ℕ → Concept
concept n = record { 0 = n }

abbrev role : ℕ → Role
role n = record { 0 = n }

abbrev individual : ℕ → Individual
individual n = record { 0 = n }

-- A lent list of individuals.
abbrev lent : List Individual → Bor (List Individual)
lent xs = record { ref_ptr = (0, 0); now = xs }

-- One individual, one role; TOP, NAME, SOME(0, 3); 2 of 0; inclusion (0, 4); key 0, 0, (0, 0).
abbrev pub one_individual : Meaning
one_individual =
    record {
      entries = Top ∷ Name ∷ SomeEntry (role 0) (concept 3) ∷ [];
      roles = 1;
      individuals = 1;
      assertions = Is (concept 2) (individual 0) ∷ [];
      inclusions = record { sub = concept 0; sup = concept 4 } ∷ [];
      keys = Link (concept 0) (concept 0) (One (record { left = role 0; right = role 0 })) ∷ [];
    }

-- Two names, two roles, no individual; inclusion (4, 2); key 2, 0, (0, 1); and the question whether key 4, 0, (0, 1) follows.
abbrev pub narrower_key : Meaning
narrower_key =
    asking
    (record {
      entries = Top ∷ Name ∷ Name ∷ [];
      roles = 2;
      individuals = 0;
      assertions = [];
      inclusions = record { sub = concept 4; sup = concept 2 } ∷ [];
      keys = Link (concept 2) (concept 0) (One (record { left = role 0; right = role 1 })) ∷ [];
    })
    (KeyStatement (concept 4) (concept 0) (One (record { left = role 0; right = role 1 })))

-- A name, one role, three individuals: role 0 from 0 and from 1 to 2, 0 different from 1; key 2, 0, (0, 0).
abbrev pub shared_value : Meaning
shared_value =
    record {
      entries = Top ∷ Name ∷ [];
      roles = 1;
      individuals = 3;
      assertions =
          Joins (role 0) (individual 0) (individual 2) ∷ Joins (role 0) (individual 1) (individual 2) ∷ Different (individual 0) (individual 1) ∷ [];
      inclusions = [];
      keys = Link (concept 2) (concept 0) (One (record { left = role 0; right = role 0 })) ∷ [];
    }

-- The base of one individual, with a name more.
abbrev pub one_name : Meaning
one_name =
    record {
      entries = one_individual.entries ++ Name ∷ [];
      roles = 1;
      individuals = 1;
      assertions = one_individual.assertions;
      inclusions = one_individual.inclusions;
      keys = one_individual.keys;
    }

-- Ledgers of sixteen places each.
abbrev pub places : Ledgers
places =
    record {
      concepts = unused (replicate 16 (record { concept = concept 0; individual = individual 0 }));
      roles = unused (replicate 16 (record { role = role 0; from = individual 0; to = individual 0 }));
      pairs = unused (replicate 16 (SameRow (individual 0) (individual 0)));
      pending =
          unused (replicate 16 (record { side = record { concept = concept 0; individual = individual 0 }; concepts = 0; roles = 0; pairs = 0; individuals = 0 }));
    }

-- What comes of lines: each line's refusal, none if it is accepted; then the accepted steps, the concept rows, and review.
pub record Outcome : Type 0 where
  pub refusals : List (List ℕ)
  pub steps : ℕ
  pub concept_rows : ℕ
  pub finding : Result Finding ReviewFault

abbrev pub refusals : Meaning → List Step → State → List (List ℕ)
refusals m [] s = []
refusals m (t ∷ ts) s = refusal step_fault_numbers (answer (play m 1024 t s)) ∷ refusals m ts (left s (play m 1024 t s))

abbrev pub play_all : Meaning → List Step → State → State
play_all m [] s = s
play_all m (t ∷ ts) s = play_all m ts (left s (play m 1024 t s))

abbrev pub outcome_of : Meaning → List Step → List (List ℕ) → State → Outcome
outcome_of m ts rs s =
    record { refusals = rs; steps = s.numbers.steps; concept_rows = length s.ledgers.concepts.rows; finding = review m 1024 s }

-- A base, lines, and what must come of them.
pub record Case : Type 0 where
  pub base : Meaning
  pub lines : List Step
  pub outcome : Outcome

abbrev pub outcome : Case → Outcome
outcome c = outcome_of c.base c.lines (refusals c.base c.lines (opened c.base places)) (play_all c.base c.lines (opened c.base places))

abbrev pub cases : List Case
cases =
    -- an endless model: individual 2 is blocked by individual 1
    record {
      base = one_individual;
      lines = Take 0 ∷ Include 0 (individual 0) ∷ SomeStep (concept 4) (individual 0) ∷ Include 0 (individual 1) ∷ SomeStep (concept 4) (individual 1) ∷ [];
      outcome = record { refusals = [] ∷ [] ∷ [] ∷ [] ∷ [] ∷ []; steps = 5; concept_rows = 5; finding = Ok Open };
    }
    -- refusals on a new sheet
    ∷ record {
      base = one_individual;
      lines = Both (concept 2) (individual 0) ∷ SomeStep (concept 4) (individual 0) ∷ Take 1 ∷ [];
      outcome = record { refusals = (8 ∷ []) ∷ (9 ∷ []) ∷ (7 ∷ 1 ∷ []) ∷ []; steps = 0; concept_rows = 0; finding = Err (Condition Assertions) };
    }
    ∷ record {
      base = one_individual;
      lines = Take 0 ∷ [];
      outcome = record { refusals = [] ∷ []; steps = 1; concept_rows = 1; finding = Err (Condition Inclusions) };
    }
    -- the right side of the cut is held already, so closing the left side leaves one concept row
    ∷ record {
      base = one_individual;
      lines = Take 0 ∷ Cut (concept 3) (individual 0) ∷ Clash (concept 3) (individual 0) ∷ [];
      outcome = record { refusals = [] ∷ [] ∷ [] ∷ []; steps = 3; concept_rows = 1; finding = Err (Condition Inclusions) };
    }
    -- the narrower key follows
    ∷ record {
      base = narrower_key;
      lines =
          Take 0 ∷ Take 2 ∷ Take 3 ∷ Take 4 ∷ Include 0 (individual 0)
          ∷ Key 0 (individual 0) (individual 1) (lent (individual 2 ∷ [])) ∷ Apart (individual 0) (individual 1) ∷ [];
      outcome = record { refusals = [] ∷ [] ∷ [] ∷ [] ∷ [] ∷ [] ∷ [] ∷ []; steps = 7; concept_rows = 2; finding = Ok Closed };
    }
    -- the same row of the left branch does not outlive its closing: on the right branch 0 and 1 are not equal
    ∷ record {
      base = shared_value;
      lines =
          Take 0 ∷ Take 1 ∷ Take 2 ∷ Cut (concept 2) (individual 0) ∷ Key 0 (individual 0) (individual 1) (lent (individual 2 ∷ []))
          ∷ Apart (individual 0) (individual 1) ∷ Apart (individual 0) (individual 1) ∷ [];
      outcome = record { refusals = [] ∷ [] ∷ [] ∷ [] ∷ [] ∷ [] ∷ (9 ∷ []) ∷ []; steps = 6; concept_rows = 1; finding = Err (Condition Keys) };
    }
    -- individual 2 is blocked by 1 no longer once it holds what 1 does not: no blocker is remembered
    ∷ record {
      base = one_name;
      lines =
          Take 0 ∷ Include 0 (individual 0) ∷ SomeStep (concept 4) (individual 0) ∷ Include 0 (individual 1) ∷ SomeStep (concept 4) (individual 1)
          ∷ Cut (concept 6) (individual 2) ∷ [];
      outcome = record { refusals = [] ∷ [] ∷ [] ∷ [] ∷ [] ∷ [] ∷ []; steps = 6; concept_rows = 6; finding = Err (Condition Inclusions) };
    }
    ∷ []

-- Every case comes out as it must.
abbrev pub Worked : Type 0
Worked = map outcome cases ≡ map (λ (c : Case). c.outcome) cases

-- The endless model of one individual: the sheet that review finds open.
abbrev pub endless : Branch
endless = branch (play_all one_individual (Take 0 ∷ Include 0 (individual 0) ∷ SomeStep (concept 4) (individual 0) ∷ Include 0 (individual 1) ∷ SomeStep (concept 4) (individual 1) ∷ []) (opened one_individual places))

-- On it the blocked individual 2 goes on as 1. Were its edge bent back to 1, both 0 and 1 would be joined to 1, and the key
-- would make them one. Walks go on instead: 0 is joined to the walk 0 1, and that to the longer walk 0 1 1 and not to itself.
pub record Unravelled : Type 0 where
  pub bent : (after_by one_individual endless (role 0) 0 1 ≡ true) × (after_by one_individual endless (role 0) 1 1 ≡ true)
  pub first : joins_walks one_individual endless (role 0) (0 ∷ []) (0 ∷ 1 ∷ []) ≡ true
  pub on : joins_walks one_individual endless (role 0) (0 ∷ 1 ∷ []) (0 ∷ 1 ∷ 1 ∷ []) ≡ true
  pub not_back : joins_walks one_individual endless (role 0) (0 ∷ 1 ∷ []) (0 ∷ 1 ∷ []) ≡ false
  pub walk_on : walk one_individual endless (0 ∷ 1 ∷ 1 ∷ 1 ∷ []) ≡ true
