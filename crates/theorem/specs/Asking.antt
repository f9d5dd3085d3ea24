-- What the base that asks a statement says of that statement.
use Rattle.std.specs.Prelude.{◌≡◌, true}
use Rattle.kb.specs.declared.statement.Statement.{Statement}
use Rattle.kb.specs.Check.{InRange, sizes_accepted}
use Rattle.kb.specs.Interpretations.{Interpretation, Lawful, Satisfies, SatisfiesStatement}
use Rattle.kb.specs.Meanings.{Meaning, counts_of}
use Rattle.kb.specs.Questions.{asking}

-- No interpretation, finite or endless, satisfies a base.
abbrev pub Unsatisfiable : Meaning → Type 0
Unsatisfiable m = (I : Interpretation) → Lawful I m.entries → Satisfies I m → ⊥

-- A statement follows from a base: every interpretation that satisfies the base satisfies the statement.
abbrev pub Entails : Meaning → Statement → Type 0
Entails m st = (I : Interpretation) → Lawful I m.entries → Satisfies I m → SatisfiesStatement I st

-- A question is asked: the sizes of the base that asks it are accepted, and its every row is in range.
pub record Asked (lower : Meaning) (st : Statement) : Type 0 where
  pub sizes : sizes_accepted (counts_of (asking lower st)) ≡ true
  pub rows : InRange (asking lower st)

-- If no interpretation satisfies the base that asks a statement of a base below, then the statement follows from the base
-- below. Every row of the base below is in range by its own counts; it may have no individuals.
abbrev pub ClosedEntails : Type 0
ClosedEntails =
    (lower : Meaning) (st : Statement) → InRange lower → Asked lower st
    → Unsatisfiable (asking lower st) → Entails lower st

-- An interpretation that satisfies the base that asks a statement satisfies the base below and breaks the statement.
abbrev pub OpenBreaks : Type 0
OpenBreaks =
    (lower : Meaning) (st : Statement) → Asked lower st
    → (I : Interpretation) → Lawful I lower.entries → Satisfies I (asking lower st)
    → Satisfies I lower × (SatisfiesStatement I st → ⊥)
