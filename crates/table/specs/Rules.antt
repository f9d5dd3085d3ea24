-- Which line of the table a rule in code is.
use Rattle.std.specs.Prelude.{List, Ok, Err, Result}
use Rattle.kb.specs.declared.axioms.Assertion.{Assertion}
use Rattle.calculus.specs.declared.fault.StepFault.{StepFault}
use Rattle.calculus.specs.Table.{Rule as Line, adding, adding_fresh, closing, splitting}
use Rattle.table.specs.declared.rule.Effect.{Effect}
use Rattle.table.specs.declared.rule.Effect.TheVariants.{Adds, AddsFresh, Splits, Closes}
use Rattle.table.specs.declared.rule.Rule.{Rule}
use Rattle.table.specs.FactLists.{adds_of, facts_of}

-- The line that has these needs and does this.
abbrev pub line_of : List Assertion → Effect → Line
line_of needs (Adds adds) = adding needs (adds_of adds)
line_of needs (AddsFresh adds) = adding_fresh needs (adds_of adds)
line_of needs (Splits left right x) = splitting needs left right x
line_of needs Closes = closing needs

-- The line that a rule is.
abbrev pub rule_of : Rule → Line
rule_of r = line_of (facts_of r.needs) r.effect

-- The answer to a step: its line, or why it is refused.
abbrev pub ruled_as : Result Rule StepFault → Result Line StepFault
ruled_as (Ok r) = Ok (rule_of r)
ruled_as (Err f) = Err f
