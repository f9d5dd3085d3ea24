-- The numbers that a refused step or review returns.
use Rattle.std.specs.Prelude.{ℕ, List, [], ◌∷◌}
use Rattle.rows.specs.Rows.{row_fault_numbers}
use Rattle.calculus.specs.declared.review.Condition.{Condition}
use Rattle.calculus.specs.declared.review.Condition.TheVariants.{NoContradiction, Assertions, BothParts, AllReached, Inclusions, Keys, EitherPart, SomeReached}
use Rattle.calculus.specs.declared.review.ReviewFault.{ReviewFault}
use Rattle.calculus.specs.declared.review.ReviewFault.TheVariants.{Changed as ChangedReview, Full as FullReview, Condition as Failing}
use Rattle.calculus.specs.declared.fault.StepFault.{StepFault}
use Rattle.calculus.specs.declared.fault.StepFault.TheVariants.{Changed, Closed, Row, Range, Kind, Premise, Full}

-- 5, not the sheet's rows; 6, closed; 7, a number out of range, with 1 inside if it is a row's; 8, another kind; 9, a
-- premise not held; 10, full.
abbrev pub step_fault_numbers : StepFault → List ℕ
step_fault_numbers Changed = 5 ∷ []
step_fault_numbers Closed = 6 ∷ []
step_fault_numbers (Row f) = 7 ∷ row_fault_numbers f
step_fault_numbers Range = 7 ∷ []
step_fault_numbers Kind = 8 ∷ []
step_fault_numbers Premise = 9 ∷ []
step_fault_numbers Full = 10 ∷ []

-- The number of a condition of review: its place among the eight, from 1.
abbrev pub condition_number : Condition → ℕ
condition_number NoContradiction = 1
condition_number Assertions = 2
condition_number BothParts = 3
condition_number AllReached = 4
condition_number Inclusions = 5
condition_number Keys = 6
condition_number EitherPart = 7
condition_number SomeReached = 8

-- 5, not the sheet's rows; 10, the scratch is too short; 11 with the lowest condition that fails.
abbrev pub review_fault_numbers : ReviewFault → List ℕ
review_fault_numbers ChangedReview = 5 ∷ []
review_fault_numbers FullReview = 10 ∷ []
review_fault_numbers (Failing k) = 11 ∷ condition_number k ∷ []
