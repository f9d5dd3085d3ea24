-- The numbers that a refused line or text returns.
use Rattle.std.specs.Prelude.{ℕ, List, [], ◌∷◌}
use Rattle.calculus.specs.Faults.{step_fault_numbers}
use Rattle.texts.specs.declared.fault.LineFault.{LineFault}
use Rattle.texts.specs.declared.fault.LineFault.TheVariants.{Unreadable, Step}
use Rattle.texts.specs.declared.fault.TextFault.{TextFault}
use Rattle.texts.specs.declared.fault.TextFault.TheVariants.{Size, Line}

-- 12, unreadable; else the step's.
abbrev pub line_fault_numbers : LineFault → List ℕ
line_fault_numbers Unreadable = 12 ∷ []
line_fault_numbers (Step f) = step_fault_numbers f

-- 4, too long; else the line's.
abbrev pub text_fault_numbers : TextFault → List ℕ
text_fault_numbers Size = 4 ∷ []
text_fault_numbers (Line n f) = line_fault_numbers f
