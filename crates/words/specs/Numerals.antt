-- Numbers in a text: decimal digits without a leading zero, at most 65,535.
use Rattle.std.specs.Prelude.{ℕ, ◌+◌, ◌-◌, ◌*◌, Bool, true, false, cond, not, ◌&&◌, List, [], ◌∷◌, Ok, Err, Result, ◌==◌, nat_le}
use Rattle.std.specs.Char.{is_ascii_digit}
use Rattle.std.specs.Str.{all_ascii_digits}
use Rattle.words.specs.declared.fault.ReadFault.{ReadFault}
use Rattle.words.specs.declared.fault.ReadFault.TheVariants.{Unreadable}

-- How many digits stand at the front.
abbrev pub digit_count : List ℕ → ℕ
digit_count [] = 0
digit_count (b ∷ bs) = cond (is_ascii_digit b) (digit_count bs + 1) 0

-- The number that digits write behind the digits of n.
abbrev pub value_after : ℕ → List ℕ → ℕ
value_after n [] = n
value_after n (d ∷ ds) = value_after (10 * n + (d - 48)) ds

-- The same, if these are digits and the number is at most 65,535.
abbrev pub value_within : ℕ → List ℕ → Result ℕ ReadFault
value_within n ds = cond (all_ascii_digits ds && nat_le (value_after n ds) 65535) (Ok (value_after n ds)) (Err Unreadable)

-- One digit, or more that do not begin with 0.
abbrev pub plain : List ℕ → Bool
plain [] = false
plain (d ∷ []) = true
plain (d ∷ e ∷ ds) = not (d == 48)

-- The number that a text of digits is.
abbrev pub number_of : List ℕ → Result ℕ ReadFault
number_of ds = cond (plain ds) (value_within 0 ds) (Err Unreadable)
