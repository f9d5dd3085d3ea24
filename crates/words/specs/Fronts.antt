-- The letter and the number at the front of a text.
use Rattle.std.specs.Prelude.{◌≡◌, ℕ, ◌≤◌, cond, List, [], ◌∷◌, ◌++◌, length, take, drop, Ok, Err, decimal, Result}
use Rattle.std.specs.Char.{is_ascii_digit}
use Rattle.words.specs.declared.fault.ReadFault.{ReadFault}
use Rattle.words.specs.declared.fault.ReadFault.TheVariants.{Unreadable}
use Rattle.words.specs.declared.read.FrontNumber.{FrontNumber}
use Rattle.words.specs.Numerals.{digit_count, number_of}

-- The letter: the first byte, unless it is a digit.
abbrev pub front_letter : List ℕ → Result ℕ ReadFault
front_letter [] = Err Unreadable
front_letter (b ∷ bs) = cond (is_ascii_digit b) (Err Unreadable) (Ok b)

-- A number with its size.
abbrev pub sized : ℕ → Result ℕ ReadFault → Result FrontNumber ReadFault
sized size (Ok n) = Ok (record { value = n; size = size })
sized size (Err f) = Err f

-- The number: that of the digits at the front, as many as stand together.
abbrev pub front_number : List ℕ → Result FrontNumber ReadFault
front_number bs = sized (digit_count bs) (number_of (take (digit_count bs) bs))

-- Reading a number is the inverse of writing one, in words. Where the decimal digits of a number up to 65,535 stand at the
-- front and no digit behind them, that number is read. And where a number is read, it is at most 65,535, its decimal digits
-- stand at the front, so many as its size says, and no digit behind them.
pub record NumberRead (bs : List ℕ) (r : Result FrontNumber ReadFault) : Type 0 where
  pub found : (n : ℕ) (rest : List ℕ) → n ≤ 65535 → digit_count rest ≡ 0 → bs ≡ decimal n ++ rest → r ≡ Ok (record { value = n; size = length (decimal n) })
  pub small : (f : FrontNumber) → r ≡ Ok f → f.value ≤ 65535
  pub size : (f : FrontNumber) → r ≡ Ok f → f.size ≡ length (decimal f.value)
  pub spelled : (f : FrontNumber) → r ≡ Ok f → bs ≡ decimal f.value ++ drop f.size bs
  pub ends : (f : FrontNumber) → r ≡ Ok f → digit_count (drop f.size bs) ≡ 0
