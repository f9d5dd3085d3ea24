-- The words of a text.
use Rattle.std.specs.Prelude.{ℕ, cond, List, [], ◌∷◌, length, take, drop, Ok, Err, Result}
use Rattle.std.specs.Char.{is_ascii_digit}
use Rattle.words.specs.declared.fault.ReadFault.{ReadFault}
use Rattle.words.specs.declared.fault.ReadFault.TheVariants.{Unreadable}
use Rattle.words.specs.declared.word.Word.{Word}
use Rattle.words.specs.declared.word.Word.TheVariants.{Letter, Number}
use Rattle.words.specs.Numerals.{digit_count, number_of}

-- A word: its bytes and its place.
pub data SeenWord : Type 0 where
  letter_word : List ℕ → ℕ → SeenWord
  number_word : List ℕ → ℕ → SeenWord

-- What a word that borrows a text is, wherever that text lies.
abbrev pub seen : Word → SeenWord
seen (Letter part) = letter_word part.bytes.now part.place
seen (Number part) = number_word part.bytes.now part.place

-- The word at the front of what stands from a place on: digits, as many as stand together, or else one byte.
abbrev pub word_from : List ℕ → ℕ → Result SeenWord ReadFault
word_from [] at = Err Unreadable
word_from (b ∷ bs) at = cond (is_ascii_digit b) (Ok (number_word (take (digit_count (b ∷ bs)) (b ∷ bs)) at)) (Ok (letter_word (b ∷ []) at))

abbrev pub word_at : List ℕ → ℕ → Result SeenWord ReadFault
word_at text at = word_from (drop at text) at

-- The one byte of a letter.
abbrev pub only_byte : List ℕ → Result ℕ ReadFault
only_byte [] = Err Unreadable
only_byte (b ∷ []) = Ok b
only_byte (b ∷ c ∷ bs) = Err Unreadable

abbrev pub letter_in : SeenWord → Result ℕ ReadFault
letter_in (letter_word bytes at) = only_byte bytes
letter_in (number_word bytes at) = Err Unreadable

abbrev pub number_in : SeenWord → Result ℕ ReadFault
number_in (letter_word bytes at) = Err Unreadable
number_in (number_word bytes at) = number_of bytes

abbrev pub size_of : SeenWord → ℕ
size_of (letter_word bytes at) = length bytes
size_of (number_word bytes at) = length bytes
