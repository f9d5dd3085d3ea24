use Rattle.std.proofs.Common.{◌≡◌, rules, true, false, length, sym, refl, ◌∙◌, arith}
use borrow.Author.Tests.{tests}
use Rattle.std.specs.Char.{is_ascii_digit}
use Rattle.std.specs.Option.{unwrap_or}
use Rattle.std.proofs.lemmas.Iterator.{IsFirst-from_position, YieldsList-from_slice, index_from_first}
use Rattle.words.specs.Numerals.{digit_count}
use Rattle.words.proofs.NumeralLaws.{count-within}
use Rattle.words.proofs.digits.digit_count.Goals as goal

pub returns : goal.returns
returns c =
    let bs = c.args.text.now in
    let first = IsFirst-from_position _ _ c.position.result (λ b. is_ascii_digit b ≡ false) (λ b. is_ascii_digit b ≡ true) c.position.ensures.ran
    (YieldsList-from_slice bs cc) (λ x q k. search (rules, tests)) (λ x q k. search (rules, tests)) in
    let count : digit_count bs ≡ unwrap_or c.position.result (length bs) =
    index_from_first digit_count (λ b. is_ascii_digit b ≡ false) (λ b. is_ascii_digit b ≡ true) refl (λ b bs e. rw e refl) (λ b bs e. rw e refl) bs c.position.result first in
    record { value = c.unwrap_or.ensures ∙ sym count; within = omega (arith, count-within bs, count, c.unwrap_or.ensures) }
