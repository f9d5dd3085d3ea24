use Rattle.std.proofs.Common.{sym, ◌∙◌}
use Rattle.words.proofs.DigitLaws.{value-ends, value_goes, value_passes, value-stops}
use Rattle.words.proofs.digits.value.Goals as goal

pub returns-then-not-is_ascii_digit : goal.returns-then-not-is_ascii_digit
returns-then-not-is_ascii_digit c =
    sym (value-stops c.args.digits.now c.loop-b.b-index c.loop-b.n c.loop-b-test.true (sym c.is_ascii_digit.ensures.value ∙ c.if-not-is_ascii_digit.true))
    ∙ c.loop-b.invariant.1

pub returns-then-n-gt65535 : goal.returns-then-n-gt65535
returns-then-n-gt65535 c =
    sym (value_passes c.args.digits.now c.loop-b.b-index c.loop-b.n c.from.result c.loop-b-test.true c.from.ensures c.if-n-gt65535.true)
    ∙ c.loop-b.invariant.1

pub loop-b-preserved : goal.loop-b-preserved
loop-b-preserved c = (
  c.if-n-gt65535.false,
  sym (value_goes c.args.digits.now c.loop-b.b-index c.loop-b.n c.from.result c.loop-b-test.true c.from.ensures (sym c.is_ascii_digit.ensures.value ∙ c.if-not-is_ascii_digit.false))
      ∙ c.loop-b.invariant.1,
)

pub returns : goal.returns
returns c =
    sym (value-ends c.args.digits.now c.loop-b.b-index c.loop-b.n c.loop-b-test.false c.loop-b.invariant.0) ∙ c.loop-b.invariant.1
