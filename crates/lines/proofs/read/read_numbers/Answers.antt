use Rattle.std.proofs.Common.{◌≡◌, ◌-◌, ◌<◌, ◌≤◌, false, eqb, List, length, drop, Err, sym, ap, ◌∙◌, arith, ℕ}
use Rattle.std.specs.Result.{result_map_both}
use Rattle.std.proofs.lemmas.Bool.{eqb-false, eqb-true}
use Rattle.std.proofs.lemmas.Result.{err_from_is_err_and}
use Rattle.lines.specs.Reading.{seen_numbers}
use Rattle.lines.proofs.NumbersRead.{none-at, numbers-none, numbers_stop, one_at}
use Rattle.lines.proofs.read.read_numbers.Goals as goal
use Rattle.lines.proofs.read.read_numbers.Goals.{then-loop-numbers-test+else-is_at, else-loop-numbers-test}

-- fewer than seven numbers leave room for one more
room : (ns : List ℕ) → false ≡ eqb (length ns) 7 → length ns ≤ 7 → length ns < 7
room ns e h = omega (arith, eqb-false (length ns) 7 (sym e))

pub returns-in_err-number : goal.returns-in_err-number
returns-in_err-number c =
    let ns = c.loop-numbers.numbers.items in
    let more = room ns c.loop-numbers-test.ensures.value c.loop-numbers-test.ensures.fits in
    let p = err_from_is_err_and c.from_residual.result c.from_residual.ensures.1 in
    ap (result_map_both (seen_numbers c.args.text.now) (λ f. f)) (p.1 ∙ ap Err p.2)
    ∙ none-at c.args.text.now ns c.loop-numbers.end (length ns) (sym c.if-is_at.ensures.value) more _ c.in_err-number.ensures.value
    ∙ c.loop-numbers.invariant.left

pub loop-numbers-preserved : goal.loop-numbers-preserved
loop-numbers-preserved c =
    let ns = c.loop-numbers.numbers.items in
    let more = room ns c.loop-numbers-test.ensures.value c.loop-numbers-test.ensures.fits in
    let next = one_at c.args.text.now ns c.loop-numbers.end (length ns) (sym c.if-is_at.ensures.value) more c.push.new.self.items c.in_ok-number.number
    c.in_ok-number.ensures.value c.push.ensures.items in
    record {
      fit = omega (arith, more, c.push.ensures.len);
      left = rw c.push.ensures.len (next ∙ c.loop-numbers.invariant.left);
    }

pub returns : goal.returns
returns c =
    let ns = c.loop-numbers.numbers.items in
    let rest = drop c.loop-numbers.end c.args.text.now in
    elim c.loop-numbers-test.branch [
      | then-loop-numbers-test+else-is_at w ↦ numbers_stop ns rest (7 - length ns) (sym w.if-is_at.ensures.value) ∙ c.loop-numbers.invariant.left
      | else-loop-numbers-test w ↦ numbers-none ns rest (7 - length ns) (omega (arith, eqb-true (length ns) 7 (sym w.loop-numbers-test.ensures.value))) ∙ c.loop-numbers.invariant.left
    ]
