use Rattle.std.proofs.Common.{Err, sym, refl, ap, ◌∙◌}
use Rattle.std.specs.Result.{result_map_both}
use Rattle.std.proofs.lemmas.Result.{err_from_is_err_and}
use Rattle.lines.specs.Letters.{step_of}
use Rattle.lines.specs.Reading.{seen_line, seen_numbers}
use Rattle.lines.specs.Steps.{line_step}
use Rattle.lines.proofs.LineLaws.{no_newline, no_numbers, no_step, step-told}
use Rattle.lines.proofs.read.read_line.Goals as goal

pub returns-in_err-read : goal.returns-in_err-read
returns-in_err-read c =
    let p = err_from_is_err_and c.from_residual-in_err-read.result c.from_residual-in_err-read.ensures.1 in
    let t =
    no_numbers c.args.text.now c.args.from c.in_ok-letter.letter c.in_ok-letter.ensures.value _ _
    (ap (result_map_both seen_line (λ f. f)) (p.1 ∙ ap Err p.2)) c.in_err-read.ensures in
    record { value = t.value; inverse = t.means }

pub returns-then-not-is_at : goal.returns-then-not-is_at
returns-then-not-is_at c =
    let t =
    no_newline c.args.text.now c.args.from c.in_ok-letter.letter c.in_ok-letter.ensures.value
    (seen_numbers c.args.text.now c.in_ok-read.read) c.in_ok-read.ensures (sym c.is_at.ensures.value ∙ c.if-not-is_at.true) in
    record { value = t.value; inverse = t.means }

pub returns-in_err-line : goal.returns-in_err-line
returns-in_err-line c =
    let p = err_from_is_err_and c.from_residual-in_err-line.result c.from_residual-in_err-line.ensures.1 in
    let t =
    no_step c.args.text.now c.args.from c.in_ok-letter.letter c.in_ok-letter.ensures.value
    (seen_numbers c.args.text.now c.in_ok-read.read) c.in_ok-read.ensures (sym c.is_at.ensures.value ∙ c.if-not-is_at.false) _ _
    (ap (result_map_both seen_line (λ f. f)) (p.1 ∙ ap Err p.2)) (c.in_err-line.ensures ∙ ap (step_of c.in_ok-letter.letter) c.as_slice.ensures.value) in
    record { value = t.value; inverse = t.means }

pub returns : goal.returns
returns c =
    let t =
    step-told c.args.text.now c.args.from c.in_ok-letter.letter c.in_ok-letter.ensures.value
    (seen_numbers c.args.text.now c.in_ok-read.read) c.in_ok-read.ensures (sym c.is_at.ensures.value ∙ c.if-not-is_at.false)
    (line_step c.in_ok-line.line) c.in_ok-read.read.end refl (c.is_at.ensures.within c.if-not-is_at.false)
    (c.in_ok-line.ensures ∙ ap (step_of c.in_ok-letter.letter) c.as_slice.ensures.value) in
    record { value = t.value; inverse = t.means }
