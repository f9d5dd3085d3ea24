use Rattle.std.proofs.Common.{◌++◌, length, drop, ap, ◌∙◌}
use Rattle.lines.proofs.WriteLaws.{spelled_step, wrote}
use Rattle.lines.proofs.write.write_line.Goals as goal

pub returns-clause-means : goal.returns-clause-means
returns-clause-means c =
    let s = c.args.step.now in
    let line =
    spelled_step s c.letter_of.result c.as_slice.result.now c.spell-line.result.bytes c.as_slice.ensures.fits
    (c.as_slice.ensures.value ∙ c.in_ok-numbers.ensures) c.letter_of.ensures c.spell-line.ensures.text c.spell-line.ensures.small in
    let size = c.len-size.result in
    let before = c.args.buffer.now in
    wrote s before size _ (c.len-size.ensures.value ∙ ap length line.text) line.fit c.if-size-buffer.false
    (ap (λ x. x ++ drop size before) (c.copy_from_slice.ensures.after ∙ c.as_bytes.ensures.value ∙ c.as_str.ensures.value ∙ line.text))
