use Rattle.std.proofs.Common.{ℕ, ◌<◌, List, sym, ap, ◌∙◌, arith, length-drop, length-take}
use Rattle.kb.specs.declared.counts.Counts.{Counts}
use Rattle.kb.specs.Check.{count_of}
use Rattle.kb.specs.Meanings.{counts_of}
use Rattle.casewriter.specs.Encoding.{bytes_of, row_numbers}
use Rattle.casewriter.specs.Writing.{over}
use Rattle.casewriter.proofs.Overwriting.{over-more, over-within}
use Rattle.casewriter.proofs.SectionLaws.{bytes-more, first_rows, length_more, row_within}
use Rattle.casewriter.proofs.sections.put_rows.Goals as goal

pub put_row-at-requires : goal.put_row-at-requires
put_row-at-requires g c =
    let m = g.B.Base.meaning c.args.base.now in
    let list = c.args.list in
    let h : c.loop-k.k < count_of (counts_of m) list = omega (arith, ap (λ (n : Counts). count_of n list) c.counts.ensures) in
    simp (length-take, length-drop) (omega (arith, row_within m list c.loop-k.k h))

pub loop-k-preserved : goal.loop-k-preserved
loop-k-preserved g c =
    let m = g.B.Base.meaning c.args.base.now in
    let list = c.args.list in
    let k = c.loop-k.k in
    let j = c.from.result in
    let before = c.args.out.now in
    let h : k < count_of (counts_of m) list = omega (arith, ap (λ (n : Counts). count_of n list) c.counts.ensures) in
    let wrote =
    over-more before (bytes_of (first_rows m list k)) (bytes_of (row_numbers m list j)) c.loop-k.out c.put_row-at.new.out c.loop-k.at (sym c.loop-k.invariant.0) c.loop-k.invariant.2 c.put_row-at.ensures.bytes
    ∙ ap (λ (bytes : List ℕ). over bytes before) (sym (bytes-more m list k j c.from.ensures h)) in
    (omega (arith, length_more m list k j c.from.ensures h), omega (arith, length_more m list k j c.from.ensures h, over-within before _ _ wrote), wrote)
