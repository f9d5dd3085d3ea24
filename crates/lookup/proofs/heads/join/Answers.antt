-- A turn joins the head at one place.
use Rattle.std.proofs.Common.{◌<◌, length, get_or, set, ap, ◌∙◌, arith}
use Rattle.std.proofs.lemmas.List.Edits.{map_over_more}
use Rattle.std.proofs.lemmas.List.{get_or_default}
use Rattle.calculus.specs.Branches.{merged}
use Rattle.lookup.proofs.heads.join.Goals as goal

pub loop-head-preserved : goal.loop-head-preserved
loop-head-preserved c =
    let hs = c.args.heads.now in
    let i = c.loop-head.head-index in
    let ys = c.loop-head.heads in
    let x = get_or ys i 0 in
    let h : i < length ys = omega arith in
    ap (set ys i) c.merge.ensures
    ∙ map_over_more (merged c.head_of-u.result c.head_of-v.result) hs ys i x c.loop-head-test.true c.loop-head.invariant (get_or_default ys i 0 x h)
