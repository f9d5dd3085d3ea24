-- A turn joins the heads by one row.
use Rattle.std.proofs.Common.{◌≡◌, true, length, sym, ap, ◌∙◌, subst, arith}
use Rattle.std.specs.List.{list_all}
use Rattle.lookup.specs.Heads.{head_in, names_below}
use Rattle.lookup.proofs.HeadLaws.{heads_more}
use Rattle.lookup.proofs.heads.find_heads.Goals as goal

pub loop-row-preserved : goal.loop-row-preserved
loop-row-preserved c x =
    let ps = c.args.pairs.now in
    let e : length c.args.heads.now ≡ length c.loop-row.heads = omega arith in
    let named = subst (λ n. list_all (names_below n) ps ≡ true) e c.requires.named in
    heads_more ps c.loop-row.row-index _ c.loop-row.heads c.loop-row-test.true named c.loop-row.invariant x
    ∙ ap (λ hs. head_in hs x) (sym c.join_by.ensures)
