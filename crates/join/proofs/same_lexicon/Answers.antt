use Rattle.std.proofs.Common.{◌≡◌, length, refl, ap, arith, rules}
use Rattle.std.proofs.lemmas.Iterator.{cases_from_all, YieldsList-from_range}
use Rattle.kb.specs.declared.counts.Counts.{Counts}
use Rattle.rows.specs.Rows.{row_at}
use Rattle.join.proofs.SameRows.{same_from_all_rows}
use Rattle.join.proofs.same_lexicon.Goals as goal

pub returns : goal.returns
returns g c =
    let xs = (g.L.Base.meaning c.args.left.now).entries in
    let ys = (g.R.Base.meaning c.args.right.now).entries in
    let l : c.counts.result.entries ≡ length xs = ap (λ (n : Counts). n.entries) c.counts.ensures in
    let r : c.counts-2.result.entries ≡ length ys = ap (λ (n : Counts). n.entries) c.counts-2.ensures in
    same_from_all_rows xs ys c.from-longer.result c.all.result (omega arith) (omega arith)
    (cases_from_all _ _ _ (λ k. row_at xs k ≡ row_at ys k) (λ k. row_at xs k ≡ row_at ys k → ⊥) c.all.ensures.ran
    (YieldsList-from_range 0 c.from-longer.result c.from-longer.result refl (omega arith)) (λ x q k. search rules) (λ x q k. search rules))
