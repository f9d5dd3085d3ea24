-- An accepted base and accepted sizes open the sheet of the calculus.
use Rattle.std.proofs.Common.{◌≡◌, ℕ, true, Ok, sym, refl, ap, ◌∙◌, arith}
use Rattle.calculus.specs.Runs.{lengths_accepted}
use Rattle.calculus.specs.States.{sizes_of}
use Rattle.ledgers.specs.Contents.{ledgers_of}
use Rattle.sheet.proofs.OpeningLaws.{begun_opened, opened-begins, opening-accepted}
use Rattle.sheet.proofs.state.Sheet.open.Goals as goal

pub returns : goal.returns
returns g c =
    let m = g.B.Base.meaning c.args.base.now in
    let l = ledgers_of c.args.ledgers.now in
    let n = c.in_ok-counts.counts in
    let l' = ledgers_of c.clear.new.self in
    let short : lengths_accepted (sizes_of l) ≡ true =
    ap lengths_accepted (sym c.sizes-sizes.ensures) ∙ sym c.if-not-are_accepted.ensures in
    let own = (c.in_ok-counts.ensures.means.accepts n refl).0 in
    let is = ap Ok (begun_opened m l n c.sizes-sizes.result c.row_counts.result l' own c.sizes-sizes.ensures c.row_counts.ensures c.clear.ensures)
    ∙ sym (opening-accepted m l n (sym c.in_ok-counts.ensures.value) short) in
    opened-begins m l _ l' is (λ f e. let z : ◌≡◌ {A = ℕ} 0 1 = cc in absurd (omega arith))
