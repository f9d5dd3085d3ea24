-- The last right side notes no more individuals than there are, and is looked up on the branch cut back.
use Rattle.std.proofs.Common.{◌≡◌, length, sym, ap, ◌∙◌, arith}
use Rattle.calculus.specs.Branches.{held}
use Rattle.calculus.specs.Playing.{close, cut_to}
use Rattle.calculus.specs.States.{branch_of}
use Rattle.calculus.specs.StepLaws.{side_of}
use Rattle.ledgers.specs.Contents.{ledgers_of}
use Rattle.sheet.specs.States.{state_of}
use Rattle.sheet.specs.Writing.{take_up_by}
use Rattle.sheet.proofs.FitLaws.{fit-shown-before, fit-side}
use Rattle.sheet.proofs.PerformLaws.{close-by}
use Rattle.sheet.proofs.state.Sheet.end_branch.Goals as goal

pub invariant_of-result : goal.invariant_of-result
invariant_of-result g c =
    let s = state_of c.args.self.now (ledgers_of c.args.rows.now.ledgers.now) in
    let few = c.args.self.now.few in
    let noted = fit-side (g.B.Base.meaning c.args.rows.now.base.now) s c.requires.fit c.in-Some.row (sym c.in-Some.ensures) in
    record { few = omega (arith, noted, few) }

pub returns-in-None : goal.returns-in-None
returns-in-None g c =
    let s = state_of c.args.self.now (ledgers_of c.args.rows.now.ledgers.now) in
    ap (close (g.B.Base.meaning c.args.rows.now.base.now) s) c.in-None.ensures

pub returns-in-Some : goal.returns-in-Some
returns-in-Some g c =
    let m = g.B.Base.meaning c.args.rows.now.base.now in
    let s = state_of c.args.self.now (ledgers_of c.args.rows.now.ledgers.now) in
    let p = c.in-Some.row in
    let before : c.is_held_before.result ≡ held m (branch_of (cut_to p s.ledgers) p.individuals) (side_of p) =
    c.is_held_before.ensures ∙ ap (λ b. held m b (side_of p)) (fit-shown-before m s c.requires.fit (length c.args.heads.now) c.requires.heads c.args.self.now.few p) in
    ap (take_up_by s p) before ∙ sym (close-by m s p) ∙ ap (close m s) c.in-Some.ensures
