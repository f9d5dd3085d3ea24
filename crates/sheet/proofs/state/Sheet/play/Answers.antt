-- A sheet that is ready has its own base and ledgers, and a scratch for its individuals; it does what is found of its step.
use Rattle.std.proofs.Common.{◌≡◌, true, ltb, Err, length, sym, ◌∙◌}
use Rattle.std.proofs.lemmas.Bool.{cond-true, lt-ltb}
use Rattle.calculus.specs.declared.fault.StepFault.TheVariants.{Full}
use Rattle.ledgers.specs.Contents.{ledgers_of}
use Rattle.sheet.specs.States.{state_of}
use Rattle.sheet.specs.Turns.{turn_by}
use Rattle.sheet.proofs.SteppedLaws.{play_performs, stepped_as, stepped_done, stepped-played}
use Rattle.table.specs.Rules.{rule_of}
use Rattle.sheet.proofs.state.Sheet.play.Goals as goal

pub returns : goal.returns
returns g c =
    let m = g.B.Base.meaning c.args.base.now in
    let s = state_of c.args.self.now (ledgers_of c.args.ledgers.now) in
    let k = length c.args.scratch.now in
    let t = c.args.step.now in
    let few : ltb s.numbers.steps 1000000 ≡ true = lt-ltb _ _ c.in_ok-turn.ensures.counted in
    let done = turn_by s c.in_ok-turn.turn in
    stepped-played m k t s
    (stepped_as
    (sym (cond-true _ done (Err Full) few) ∙ c.in_ok-turn.ensures.value ∙ sym (play_performs m k t s (rule_of c.in_ok-rule.rule) (sym c.in_ok-check_ready.ensures) (sym c.in_ok-rule.ensures)))
    (stepped_done c.in_ok-done.ensures c.accept.ensures))
