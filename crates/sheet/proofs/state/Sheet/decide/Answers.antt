-- The rows are looked up on the sheet's own branch.
use Rattle.std.proofs.Common.{rules, ◌≡◌, Err, length, refl, ap, ◌∙◌, arith}
use Rattle.ledgers.specs.Contents.{ledgers_of}
use Rattle.sheet.specs.States.{state_of}
use Rattle.sheet.specs.Turns.{performed}
use Rattle.sheet.proofs.PerformLaws.{perform-closes, perform-extends, perform-refused}
use Rattle.table.specs.declared.rule.Effect.TheVariants.{Adds, AddsFresh, Splits, Closes}
use Rattle.table.specs.FactLists.{facts_of}
use Rattle.table.specs.Rules.{rule_of}
use Rattle.sheet.proofs.state.Sheet.decide.Goals as goal

pub returns-in-Adds : goal.returns-in-Adds
returns-in-Adds g c =
    let s = state_of c.args.self.now (ledgers_of c.args.rows.now.ledgers.now) in
    let rule = c.args.rule.now in
    record {
      value = perform-extends (g.B.Base.meaning c.args.rows.now.base.now) s (facts_of rule.needs) rule.effect (Adds c.in-Adds.field-0) c.in-Adds.is
          (length c.args.heads.now) c.requires.heads c.requires.fit c.args.self.now.few c.in_ok-new.new c.in_ok-new.ensures refl;
      counted = omega arith;
    }

pub returns-in-AddsFresh : goal.returns-in-AddsFresh
returns-in-AddsFresh g c =
    let s = state_of c.args.self.now (ledgers_of c.args.rows.now.ledgers.now) in
    let rule = c.args.rule.now in
    record {
      value = perform-extends (g.B.Base.meaning c.args.rows.now.base.now) s (facts_of rule.needs) rule.effect (AddsFresh c.in-AddsFresh.field-0) c.in-AddsFresh.is
          (length c.args.heads.now) c.requires.heads c.requires.fit c.args.self.now.few c.in_ok-new.new c.in_ok-new.ensures refl;
      counted = omega arith;
    }

pub returns-in-Splits : goal.returns-in-Splits
returns-in-Splits g c =
    let s = state_of c.args.self.now (ledgers_of c.args.rows.now.ledgers.now) in
    let rule = c.args.rule.now in
    let a = c.in-Splits in
    record {
      value = perform-extends (g.B.Base.meaning c.args.rows.now.base.now) s (facts_of rule.needs) rule.effect (Splits a.left a.right a.individual) a.is
          (length c.args.heads.now) c.requires.heads c.requires.fit c.args.self.now.few c.in_ok-new.new c.in_ok-new.ensures refl;
      counted = omega arith;
    }

pub returns-in_err-new : goal.returns-in_err-new
returns-in_err-new g c =
    let s = state_of c.args.self.now (ledgers_of c.args.rows.now.ledgers.now) in
    let f = c.in_err-new.field-0.0 in
    let told : c.from_residual.result ≡ Err f = search rules in
    record {
      value = ap (performed s) told
          ∙ perform-refused (g.B.Base.meaning c.args.rows.now.base.now) s (rule_of c.args.rule.now) (length c.args.heads.now) c.requires.heads c.requires.fit c.args.self.now.few f c.in_err-new.ensures;
      counted = rw told tt;
    }

pub returns-in-Closes : goal.returns-in-Closes
returns-in-Closes g c =
    let m = g.B.Base.meaning c.args.rows.now.base.now in
    let s = state_of c.args.self.now (ledgers_of c.args.rows.now.ledgers.now) in
    let rule = c.args.rule.now in
    record {
      value = perform-closes m s (facts_of rule.needs) rule.effect Closes c.in-Closes.is
          (length c.args.heads.now) c.requires.heads c.requires.fit c.args.self.now.few c.in_ok-new.new c.in_ok-new.ensures
          _ c.end_branch.ensures refl;
      counted = omega arith;
    }
