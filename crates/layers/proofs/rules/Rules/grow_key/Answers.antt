use Rattle.std.proofs.Common.{Err, ap, ◌∙◌, rules}
use Rattle.std.proofs.lemmas.Result.{err_from_is_err_and}
use Rattle.layers.proofs.GrowingLaws.{refill-set, full_key, grown_key}
use Rattle.layers.proofs.rules.Rules.grow_key.Goals as goal

pub returns-in_err-pairs-clause-keys : goal.returns-in_err-pairs-clause-keys
returns-in_err-pairs-clause-keys g c =
    let r = c.from_residual-in_err-pairs.result in
    let p = err_from_is_err_and r c.from_residual-in_err-pairs.ensures.1 in
    full_key c.args.pair c.args.self.now.keys.items c.args.number c.in_ok-key.key c.in_err-pairs.field-0.0 r (search rules) (search rules) (p.1 ∙ ap Err p.2)

pub returns-clause-keys : goal.returns-clause-keys
returns-clause-keys g c =
    grown_key c.args.pair c.args.self.now.keys.items c.args.number c.in_ok-key.key c.in_ok-pairs.pairs _ (search rules) (search rules) (search (rules, refill-set))
