use Rattle.std.proofs.Common.{◌≡◌, ◌-◌, min, length, arith}
use Rattle.inventory.proofs.RecordLaws.{listed_meaning}
use Rattle.inventory.proofs.contents.Inventory.new.Goals as goal

pub returns : goal.returns
returns c =
    let es = c.args.lexicon.now in
    let k : c.min.result - 0 ≡ min 65535 (length es) = omega arith in
    listed_meaning es c.args.roles c.args.columns c.args.records.now c.args.values (c.min.result - 0) c.if-not-is_listed.ensures k
