use Rattle.std.proofs.Common.{Err}
use Rattle.kb.specs.declared.fault.BaseFault.TheVariants.{Size}
use Rattle.kb.proofs.CheckLaws.{checked_means, checked_rows_lem, checked_size}
use Rattle.kb.proofs.check.check_base.Goals as goal

pub returns-then-accepted : goal.returns-then-accepted
returns-then-accepted g c =
    let m = g.B.Base.meaning c.args.base.now in
    let e = checked_rows_lem m c.counts-counts.result c.check_rows.result c.counts-counts.ensures c.if-accepted.ensures c.check_rows.ensures in
    record { value = e; means = checked_means m c.check_rows.result e }

pub returns-else-accepted : goal.returns-else-accepted
returns-else-accepted g c =
    let m = g.B.Base.meaning c.args.base.now in
    let e = checked_size m c.counts-counts.result c.counts-counts.ensures c.if-accepted.ensures in
    record { value = e; means = checked_means m (Err Size) e }
