use Rattle.std.proofs.Common.{ℕ, ◌<◌, ◌≤◌, length, Ok, sym, subst, arith}
use Rattle.casewriter.specs.Encoding.{case_bytes}
use Rattle.casewriter.proofs.RoundTrip.{size_is}
use Rattle.casewriter.proofs.WriteLaws.{Answered, short, wrote}
use Rattle.casewriter.proofs.writer.write_case.Goals as goal

pub put_case-requires : goal.put_case-requires
put_case-requires g c =
    let m = g.B.Base.meaning c.args.base.now in
    let n = c.in_ok-counts.counts in
    let e = (c.check_base.ensures.means.accepts n c.in_ok-counts.was).0 in
    omega (arith, size_is m n c.case_size.result e c.case_size.ensures)

pub returns-then-case_size-buffer : goal.returns-then-case_size-buffer
returns-then-case_size-buffer g c =
    let m = g.B.Base.meaning c.args.base.now in
    let n = c.in_ok-counts.counts in
    let before = c.args.buffer.now in
    let after = c.put_case.new.buffer in
    let e = (c.check_base.ensures.means.accepts n c.in_ok-counts.was).0 in
    let h : length (case_bytes m) ≤ length before = omega (arith, size_is m n c.case_size.result e c.case_size.ensures) in
    let w = wrote m before n after (sym c.in_ok-counts.ensures.value) (g.B.Base.owed c.args.base.now) h c.put_case.ensures.bytes in
    let a = subst (λ (k : ℕ). Answered m before (Ok k) after) (sym c.put_case.ensures.size) w in
    record { value = a.value; bytes = a.bytes; means = a.means }

pub returns-else-case_size-buffer : goal.returns-else-case_size-buffer
returns-else-case_size-buffer g c =
    let m = g.B.Base.meaning c.args.base.now in
    let n = c.in_ok-counts.counts in
    let before = c.args.buffer.now in
    let e = (c.check_base.ensures.means.accepts n c.in_ok-counts.was).0 in
    let h : length before < length (case_bytes m) = omega (arith, size_is m n c.case_size.result e c.case_size.ensures) in
    let a = short m before n (sym c.in_ok-counts.ensures.value) h in
    record { value = a.value; bytes = a.bytes; means = a.means }
