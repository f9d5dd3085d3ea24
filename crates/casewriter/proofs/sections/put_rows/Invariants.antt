use Rattle.std.proofs.Common.{◌≡◌, ◌≤◌, length}
use Rattle.casewriter.specs.Encoding.{bytes_of}
use Rattle.casewriter.specs.Writing.{over}
use Rattle.casewriter.proofs.SectionLaws.{first_rows}
use Rattle.casewriter.proofs.sections.put_rows.Given as goal

abbrev pub invariant-loop-k : goal.invariant-loop-k
invariant-loop-k g l =
    let done = bytes_of (first_rows (g.B.Base.meaning l.base) l.list l.k) in
    (l.at ≡ length done) × (l.at ≤ length l.out) × (l.out ≡ over done l.initial.out)
