use Rattle.std.proofs.Common.{◌≡◌, take}
use Rattle.casewriter.specs.Encoding.{bytes_of}
use Rattle.casewriter.specs.Writing.{over}
use Rattle.casewriter.proofs.put.put_all.Given as goal

abbrev pub invariant-loop-k : goal.invariant-loop-k
invariant-loop-k l = l.out ≡ over (bytes_of (take l.k l.ns)) l.initial.out
