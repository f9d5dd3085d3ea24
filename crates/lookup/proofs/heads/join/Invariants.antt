-- The heads below the place reached are joined, and the others are as they were.
use Rattle.std.proofs.Common.{◌≡◌, ◌++◌, map, take, drop}
use Rattle.calculus.specs.Branches.{merged}
use Rattle.lookup.proofs.heads.join.Given as goal

abbrev pub invariant-loop-head : goal.invariant-loop-head
invariant-loop-head l = l.heads ≡ map (merged l.u l.v) (take l.head-index l.initial.heads) ++ drop l.head-index l.initial.heads
