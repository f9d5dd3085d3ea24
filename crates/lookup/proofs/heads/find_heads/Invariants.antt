-- The heads are those of the rows read.
use Rattle.std.proofs.Common.{◌≡◌, ℕ, take}
use Rattle.calculus.specs.Branches.{head_of}
use Rattle.lookup.specs.Heads.{head_in}
use Rattle.lookup.proofs.heads.find_heads.Given as goal

abbrev pub invariant-loop-row : goal.invariant-loop-row
invariant-loop-row l = (x : ℕ) → head_of (take l.row-index l.pairs) x ≡ head_in l.heads x
