-- Each individual below the place reached is its own head.
use Rattle.std.proofs.Common.{◌≡◌, ℕ, ◌<◌}
use Rattle.lookup.specs.Heads.{head_in}
use Rattle.lookup.proofs.heads.reset.Given as goal

abbrev pub invariant-loop-i : goal.invariant-loop-i
invariant-loop-i l = (k : ℕ) → k < l.i → head_in l.heads k ≡ k
