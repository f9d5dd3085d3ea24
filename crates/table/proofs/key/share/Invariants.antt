-- What was pushed, and what the pairs that are left will push, make the whole.
use Rattle.std.proofs.Common.{◌≡◌, ◌+◌, ◌*◌, ◌≤◌, ◌++◌, length}
use Rattle.std.specs.Iterator.Adapters.{zip_first, zip_second}
use Rattle.std.specs.Slice.Iter.{iter_rest}
use Rattle.calculus.specs.Table.{sharing}
use Rattle.table.specs.FactLists.{facts_of}
use Rattle.table.proofs.key.share.Given as goal

abbrev pub invariant-loop-pair : goal.invariant-loop-pair
invariant-loop-pair l =
    let ps = iter_rest (zip_first l.pair-iterator) in
    let zs = iter_rest (zip_second l.pair-iterator) in
    (length (facts_of l.needs) + 2 * length ps ≤ 10)
    × (facts_of l.needs ++ sharing l.x l.y ps zs ≡ facts_of l.initial.needs ++ sharing l.x l.y l.pairs l.zs)
