-- Where pairs or values are over, nothing is left to push.
use Rattle.std.proofs.Common.{◌++◌, sym, ap, ◌∙◌, append-nil}
use Rattle.std.proofs.lemmas.Slice.Zip.{either_empty_from_Zip}
use Rattle.std.specs.Iterator.Adapters.{zip_first, zip_second}
use Rattle.std.specs.Slice.Iter.{iter_rest}
use Rattle.table.specs.FactLists.{facts_of}
use Rattle.table.proofs.SharingLaws.{sharing-over}
use Rattle.table.proofs.key.share.Goals as goal

pub returns : goal.returns
returns c =
    let it = c.loop-pair.pair-iterator in
    let over = either_empty_from_Zip it c.next.new.self c.next.result c.in-None.is c.next.ensures.steps in
    sym (append-nil (facts_of c.loop-pair.needs))
    ∙ ap (λ l. facts_of c.loop-pair.needs ++ l) (sym (sharing-over c.args.x c.args.y (iter_rest (zip_first it)) (iter_rest (zip_second it)) over))
    ∙ c.loop-pair.invariant.1
