use Rattle.std.proofs.Common.{ap, ◌∙◌, sym, refl, get_or, take, []}
use Rattle.std.specs.List.{flat_map}
use Rattle.std.proofs.lemmas.List.{flat_map_more, take_all, take_more}
use Rattle.std.proofs.Output.{has_written_append, has_written_of_eq}
use Rattle.kb.specs.declared.axioms.RolePair.{RolePair}
use Rattle.inspect.specs.Words.{pair_words}
use Rattle.inspect.proofs.PairWords.{pairs_are}
use Rattle.inspect.proofs.words.PairsDisplay.fmt.Goals as goal

pub loop-pair-preserved : goal.loop-pair-preserved
loop-pair-preserved g c = λ p.
    let pairs = c.as_slice-pair-items.result.now in
    let i = c.loop-pair.pair-index in
    let none : RolePair = record { left = record { 0 = 0 }; right = record { 0 = 0 } } in
    let so_far = c.loop-pair.invariant p in
    has_written_of_eq _ _ _ _ _
    (flat_map_more pair_words [] (take i pairs) (get_or pairs i none) ∙ ap (flat_map pair_words) (sym (take_more pairs i none c.loop-pair-test.true)))
    (has_written_append _ _ _ _ _ _ so_far (c.in_ok-write.ensures.writes so_far.plain refl))

pub returns-clause-writes : goal.returns-clause-writes
returns-clause-writes g c = λ p ok.
    let all = take_all c.loop-pair.pair-index c.as_slice-pair-items.result.now c.loop-pair-test.false in
    has_written_of_eq _ _ _ _ _
    (ap (flat_map pair_words) (all ∙ c.as_slice-pair-items.ensures.value ∙ c.list-pairs.ensures) ∙ pairs_are c.args.self.now.0)
    (c.loop-pair.invariant p)
