use Rattle.std.proofs.Common.{◌++◌, refl, ap}
use Rattle.std.proofs.Output.{has_written_append, has_written_of_eq}
use Rattle.kb.specs.declared.fault.RowList.TheVariants.{Entries, Assertions, Inclusions, Keys}
use Rattle.inspect.specs.Lists.{count_lines, list_text}
use Rattle.inspect.proofs.lists.ContentsDisplay.fmt.Goals as goal

pub returns-clause-writes : goal.returns-clause-writes
returns-clause-writes g c = λ p ok.
    let m = g.B.Base.meaning c.args.self.now.0.now in
    let counts = c.in_ok-fmt.ensures.writes p refl in
    let entries = has_written_append _ _ _ _ _ _ counts (c.in_ok-fmt-2.ensures.writes counts.plain refl) in
    let assertions = has_written_append _ _ _ _ _ _ entries (c.in_ok-fmt-3.ensures.writes entries.plain refl) in
    let inclusions = has_written_append _ _ _ _ _ _ assertions (c.in_ok-fmt-4.ensures.writes assertions.plain refl) in
    let keys = has_written_append _ _ _ _ _ _ inclusions (c.fmt-5.ensures.writes inclusions.plain ok) in
    has_written_of_eq _ _ _ _ _
    (ap (λ n. count_lines n ++ list_text m Entries ++ list_text m Assertions ++ list_text m Inclusions ++ list_text m Keys) c.counts.ensures)
    keys
