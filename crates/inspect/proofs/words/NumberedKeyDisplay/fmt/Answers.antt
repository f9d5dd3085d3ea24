use Rattle.std.proofs.Common.{sym, refl, ap}
use Rattle.std.proofs.Output.{has_written_append, has_written_of_eq}
use Rattle.inspect.specs.Words.{key_line}
use Rattle.inspect.proofs.words.NumberedKeyDisplay.fmt.Goals as goal

pub returns-in_ok-fmt-in-Link-clause-writes : goal.returns-in_ok-fmt-in-Link-clause-writes
returns-in_ok-fmt-in-Link-clause-writes g c = λ p ok.
    let classes = c.in_ok-write-in-Link.ensures.writes p refl in
    let pairs = has_written_append _ _ _ _ _ _ classes (c.in_ok-fmt-in-Link.ensures.writes classes.plain refl) in
    let line = has_written_append _ _ _ _ _ _ pairs (c.write-in-Link.ensures.writes pairs.plain ok) in
    has_written_of_eq _ _ _ _ _ (ap (key_line c.args.self.now.0) (sym c.in-Link.is)) line
