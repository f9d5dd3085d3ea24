use Rattle.std.specs.Fmt.{HasWritten, IsPlainFormatter}
use Rattle.inspect.specs.Lists.{row_text, text_below}
use Rattle.inspect.proofs.lists.RowsDisplay.fmt.Given as goal

abbrev pub invariant-loop-k : goal.invariant-loop-k
invariant-loop-k g l =
    IsPlainFormatter l.initial.f → HasWritten g.W.Write.write_str_gives l.initial.f (text_below (row_text (g.B.Base.meaning l.base) l.list) l.k) l.f
