-- A cut back moves the place at which the slots are divided.
use Rattle.std.proofs.Common.{arith}
use Rattle.ledger.specs.Books.{book}
use Rattle.ledger.proofs.BookLaws.{cut_below}
use Rattle.ledger.proofs.Ledger.cut_back.Goals as goal

pub returns-then-n-count-clause-value : goal.returns-then-n-count-clause-value
unfolding book
returns-then-n-count-clause-value g c = cut_below c.args.self.now.slots.now c.args.self.now.len c.args.n (omega arith)
