-- What the four ledgers of a sheet hold.
use Rattle.ledger.specs.Books.{book}
use Rattle.calculus.specs.States.{Ledgers}
use Rattle.ledgers.specs.declared.Ledgers.{Ledgers as LentLedgers}

-- Each ledger's rows and free slots.
abbrev pub ledgers_of : LentLedgers → Ledgers
ledgers_of l = record { concepts = book l.concepts; roles = book l.roles; pairs = book l.pairs; pending = book l.pending }
