-- The row appended stands behind the last row.
use Rattle.std.proofs.Common.{length, take, refl, ap, ◌∙◌}
use Rattle.std.proofs.lemmas.List.{take_more_set}
use Rattle.rows.specs.Rows.{row_at}
use Rattle.ledger.specs.Books.{book}
use Rattle.ledger.proofs.BookLaws.{row_at-push}
use Rattle.ledger.proofs.Ledger.append.Goals as goal

pub returns-then-self-clause-means : goal.returns-then-self-clause-means
unfolding book
returns-then-self-clause-means g c =
    let n = c.args.self.now.len in
    let xs = c.args.self.now.slots.now in
    let x = c.args.row in
    record {
      room = c.if-self.true;
      slots = refl;
      len = refl;
      place = ap (λ ys. row_at ys (length (take n xs))) (take_more_set xs n x c.if-self.true) ∙ row_at-push (take n xs) x;
    }
