-- What `find` answers over the places at or after the one given is the first place alike.
use Rattle.std.proofs.Common.{rules, true, false}
use Rattle.std.proofs.lemmas.Iterator.{first_from_Range}
use Rattle.ledger.proofs.FirstLaws.{Tested, first_alike-found}
use Rattle.ledger.proofs.first_alike.Goals as goal

pub returns : goal.returns
returns g c =
    let alike = g.T.Alike.alike in
    let xs = c.args.rows.now in
    let x = c.args.row.now in
    first_alike-found alike g.T.Alike.reflexive xs c.args.from x c.find.result
    (first_from_Range _ _ _ c.find.result (Tested alike xs x true) (Tested alike xs x false) c.find.ensures.ran
    (λ k q h. search rules) (λ k q h. search rules))
