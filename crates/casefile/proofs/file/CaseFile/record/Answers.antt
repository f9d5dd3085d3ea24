use Rattle.std.proofs.Common.{rules, ◌≡◌, ◌+◌, slice_index, refl, sym, ◌∙◌, arith}
use Rattle.std.proofs.lemmas.List.{get_or-drop}
use Rattle.casefile.specs.Numbers.{numbers}
use Rattle.casefile.proofs.FileLaws.{each_told}
use Rattle.casefile.proofs.file.CaseFile.record.Goals as goal

pub returns : goal.returns
returns g c j h =
    let ns = numbers c.args.self.now.bytes.now in
    each_told _ (λ j y. y ≡ slice_index ns (c.args.at + j)) _ (λ p q i y e called. (search rules, search rules)) _ refl c.from_fn.result g.row.N 0 c.from_fn.ensures.items.each j (omega arith) (omega arith)
    ∙ sym (get_or-drop c.args.at ns j 0)
