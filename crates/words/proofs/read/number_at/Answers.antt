use Rattle.std.proofs.Common.{drop, Ok, Err, sym, ap, ◌∙◌}
use Rattle.std.proofs.lemmas.Result.{err_from_is_err_and}
use Rattle.words.specs.Fronts.{sized}
use Rattle.words.specs.Words.{seen}
use Rattle.words.proofs.NumeralLaws.{read_at}
use Rattle.words.proofs.WordLaws.{number_by_word, number_no_word}
use Rattle.words.proofs.read.number_at.Goals as goal

pub returns-in_err-word : goal.returns-in_err-word
returns-in_err-word c =
    let p = err_from_is_err_and c.from_residual.result c.from_residual.ensures.1 in
    let e = number_no_word (drop c.args.at c.args.text.now) c.args.at c.in_err-word.field-0.0 (sym c.in_err-word.ensures) in
    let a = read_at c.args.text.now c.args.at c.from_residual.result (e ∙ sym (p.1 ∙ ap Err p.2)) in
    record { value = a.value; within = a.within; means = a.means }

pub returns-in_err-value : goal.returns-in_err-value
returns-in_err-value c =
    let p = err_from_is_err_and c.from_residual-in_err-value.result c.from_residual-in_err-value.ensures.1 in
    let e = number_by_word (drop c.args.at c.args.text.now) c.args.at (seen c.in_ok-word.word) (sym c.in_ok-word.ensures) in
    let a =
    read_at c.args.text.now c.args.at c.from_residual-in_err-value.result
    (e ∙ ap (sized _) (sym c.in_err-value.ensures) ∙ sym (p.1 ∙ ap Err p.2)) in
    record { value = a.value; within = a.within; means = a.means }

pub returns : goal.returns
returns c =
    let e = number_by_word (drop c.args.at c.args.text.now) c.args.at (seen c.in_ok-word.word) (sym c.in_ok-word.ensures) in
    let a =
    read_at c.args.text.now c.args.at (Ok (record { value = c.in_ok-value.value; size = c.size.result }))
    (e ∙ ap (sized _) (sym c.in_ok-value.ensures) ∙ ap (λ k. sized k (Ok c.in_ok-value.value)) (sym c.size.ensures)) in
    record { value = a.value; within = a.within; means = a.means }
