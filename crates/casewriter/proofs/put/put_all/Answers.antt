use Rattle.std.proofs.Common.{◌≡◌, ℕ, ◌*◌, ◌/◌, ◌%◌, List, [], ◌∷◌, length, get_or, take, sym, ap, ◌∙◌, arith, length-take}
use Rattle.casewriter.specs.Encoding.{bytes_of, two_bytes}
use Rattle.casewriter.specs.Writing.{over}
use Rattle.casewriter.proofs.ByteLaws.{joined-take, length-bytes}
use Rattle.casewriter.proofs.Overwriting.{over-next}
use Rattle.casewriter.proofs.put.put_all.Goals as goal

pub loop-k-preserved : goal.loop-k-preserved
loop-k-preserved c =
    let ns = c.args.ns.now in
    let k = c.loop-k.k in
    let n = get_or ns k 0 in
    let long : length (bytes_of (take k ns)) ≡ 2 * k = length-bytes (take k ns) ∙ simp length-take (omega arith) in
    let high : n / 256 % 256 ≡ n / 256 = omega (arith, c.type_inv.ns k) in
    let bytes : c.copy_from_slice.new.self ≡ two_bytes n = c.copy_from_slice.ensures.after ∙ c.to_be_bytes.ensures ∙ ap (λ (h : ℕ). h ∷ n % 256 ∷ []) high in
    over-next c.args.out.now (bytes_of (take k ns)) (two_bytes n) c.loop-k.out c.copy_from_slice.new.self (2 * k) _ long c.loop-k.invariant bytes (omega arith)
    ∙ ap (λ (bs : List ℕ). over bs c.args.out.now) (sym (joined-take two_bytes ns k 0 c.loop-k-test.true))

pub returns-clause-size : goal.returns-clause-size
returns-clause-size c = sym (length-bytes c.args.ns.now)
