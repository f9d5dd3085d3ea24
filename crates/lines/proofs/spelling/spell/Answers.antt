use Rattle.std.proofs.Common.{◌≤◌, length, get_or, ap, arith, lit<}
use Rattle.std.proofs.lemmas.List.{length_push}
use Rattle.std.proofs.lemmas.Str.{encode_ascii}
use Rattle.lines.proofs.SpellLaws.{decimal_size, spelled-size, typed_small}
use Rattle.lines.proofs.spelling.spell.Goals as goal

pub push-requires-in-loop-n : goal.push-requires-in-loop-n
push-requires-in-loop-n c =
    let ns = c.args.numbers.now in
    let size = spelled-size c.args.letter ns c.loop-n.n-index (typed_small ns c.type_inv.numbers) in
    (lit< tt, omega (arith, c.requires.few, c.loop-n-test.true, size, ap length c.loop-n.invariant, ap length (encode_ascii 32 (omega arith))))

pub push_str-requires : goal.push_str-requires
push_str-requires c =
    let ns = c.args.numbers.now in
    let i = c.loop-n.n-index in
    let size = spelled-size c.args.letter ns i (typed_small ns c.type_inv.numbers) in
    let small : get_or ns i 0 ≤ 65535 = omega (arith, (c.type_inv.numbers i).fits) in
    let digits : length c.format.result.now ≤ 5 = omega (arith, ap length c.format.ensures.text, decimal_size (get_or ns i 0) small) in
    let space = length_push c.loop-n.text.bytes 32 in
    (lit< tt, omega (arith, c.requires.few, c.loop-n-test.true, size, digits, space, ap length c.loop-n.invariant, ap length (c.push-in-loop-n.ensures.ascii (omega arith))))

pub push-requires-2 : goal.push-requires-2
push-requires-2 c =
    let ns = c.args.numbers.now in
    let size = spelled-size c.args.letter ns c.loop-n.n-index (typed_small ns c.type_inv.numbers) in
    (lit< tt, omega (arith, c.requires.few, c.loop-n.auto.n-index-end, size, ap length c.loop-n.invariant, ap length (encode_ascii 10 (omega arith))))

pub returns-clause-small : goal.returns-clause-small
returns-clause-small c = typed_small c.args.numbers.now c.type_inv.numbers
