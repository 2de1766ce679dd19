use Rattle.std.proofs.Common.{rules, ◌≡◌, ◌≤◌, false, ltb, length, ap, refl, arith}
use Rattle.std.proofs.lemmas.Bool.{le-ltb}
use Rattle.byteorder.specs.Numbers.{big_from-take}
use Rattle.ext_term.proofs.parts.number.Goals as goal

pub returns-clause-read : goal.returns-clause-read
returns-clause-read c =
    let some = rw c.in_ok-bytes.ensures.ok_part at c.take.ensures.some in
    let moves = rw c.in_ok-bytes.ensures.ok_part at c.take.ensures.moves in
    let long : c.args.n ≤ length c.args.cur.now.rest = search rules in
    let enough : ltb (length c.args.cur.now.rest) c.args.n ≡ false = le-ltb _ _ long in
    rw (enough, ap (λ p. p.rest) moves, rw some at c.read_uint.ensures, big_from-take 0 c.args.n c.args.n c.args.cur.now.rest (omega arith)) refl
