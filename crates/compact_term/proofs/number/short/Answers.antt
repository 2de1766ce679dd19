use Rattle.std.proofs.Common.{rules, ◌+◌, ◌≤◌, SFits, length, arith, ap, ◌∙◌}
use Rattle.std.specs.Int.{w64}
use Rattle.compact_term.proofs.Taken.{number_taken, in_few_bytes}
use Rattle.compact_term.proofs.number.short.Goals as goal

pub returns : goal.returns
returns c =
    let some = rw c.in_ok-bytes.ensures.ok_part at c.take.ensures.some in
    let moves = rw c.in_ok-bytes.ensures.ok_part at c.take.ensures.moves in
    let long : c.from-n.result + 2 ≤ length c.args.cur.now.rest = search rules in
    let fits : SFits w64 c.read_int.result = search rules in
    in_few_bytes c.args.first (c.from-n.result + 2) c.args.cur.now.rest c.if-first-eq0.false c.if-first-eq0-2.false (omega arith)
    ∙ number_taken _ w64 (c.from-n.result + 2) c.args.cur.now.rest c.take.new.self.rest c.read_int.result long fits
    (rw (← some) c.read_int.ensures) (ap (λ p. p.rest) moves)
