use Rattle.std.proofs.Common.{rules, ◌≤◌, SFits, length, ap}
use Rattle.std.specs.Int.{w128}
use Rattle.compact_term.proofs.Taken.{number_taken}
use Rattle.compact_term.proofs.number.long.Goals as goal

pub returns : goal.returns
returns c =
    let some = rw c.in_ok-bytes.ensures.ok_part at c.take.ensures.some in
    let moves = rw c.in_ok-bytes.ensures.ok_part at c.take.ensures.moves in
    let long : c.args.n ≤ length c.args.cur.now.rest = search rules in
    let fits : SFits w128 c.read_int128.result = search rules in
    number_taken _ w128 c.args.n c.args.cur.now.rest c.take.new.self.rest c.read_int128.result long fits
    (rw (← some) c.read_int128.ensures) (ap (λ p. p.rest) moves)
