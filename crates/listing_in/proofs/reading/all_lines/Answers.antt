use Rattle.std.proofs.Common.{ℕ, List, length, ap, arith}
use Rattle.listing_in.specs.Reading.{after_lines, next_raw, numbered}
use Rattle.listing_in.specs.State.{Start}
use Rattle.listing_in.proofs.Loops.{parts_few}
use Rattle.listing_in.proofs.reading.all_lines.Goals as goal

pub lines-init : goal.lines-init
lines-init c =
    let count = ap length c.new-lines.ensures in
    record {
      read = ap (λ (lines : List (List ℕ)). after_lines next_raw numbered 1 Start lines) c.new-lines.ensures;
      fits = omega (arith, count, parts_few 10 c.args.s.now);
    }
