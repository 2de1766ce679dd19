use Rattle.std.proofs.Common.{◌≡◌, ◌-◌}
use Rattle.bk_codec.proofs.Loop.{with_front}
use Rattle.side_tables.specs.LineReading.{places_at}
use Rattle.side_tables.proofs.line_reading.places.Given as goal

abbrev pub invariant-loop : goal.invariant-loop
invariant-loop l =
    with_front l.places (places_at l.files (l.count - l.counter) l.file l.items.item l.items.rest) ≡ places_at l.files l.count 0 l.fn.items.item l.fn.items.rest
