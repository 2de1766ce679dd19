use Rattle.std.proofs.Common.{◌≡◌, ◌++◌}
use Rattle.std.specs.Slice.Iter.{chunks_rest, chunks_size}
use Rattle.listing_out.specs.Lines.{payload_lines, text_of}
use Rattle.listing_out.proofs.payload.put_payload.Given as goal

abbrev pub invariant-loop-row : goal.invariant-loop-row
invariant-loop-row l =
    (goal.iterator-loop-row).can_next l.row-iterator
    × (goal.iterator-loop-row).is_finite l.row-iterator
    × (chunks_size l.row-iterator ≡ 32)
    × (l.out.items ++ text_of (payload_lines (chunks_rest l.row-iterator)) ≡ l.initial.out.items ++ text_of (payload_lines l.payload))
