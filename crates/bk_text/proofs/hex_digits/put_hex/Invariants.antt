use Rattle.std.proofs.Common.{◌≡◌, ◌++◌}
use Rattle.std.specs.Slice.Iter.{chunks_rest, chunks_size}
use Rattle.hex.specs.Hex.{encode_lower}
use Rattle.bk_text.proofs.hex_digits.put_hex.Given as goal

abbrev pub invariant-loop-row : goal.invariant-loop-row
invariant-loop-row l =
    (goal.iterator-loop-row).can_next l.row-iterator
    × (goal.iterator-loop-row).is_finite l.row-iterator
    × (chunks_size l.row-iterator ≡ 32)
    × (l.out.items ++ encode_lower (chunks_rest l.row-iterator) ≡ l.initial.out.items ++ encode_lower l.bytes)
