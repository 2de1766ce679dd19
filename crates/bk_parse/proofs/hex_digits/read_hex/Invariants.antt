use Rattle.std.proofs.Common.{◌≡◌, ◌++◌, option_map}
use Rattle.std.specs.Result.{result_ok}
use Rattle.std.specs.Slice.Iter.{chunks_rest, chunks_size}
use Rattle.hex.specs.Hex.{decode_of}
use Rattle.bk_parse.proofs.hex_digits.read_hex.Given as goal

abbrev pub invariant-loop-row : goal.invariant-loop-row
invariant-loop-row l =
    (goal.iterator-loop-row).can_next l.row-iterator
    × (goal.iterator-loop-row).is_finite l.row-iterator
    × (chunks_size l.row-iterator ≡ 64)
    × (option_map (λ bytes. l.out.items ++ bytes) (result_ok (decode_of (chunks_rest l.row-iterator))) ≡ option_map (λ bytes. l.initial.out.items ++ bytes) (result_ok (decode_of l.digits)))
