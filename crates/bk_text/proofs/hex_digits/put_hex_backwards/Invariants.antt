use Rattle.std.proofs.Common.{◌≡◌, ◌++◌, reverse}
use Rattle.hex.specs.Hex.{encode_lower}
use Rattle.bk_text.proofs.hex_digits.put_hex_backwards.Given as goal

abbrev pub invariant-loop-b : goal.invariant-loop-b
invariant-loop-b l = l.out.items ++ encode_lower (reverse l.b-iterator.iter.rest.now) ≡ l.initial.out.items ++ encode_lower (reverse l.bytes)
