use Rattle.std.proofs.Common.{◌≡◌, ◌∷◌, ◌++◌, length, take}
use Rattle.std.specs.List.{flat_map}
use Rattle.byteorder.specs.Endian.{big_bytes}
use Rattle.ext_term.specs.Writing.{byte_list, term_written}
use Rattle.ext_term.proofs.writing.put_string.Given as goal

abbrev pub invariant-loop-t : goal.invariant-loop-t
invariant-loop-t l = l.out.items ≡ (l.fn.out.items ++ 107 ∷ big_bytes 2 (length l.items)) ++ flat_map (λ t. byte_list (term_written t).byte) (take l.t-index l.items)
