use Rattle.std.proofs.Common.{◌≡◌, ◌++◌, take}
use Rattle.std.specs.List.{flat_map}
use Rattle.ext_term.specs.Writing.{spelling, pair_bytes}
use Rattle.ext_term.proofs.writing.+writing.Given as goal

abbrev pub invariant-put_terms-loop-t : goal.invariant-put_terms-loop-t
invariant-put_terms-loop-t l = l.out.items ≡ l.fn.out.items ++ flat_map spelling (take l.t-index l.items)

abbrev pub invariant-put_pairs-loop-key : goal.invariant-put_pairs-loop-key
invariant-put_pairs-loop-key l = l.out.items ≡ l.fn.out.items ++ flat_map pair_bytes (take l.key-index l.pairs)
