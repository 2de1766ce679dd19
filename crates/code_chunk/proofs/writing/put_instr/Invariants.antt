use Rattle.std.proofs.Common.{◌≡◌, ◌++◌, take}
use Rattle.std.specs.List.{flat_map}
use Rattle.compact_term.specs.Canonical.{canonical}
use Rattle.code_chunk.proofs.writing.put_instr.Given as goal

abbrev pub invariant-loop-operand : goal.invariant-loop-operand
invariant-loop-operand l = l.out.items ≡ l.initial.out.items ++ flat_map canonical (take l.operand-index l.operand-items)
