use Rattle.std.proofs.Common.{◌≡◌, ◌+◌, length, take}
use Rattle.std.specs.List.{flat_map}
use Rattle.compact_term.specs.Canonical.{canonical}
use Rattle.code_chunk.proofs.writing.instr_len.Given as goal

abbrev pub invariant-loop-operand : goal.invariant-loop-operand
invariant-loop-operand l = l.len ≡ 1 + length (flat_map canonical (take l.operand-index l.operand-items))
