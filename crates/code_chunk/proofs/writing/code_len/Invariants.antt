use Rattle.std.proofs.Common.{◌≡◌, ◌+◌, length, take}
use Rattle.std.specs.List.{flat_map}
use Rattle.code_chunk.specs.Canonical.{canonical_instr}
use Rattle.code_chunk.proofs.writing.code_len.Given as goal

abbrev pub invariant-loop-instr : goal.invariant-loop-instr
invariant-loop-instr l = l.len ≡ l.initial.len + length (flat_map canonical_instr (take l.instr-index l.instr-items))
