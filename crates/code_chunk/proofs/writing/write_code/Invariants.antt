use Rattle.std.proofs.Common.{◌≡◌, ◌++◌, take}
use Rattle.std.specs.List.{flat_map}
use Rattle.code_chunk.specs.Canonical.{canonical_instr}
use Rattle.code_chunk.proofs.writing.write_code.Given as goal

abbrev pub invariant-loop-instr : goal.invariant-loop-instr
invariant-loop-instr l = l.payload.items ≡ l.initial.payload.items ++ flat_map canonical_instr (take l.instr-index l.instr-items)
