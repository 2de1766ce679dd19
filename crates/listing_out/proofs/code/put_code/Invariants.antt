use Rattle.std.proofs.Common.{◌≡◌, ◌++◌, codes, take}
use Rattle.std.specs.List.{flat_map}
use Rattle.listing_out.specs.Comments.{commented_instruction}
use Rattle.listing_out.proofs.code.put_code.Given as goal

abbrev pub invariant-loop-instr : goal.invariant-loop-instr
invariant-loop-instr l = l.out.items ≡ l.initial.out.items ++ flat_map (λ i. commented_instruction l.names i ++ codes "\n") (take l.instr-index l.instr-items)
