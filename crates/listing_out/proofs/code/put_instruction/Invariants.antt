use Rattle.std.proofs.Common.{◌≡◌, ◌++◌, codes, take}
use Rattle.std.specs.List.{flat_map}
use Rattle.operand_text.specs.Operand.{operand_text}
use Rattle.listing_out.proofs.code.put_instruction.Given as goal

abbrev pub invariant-loop-operand : goal.invariant-loop-operand
invariant-loop-operand l = l.out.items ≡ l.initial.out.items ++ flat_map (λ o. codes " " ++ operand_text o) (take l.operand-index l.operand-items)
