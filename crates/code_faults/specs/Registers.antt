-- How many X registers a function has.
use Rattle.std.specs.Prelude.{ℕ, ◌+◌, max, nat_lt, Bool, true, List, [], ◌∷◌}
use Rattle.std.specs.List.{flat_map}
use Rattle.compact_term.specs.declared.operand.Reg.{Reg}
use Rattle.compact_term.specs.declared.operand.Reg.TheVariants as regs
use Rattle.op_table.specs.Instruction.{Instruction}
use Rattle.op_table.specs.Table.{roles_of}
use Rattle.op_table.specs.Rules.{named}
use Rattle.func_split.specs.Functions.{Piece}

-- so many registers that this one is among them
abbrev pub raised : ℕ → Reg → ℕ
raised x (regs.X n) = max x (n + 1)
raised x (regs.Y n) = x

abbrev pub raised_by : ℕ → List Reg → ℕ
raised_by x [] = x
raised_by x (r ∷ rs) = raised_by (raised x r) rs

-- the registers that the operands of the instructions name
abbrev pub named_in : List Instruction → List Reg
named_in instrs = flat_map (λ i. named (roles_of i.op) i.operands) instrs

-- those that operands name, the arguments, and the three that a handler of a failure finds
abbrev pub x_bound : Piece → ℕ
x_bound f = raised_by (max 3 f.arity) (named_in f.instrs)

-- the register is a slot, or one of so many X registers
abbrev pub is_within : ℕ → Reg → Bool
is_within bound (regs.X n) = nat_lt n bound
is_within bound (regs.Y n) = true
