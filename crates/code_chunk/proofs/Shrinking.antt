-- An instruction that is read takes at least a byte.
use Rattle.std.proofs.Common.{◌≡◌, ℕ, ◌-◌, ◌≤◌, Option, Some, None, [], ◌∷◌, length, Result, Ok, Err, ap, arith}
use Rattle.bk_codec.proofs.Steps.{ok_is}
use Rattle.bk_codec.proofs.Keeps.{Keeps, keeps_made, keeps_many}
use Rattle.bk_codec.proofs.ToTheEnd.{Shrinks}
use Rattle.compact_term.specs.declared.refusal.OperandRefusal.{OperandRefusal}
use Rattle.compact_term.specs.Reading.{operand_at}
use Rattle.compact_term.proofs.Keeping.{operand_keeps}
use Rattle.op_table.specs.Table.{arity_of}
use Rattle.code_chunk.specs.declared.refusal.CodeRefusal.{CodeRefusal}
use Rattle.code_chunk.specs.Reading.{located, operand_in, instr_with}
use Rattle.code_chunk.proofs.Front.{instr_at}

pub located_ok : {X : Type 0} (at : ℕ) (r : Result X OperandRefusal) (x : X) → located at r ≡ Ok x → r ≡ Ok x
located_ok at (Ok y) x e = let same : y ≡ x = ok_is {E = CodeRefusal} y x e in ap (λ (z : _). Ok z) same
located_ok at (Err why) x e = absurd cc

operand_in_keeps : (size : ℕ) → Keeps (operand_in size)
operand_in_keeps size bytes o rest e = operand_keeps bytes o rest (located_ok (size - length bytes) (operand_at bytes) (o, rest) e)

instr_with_keeps : (size op : ℕ) (arity : Option ℕ) → Keeps (instr_with size op arity)
instr_with_keeps size op (Some n) bytes i rest e = keeps_made (λ operands. record { op = op; operands = operands }) (keeps_many (operand_in_keeps size) n) bytes i rest e
instr_with_keeps size op None bytes i rest e = absurd cc

pub instr_shrinks : (size : ℕ) → Shrinks (instr_at size)
unfolding instr_at
instr_shrinks size [] i rest e = absurd cc
instr_shrinks size (op ∷ bytes) i rest e = let keeps : length rest ≤ length bytes = instr_with_keeps size op (arity_of op) bytes i rest e in omega arith
