use Rattle.std.proofs.Common.{◌∙◌, ◌∷◌, ◌-◌, ℕ, List, length, ap, sym, arith}
use Rattle.bk_base.specs.Place.{end_of}
use Rattle.op_table.specs.Table.{row_with, row_of}
use Rattle.code_chunk.specs.Reading.{instrs_at}
use Rattle.code_chunk.proofs.Front.{byte_read}
use Rattle.code_chunk.proofs.Opcodes.{row_op, no_opcode}
use Rattle.code_chunk.proofs.instructions.read_opcode.Goals as goal

pub returns-in-Some-op_row-clause-next : goal.returns-in-Some-op_row-clause-next
returns-in-Some-op_row-clause-next c =
    let byte = byte_read c.args.cur.now c.byte.new.self c.in-Some.op c.in-Some.ensures.none c.in-Some.ensures.some c.in-Some.ensures.moves in
    byte.front ∙ ap (λ (op : ℕ). op ∷ c.byte.new.self.rest) (sym (row_op c.in-Some.op (row_of c.in-Some-op_row.row.now) (sym c.in-Some-op_row.ensures.row)))

pub returns-in-Some-op_row-clause-row : goal.returns-in-Some-op_row-clause-row
returns-in-Some-op_row-clause-row c =
    let found = sym c.in-Some-op_row.ensures.row in
    ap row_with (row_op c.in-Some.op (row_of c.in-Some-op_row.row.now) found) ∙ found

pub returns-in-None-clause-refused : goal.returns-in-None-clause-refused
returns-in-None-clause-refused c =
    let byte = byte_read c.args.cur.now c.byte.new.self c.in-Some.op c.in-Some.ensures.none c.in-Some.ensures.some c.in-Some.ensures.moves in
    let lengths = ap length byte.front in
    ap (λ (bytes : List ℕ). instrs_at (end_of c.args.cur.now) (length bytes) bytes) byte.front
    ∙ no_opcode (end_of c.args.cur.now) c.in-Some.op c.at-at.result c.byte.new.self.rest (sym c.in-None.ensures.row) (omega arith)
