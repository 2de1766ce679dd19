use Rattle.std.proofs.Common.{◌≡◌, ◌∙◌, ◌∷◌, ◌++◌, ℕ, [], Err, length, ap, sym, subst, inr, arith}
use Rattle.std.proofs.lemmas.Result.{err_from_is_err_and}
use Rattle.bk_base.specs.Place.{end_of}
use Rattle.bk_codec.specs.Reading.{giving, made_of, Fails}
use Rattle.bk_codec.proofs.Steps.{made_ok}
use Rattle.op_table.specs.Table.{arity_of}
use Rattle.code_chunk.specs.declared.refusal.CodeRefusal.TheVariants.{NoMemory}
use Rattle.code_chunk.specs.Reading.{instr_with, instrs_at}
use Rattle.listing_out.specs.Reading.{behind, line_of}
use Rattle.listing_out.proofs.Read.{instr_read, instr_refused, instrs_put}
use Rattle.listing_out.proofs.reading.put_instructions.Goals as goal
use Rattle.listing_out.proofs.reading.put_instructions.Goals.{In-Some, In_ok-put_instruction}

-- the opcode that was read stands at the front
opcode_read : (c : In-Some) → c.instrs.cur.rest ≡ c.in-Some.row.now.op ∷ c.read_opcode.new.cur.rest
opcode_read c = rw c.in-Some.is at c.in_ok-row.ensures.next

size_is : (c : In-Some) → end_of c.read_opcode.new.cur ≡ end_of c.args.cur.now
size_is c = c.in_ok-row.ensures.end ∙ c.instrs.invariant.same

line_is : (c : In_ok-put_instruction)
    → made_of (λ i. c.instrs.out.items ++ line_of c.args.names.now i) (instr_with (end_of c.args.cur.now) c.in-Some.row.now.op (arity_of c.in-Some.row.now.op) c.read_opcode.new.cur.rest)
    ≡ giving c.put_instruction.new.out.items c.put_instruction.new.cur.rest
line_is c =
    let op = c.in-Some.row.now.op in
    subst (λ (size : ℕ). made_of (λ i. c.instrs.out.items ++ line_of c.args.names.now i) (instr_with size op (arity_of op) c.read_opcode.new.cur.rest) ≡ giving c.put_instruction.new.out.items c.put_instruction.new.cur.rest)
    (c.in_ok-row.ensures.end ∙ c.instrs.invariant.same) c.in_ok-put_instruction.ensures.line

pub instrs-preserved : goal.instrs-preserved
instrs-preserved c =
    let at = goal.at.instrs-preserved c in
    record {
      put =
          instr_read c.instructions_are_read_in_order.ensures.next c.args.names.now (end_of c.args.cur.now) c.in-Some.row.now.op c.instrs.cur.rest c.read_opcode.new.cur.rest c.put_instruction.new.cur.rest c.instrs.out.items
          c.put_instruction.new.out.items (opcode_read at.In-Some) (line_is at.In_ok-put_instruction) ∙ c.instrs.invariant.put;
      same = c.in_ok-put_instruction.ensures.end ∙ size_is at.In-Some;
    }

pub instrs-smaller : goal.instrs-smaller
instrs-smaller c =
    let at = goal.at.instrs-smaller c in
    let op = c.in-Some.row.now.op in
    let made = made_ok (λ i. c.instrs.out.items ++ line_of c.args.names.now i) (instr_with (end_of c.args.cur.now) op (arity_of op) c.read_opcode.new.cur.rest) c.put_instruction.new.out.items c.put_instruction.new.cur.rest (line_is at.In_ok-put_instruction) in
    let shorter = c.instructions_are_read_in_order.ensures.shorter (end_of c.args.cur.now) op c.read_opcode.new.cur.rest c.put_instruction.new.cur.rest made.0 made.1 in
    let lengths = ap length (opcode_read at.In-Some) in
    omega arith

pub returns-in_err-row : goal.returns-in_err-row
returns-in_err-row c =
    let p = err_from_is_err_and c.from_residual.result c.from_residual.ensures.1 in
    let refused = subst (λ (size : ℕ). instrs_at size (length c.instrs.cur.rest) c.instrs.cur.rest ≡ Err c.in_err-row.field-0.0) c.instrs.invariant.same c.in_err-row.ensures.refused in
    rw (p.1, p.2) (inr (sym c.instrs.invariant.put ∙ ap (behind (line_of c.args.names.now) c.instrs.out.items) refused))

pub returns-in_err-put_instruction : goal.returns-in_err-put_instruction
returns-in_err-put_instruction c =
    let p = err_from_is_err_and c.from_residual-in_err-put_instruction.result c.from_residual-in_err-put_instruction.ensures.1 in
    let at = goal.at.returns-in_err-put_instruction c in
    let op = c.in-Some.row.now.op in
    let line = subst (λ (size : ℕ). Fails NoMemory c.in_err-put_instruction.field-0.0 (made_of (λ i. c.instrs.out.items ++ line_of c.args.names.now i) (instr_with size op (arity_of op) c.read_opcode.new.cur.rest)))
    (size_is at.In-Some) c.in_err-put_instruction.ensures.line in
    let refused = instr_refused c.instructions_are_read_in_order.ensures.refused c.args.names.now (end_of c.args.cur.now) op c.instrs.cur.rest c.read_opcode.new.cur.rest c.instrs.out.items c.in_err-put_instruction.field-0.0
    (opcode_read at.In-Some) line in
    rw (p.1, p.2) (subst (Fails NoMemory c.in_err-put_instruction.field-0.0) c.instrs.invariant.put refused)

pub returns : goal.returns
returns c =
    let none : c.instrs.cur.rest ≡ [] = rw c.in_default.is at c.in_ok-row.ensures.none in
    sym c.instrs.invariant.put ∙ instrs_put c.args.names.now (end_of c.args.cur.now) c.instrs.cur.rest c.instrs.out.items none
