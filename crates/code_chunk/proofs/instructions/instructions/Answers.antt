use Rattle.std.proofs.Common.{◌≡◌, ◌∙◌, ◌<◌, ℕ, Ok, Err, [], ◌∷◌, length, ap, sym, inr, arith}
use Rattle.std.proofs.lemmas.Result.{err_from_is_err_and}
use Rattle.bk_base.specs.Place.{end_of}
use Rattle.bk_codec.specs.Reading.{whole_of, Fails}
use Rattle.bk_codec.proofs.ToTheEnd.{with_items, goes_further, stops, is_whole}
use Rattle.op_table.specs.Table.{arity_of}
use Rattle.code_chunk.specs.declared.refusal.CodeRefusal.TheVariants.{NoMemory}
use Rattle.code_chunk.specs.Reading.{instr_with, instrs_at}
use Rattle.code_chunk.proofs.Front.{instr_at, front_is, whole_is}
use Rattle.code_chunk.proofs.Shrinking.{instr_shrinks}
use Rattle.code_chunk.proofs.instructions.instructions.Goals as goal
use Rattle.code_chunk.proofs.instructions.instructions.Goals.{In-Some}

-- the opcode that was read stands at the front
opcode_read : (c : In-Some) → c.instrs.cur.rest ≡ c.in-Some.row.now.op ∷ c.read_opcode.new.cur.rest
opcode_read c = rw c.in-Some.is at c.in_ok-row.ensures.next

-- the reading of an instruction at the front is that of the operands of the row that was read
front_read : (c : In-Some) → instr_at (end_of c.args.cur.now) c.instrs.cur.rest ≡ instr_with (end_of c.read_opcode.new.cur) c.in-Some.row.now.op (arity_of c.in-Some.row.now.op) c.read_opcode.new.cur.rest
front_read c =
    let op = c.in-Some.row.now.op in
    let rest = c.read_opcode.new.cur.rest in
    ap (instr_at (end_of c.args.cur.now)) (opcode_read c) ∙ front_is (end_of c.args.cur.now) op rest
    ∙ ap (λ (size : ℕ). instr_with size op (arity_of op) rest) (sym (c.in_ok-row.ensures.end ∙ c.instrs.invariant.same))

some_left : (c : In-Some) → 0 < length c.instrs.cur.rest
some_left c = let lengths = ap length (opcode_read c) in omega arith

pub returns-in_err-row : goal.returns-in_err-row
returns-in_err-row c =
    let p = err_from_is_err_and c.from_residual.result c.from_residual.ensures.1 in
    let size = end_of c.args.cur.now in
    let refused : whole_of (instr_at size) c.instrs.cur.rest ≡ Err c.in_err-row.field-0.0 =
    sym (whole_is size c.instrs.cur.rest) ∙ ap (λ (n : ℕ). instrs_at n (length c.instrs.cur.rest) c.instrs.cur.rest) (sym c.instrs.invariant.same) ∙ c.in_err-row.ensures.refused in
    rw (p.1, p.2, whole_is size c.args.cur.now.rest)
    (inr (sym c.instrs.invariant.read ∙ ap (with_items c.instrs.list) refused))

pub returns-in_err-instr : goal.returns-in_err-instr
returns-in_err-instr c =
    let p = err_from_is_err_and c.from_residual-in_err-instr.result c.from_residual-in_err-instr.ensures.1 in
    let at = (goal.at.returns-in_err-instr c).In-Some in
    let one = instr_at (end_of c.args.cur.now) in
    let refused : Fails NoMemory c.in_err-instr.field-0.0 (one c.instrs.cur.rest) = rw (front_read at) c.in_err-instr.ensures.read in
    rw (p.1, p.2, whole_is (end_of c.args.cur.now) c.args.cur.now.rest)
    (stops NoMemory one c.instrs.list c.instrs.cur.rest c.in_err-instr.field-0.0 (whole_of one c.args.cur.now.rest) (some_left at) refused c.instrs.invariant.read)

pub instrs-preserved : goal.instrs-preserved
instrs-preserved c =
    let at = (goal.at.instrs-preserved c).In-Some in
    let one = instr_at (end_of c.args.cur.now) in
    let read : one c.instrs.cur.rest ≡ Ok (c.in_ok-instr.instr, c.instruction.new.cur.rest) = front_read at ∙ c.in_ok-instr.ensures.read in
    record {
      read =
          rw c.in_ok-push.ensures.ok
          (goes_further one (instr_shrinks (end_of c.args.cur.now)) c.instrs.list c.instrs.cur.rest c.instruction.new.cur.rest c.in_ok-instr.instr (whole_of one c.args.cur.now.rest) (some_left at) read c.instrs.invariant.read);
      same = c.in_ok-instr.ensures.end ∙ c.in_ok-row.ensures.end ∙ c.instrs.invariant.same;
    }

pub instrs-smaller : goal.instrs-smaller
instrs-smaller c =
    instr_shrinks (end_of c.args.cur.now) c.instrs.cur.rest c.in_ok-instr.instr c.instruction.new.cur.rest (front_read (goal.at.instrs-smaller c).In-Some ∙ c.in_ok-instr.ensures.read)

pub returns : goal.returns
returns c =
    let one = instr_at (end_of c.args.cur.now) in
    let none : c.instrs.cur.rest ≡ [] = rw c.in_default.is at c.in_ok-row.ensures.none in
    whole_is (end_of c.args.cur.now) c.args.cur.now.rest ∙ is_whole one c.instrs.list c.instrs.cur.rest (whole_of one c.args.cur.now.rest) none c.instrs.invariant.read
