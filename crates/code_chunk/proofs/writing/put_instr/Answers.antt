use Rattle.std.proofs.Common.{arith}
use Rattle.code_chunk.proofs.Spelled.{operands_within}
use Rattle.code_chunk.proofs.writing.put_instr.Goals as goal

pub write_operand-requires-clause-fits : goal.write_operand-requires-clause-fits
write_operand-requires-clause-fits c =
    let within = operands_within c.as_slice-operand-items.result.now c.loop-operand.operand-index c.operand-item.result c.operand-item.is c.loop-operand-test.true in
    let whole = rw (c.as_slice-operand-items.ensures, c.operands.ensures.same) at within in
    omega (arith, c.requires.fits)
