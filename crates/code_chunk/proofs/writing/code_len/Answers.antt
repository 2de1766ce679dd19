use Rattle.std.proofs.Common.{arith}
use Rattle.code_chunk.proofs.Spelled.{instrs_within}
use Rattle.code_chunk.proofs.writing.code_len.Goals as goal

pub instr_len-len-requires-clause-fits : goal.instr_len-len-requires-clause-fits
instr_len-len-requires-clause-fits c =
    let within = instrs_within c.args.c.now c.as_slice-instr-items.result.now c.loop-instr.instr-index c.instr-item.result c.as_slice-instr-items.ensures c.instr-item.is c.loop-instr-test.true in
    omega (arith, c.requires.fits)

pub overflow_add-len-in-loop-instr : goal.overflow_add-len-in-loop-instr
overflow_add-len-in-loop-instr c =
    let within = instrs_within c.args.c.now c.as_slice-instr-items.result.now c.loop-instr.instr-index c.instr-item.result c.as_slice-instr-items.ensures c.instr-item.is c.loop-instr-test.true in
    record { fits = omega (arith, c.requires.fits) }
