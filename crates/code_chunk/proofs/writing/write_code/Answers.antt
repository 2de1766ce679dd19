use Rattle.std.proofs.Common.{arith}
use Rattle.code_chunk.proofs.Spelled.{instrs_within}
use Rattle.code_chunk.proofs.writing.write_code.Goals as goal

pub put_instr-requires-clause-fits : goal.put_instr-requires-clause-fits
put_instr-requires-clause-fits c =
    let within = instrs_within c.args.c.now c.as_slice-instr-items.result.now c.loop-instr.instr-index c.instr-item.result c.as_slice-instr-items.ensures c.instr-item.is c.loop-instr-test.true in
    omega (arith, c.requires.fits)
