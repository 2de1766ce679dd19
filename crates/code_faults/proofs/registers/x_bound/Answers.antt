use Rattle.code_faults.specs.Registers.{x_bound}
use Rattle.code_faults.proofs.Raising.{raised_instr}
use Rattle.code_faults.proofs.registers.x_bound.Goals as goal

pub loop-instr-preserved : goal.loop-instr-preserved
loop-instr-preserved c = raised_instr (x_bound c.args.f.now) c.loop-instr.bound c.raised_by_instr-bound.result c.instrs-instr-items.result.now c.loop-instr.instr-index c.instr-item.result c.loop-instr.invariant c.loop-instr-test.true c.instr-item.is c.raised_by_instr-bound.ensures
