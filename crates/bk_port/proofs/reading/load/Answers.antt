use Rattle.std.proofs.Common.{◌+◌, arith}
use Rattle.bk_port.specs.declared.reading.TheConstants.{MOST_BYTES}
use Rattle.bk_port.proofs.LeftOver.{left_over, left_more, within}
use Rattle.bk_port.proofs.reading.load.Goals as goal

pub returns-in-Err-clause-left : goal.returns-in-Err-clause-left
returns-in-Err-clause-left g c = rw c.in-Err.ensures.err_left (left_over (MOST_BYTES + 1) _ _ _ _ c.pieces.invariant.bytes (omega arith))

pub returns-then-count-len-clause-left : goal.returns-then-count-len-clause-left
returns-then-count-len-clause-left g c = left_more (MOST_BYTES + 1) _ _ _ _ _ _ _ c.pieces.invariant.bytes c.in-Ok.ensures.read.bytes (within MOST_BYTES _ _ _ _ _ _ c.in-Ok.ensures.read.bound c.read.auto.buf c.min-room.ensures c.len.ensures c.pieces.invariant.size)

pub returns-then-is_err-2-clause-left : goal.returns-then-is_err-2-clause-left
returns-then-is_err-2-clause-left g c = left_more (MOST_BYTES + 1) _ _ _ _ _ _ _ c.pieces.invariant.bytes c.in-Ok.ensures.read.bytes (grind arith)
