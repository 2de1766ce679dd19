use Rattle.std.proofs.Common.{◌≤◌, drop}
use Rattle.bk_port.specs.Writing.{joined}
use Rattle.bk_port.proofs.Sent.{Sent}
use Rattle.bk_port.proofs.writing.emit_all.Given as goal

abbrev pub invariant-loop-piece : goal.invariant-loop-piece
invariant-loop-piece g l = record {
  sent : Sent (g.S.Sink.written l.fn.sink) (g.S.Sink.written l.sink) (joined l.pieces) (joined (drop l.piece-index l.pieces));
  later : g.S.Sink.faults l.fn.sink ≤ g.S.Sink.faults l.sink;
}
