use Rattle.std.proofs.Common.{arith}
use Rattle.bk_port.specs.Listed.{bytes_at}
use Rattle.bk_port.proofs.FrontRead.{reads_front}
use Rattle.bk_port.proofs.mem_host.MemHostHost.read.Goals as goal

pub returns-clause-read : goal.returns-clause-read
returns-clause-read c = rw (← c.self.view_is) (reads_front (bytes_at c.self.inside.files c.self.inside.place) c.args.buf.now c.copy_from_slice.new.self c.self.inside.at c.min-count.result (grind arith) (grind arith) (λ none some. grind arith) (grind arith) (grind arith))
