use Rattle.beam_cli.proofs.Parts.{said_part}
use Rattle.beam_cli.proofs.saying.say_rest.Goals as goal

pub returns-in-Err : goal.returns-in-Err
returns-in-Err g c = said_part g.E.Sink.written g.E.Sink.faults c.args.err.now c.emit_all.new.sink _ _ c.in-Err.ensures.err c.in-Err.ensures.cause.failed
