use Rattle.std.proofs.Common.{List, ℕ, subst}
use Rattle.bk_port.specs.Writing.{joined}
use Rattle.beam_cli.specs.Outcome.{IsSaid}
use Rattle.beam_cli.proofs.Parts.{said_part, said_then, line_parts}
use Rattle.beam_cli.proofs.saying.say_about.Goals as goal

pub returns-in-Ok : goal.returns-in-Ok
returns-in-Ok g c =
    let written = g.E.Sink.written in
    let faults = g.E.Sink.faults in
    rw (← c.as_bytes.ensures.same) (subst (λ (t : List ℕ). IsSaid written faults c.args.err.now c.say_rest.new.err t) (line_parts c.as_bytes.result.now (joined c.args.pieces.now))
    (said_then written faults c.args.err.now c.emit_all.new.sink c.say_rest.new.err _ _ c.in-Ok.ensures.ok c.in-Ok.ensures.cause.later c.say_rest.ensures))

pub returns-in-Err : goal.returns-in-Err
returns-in-Err g c =
    let written = g.E.Sink.written in
    let faults = g.E.Sink.faults in
    rw (← c.as_bytes.ensures.same) (subst (λ (t : List ℕ). IsSaid written faults c.args.err.now c.emit_all.new.sink t) (line_parts c.as_bytes.result.now (joined c.args.pieces.now))
    (said_part written faults c.args.err.now c.emit_all.new.sink _ _ c.in-Err.ensures.err c.in-Err.ensures.cause.failed))
