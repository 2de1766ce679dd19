use Rattle.std.proofs.Common.{◌≡◌, sym, All}
use Rattle.std.proofs.lemmas.Result.{IfOk-weaker}
use Rattle.bk_base.specs.Contents.{Contents}
use Rattle.code_chunk.specs.Canonical.{canonical_code}
use Rattle.beam_module.specs.File.{FileChunk}
use Rattle.beam_module.specs.Canonical.{IsWrittenAs}
use Rattle.beam_module.proofs.CanonicalFile.{code_fits, code_written, no_code}
use Rattle.beam_module.proofs.writing.written_code.Goals as goal

pub write_code-requires-clause-proper : goal.write_code-requires-clause-proper
write_code-requires-clause-proper c = (code_fits c.args.v.now c.in-Some.code.now (sym c.in-Some.ensures.found) c.requires).0

pub write_code-requires-clause-fits : goal.write_code-requires-clause-fits
write_code-requires-clause-fits c = (code_fits c.args.v.now c.in-Some.code.now (sym c.in-Some.ensures.found) c.requires).1

pub returns-in-Some : goal.returns-in-Some
returns-in-Some c =
    IfOk-weaker c.write_code.result (λ (payload : Contents). payload.items ≡ canonical_code c.in-Some.code.now) (λ (payload : Contents). All (λ (w : FileChunk). IsWrittenAs payload.items w.1) c.args.v.now)
    (λ payload written. code_written c.args.v.now c.in-Some.code.now payload.items c.in-Some.ensures.chunks (sym c.in-Some.ensures.found) written) c.write_code.ensures

pub returns-in-None : goal.returns-in-None
returns-in-None c = no_code c.args.v.now c.new.result.items (sym c.in-None.ensures.found)
