use Rattle.std.proofs.Common.{ℕ, ◌<◌, List, arith}
use Rattle.std.specs.List.{slice_index}
use Rattle.std.proofs.lemmas.Result.{IfOk-weaker}
use Rattle.iff_form.proofs.Canon.{form_fits}
use Rattle.iff_form.proofs.Payloads.{form_meets}
use Rattle.code_chunk.proofs.Codes.{code_meets_type, code_proper}
use Rattle.code_chunk.proofs.Spelled.{code_is_shortest}
use Rattle.beam_module.specs.Canonical.{FileMeetsType, IsWritable}
use Rattle.beam_module.specs.File.{AreChunks, FileChunk, IsFile}
use Rattle.iff_form.proofs.Refusals.{form_is_exact}
use Rattle.code_chunk.proofs.One.{code_is_exact}
use Rattle.beam_module.proofs.Files.{file_is_exact, answer_found, answer_only}
use Rattle.beam_module.proofs.CanonicalFile.{file_meets, file_writable}
use Rattle.beam_module.proofs.reading.read_file.Goals as goal

pub returns-clause-found : goal.returns-clause-found
returns-clause-found c =
    answer_found c.args.bytes.now c.whole_file.result (file_is_exact form_is_exact code_is_exact) (λ i. omega (arith, c.type_inv.bytes i)) c.whole_file.ensures

pub returns-clause-chunks : goal.returns-clause-chunks
returns-clause-chunks c =
    let fits = λ (i : ℕ). let below : slice_index c.args.bytes.now i < 256 = omega (arith, c.type_inv.bytes i) in below in
    let found = answer_found c.args.bytes.now c.whole_file.result (file_is_exact form_is_exact code_is_exact) fits c.whole_file.ensures in
    let meets = λ (v : List FileChunk) (is : IsFile v c.args.bytes.now). file_meets code_is_shortest form_meets form_fits code_proper code_meets_type v c.args.bytes.now fits is in
    IfOk-weaker c.whole_file.result (λ (v : List FileChunk). IsFile v c.args.bytes.now) (λ (v : List FileChunk). AreChunks v × FileMeetsType v) (λ v is. ((meets v is).0, (meets v is).1)) found

pub returns-clause-writable : goal.returns-clause-writable
returns-clause-writable c =
    let fits = λ (i : ℕ). let below : slice_index c.args.bytes.now i < 256 = omega (arith, c.type_inv.bytes i) in below in
    let found = answer_found c.args.bytes.now c.whole_file.result (file_is_exact form_is_exact code_is_exact) fits c.whole_file.ensures in
    IfOk-weaker c.whole_file.result (λ (v : List FileChunk). IsFile v c.args.bytes.now) IsWritable (λ v is. file_writable code_is_shortest form_meets form_fits code_proper v c.args.bytes.now fits is) found

pub returns-clause-only : goal.returns-clause-only
returns-clause-only c =
    answer_only c.args.bytes.now c.whole_file.result (file_is_exact form_is_exact code_is_exact) (λ i. omega (arith, c.type_inv.bytes i)) c.whole_file.ensures
