use Rattle.std.proofs.Common.{◌≤◌, List, map, ap, length, ◌∙◌, subst, sym}
use Rattle.std.specs.Prelude.{All}
use Rattle.std.proofs.lemmas.Result.{err_from_is_err_and}
use Rattle.bk_port.specs.Causes.{Rose}
use Rattle.bk_port.specs.declared.reading.TheConstants.{MOST_BYTES}
use Rattle.beam_cli.specs.declared.loading.LoadedFile.{LoadedFile}
use Rattle.beam_cli.specs.Asking.{asked}
use Rattle.beam_cli.specs.Files.{named_file}
use Rattle.beam_cli.specs.Made.{GivesOf, made_of_output}
use Rattle.beam_cli.specs.Answer.{output_of}
use Rattle.beam_cli.proofs.Loads.{loaded_are_sized, loaded_as_long}
use Rattle.beam_cli.proofs.Makes.{load_fault, load_reason, make_ok, make_reason}
use Rattle.beam_cli.proofs.making.make.Goals as goal

pub returns-in_err-files-clause-reason : goal.returns-in_err-files-clause-reason
returns-in_err-files-clause-reason g c =
    let p = err_from_is_err_and c.from_residual.result c.from_residual.ensures.1 in
    rw (p.1, p.2)
    (load_reason (g.H.Host.holds c.args.host.now) (asked c.args.request) (λ n. Rose (g.H.Host.faults c.args.host.now n) (g.H.Host.faults c.load_files.new.host n)) c.in_err-files.field-0.0 c.in_err-files.ensures.reason)

pub returns-in_err-files-clause-read_fault : goal.returns-in_err-files-clause-read_fault
returns-in_err-files-clause-read_fault g c =
    let p = err_from_is_err_and c.from_residual.result c.from_residual.ensures.1 in
    rw (p.1, p.2)
    (load_fault (g.H.Host.holds c.args.host.now) (λ n. Rose (g.H.Host.faults c.args.host.now n) (g.H.Host.faults c.load_files.new.host n)) c.args.request.names.now c.in_err-files.field-0.0 c.in_err-files.ensures.reason)

pub output_of-requires-clause-sizes : goal.output_of-requires-clause-sizes
output_of-requires-clause-sizes g c =
    subst (All (λ (f : LoadedFile). length f.bytes.items ≤ MOST_BYTES)) (sym c.as_slice.ensures.value) (loaded_are_sized (g.H.Host.holds c.args.host.now) c.args.request.names.now c.in_ok-files.files.items c.in_ok-files.ensures.loaded)

pub output_of-requires-clause-count : goal.output_of-requires-clause-count
output_of-requires-clause-count g c = ap length c.as_slice.ensures.value ∙ loaded_as_long (g.H.Host.holds c.args.host.now) c.args.request.names.now c.in_ok-files.files.items c.in_ok-files.ensures.loaded ∙ c.requires.files

pub returns-clause-ok : goal.returns-clause-ok
returns-clause-ok g c =
    make_ok (g.H.Host.holds c.args.host.now) (asked c.args.request) c.in_ok-files.files.items c.output_of.result c.in_ok-files.ensures.loaded
    (subst (λ (files : List LoadedFile). GivesOf made_of_output c.output_of.result (output_of c.args.request.command (map named_file files))) c.as_slice.ensures.value c.output_of.ensures)

pub returns-clause-reason : goal.returns-clause-reason
returns-clause-reason g c =
    make_reason (g.H.Host.holds c.args.host.now) (asked c.args.request) c.in_ok-files.files.items (λ n. Rose (g.H.Host.faults c.args.host.now n) (g.H.Host.faults c.load_files.new.host n)) c.output_of.result c.in_ok-files.ensures.loaded c.requires.files
    (subst (λ (files : List LoadedFile). GivesOf made_of_output c.output_of.result (output_of c.args.request.command (map named_file files))) c.as_slice.ensures.value c.output_of.ensures)
