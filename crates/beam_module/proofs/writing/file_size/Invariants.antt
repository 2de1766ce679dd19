use Rattle.std.proofs.Common.{◌≡◌, take}
use Rattle.iff_form.specs.Form.{form_size}
use Rattle.beam_module.specs.Canonical.{canonical_chunks}
use Rattle.beam_module.proofs.writing.file_size.Given as goal

abbrev pub invariant-loop-value : goal.invariant-loop-value
invariant-loop-value l = l.size ≡ form_size (canonical_chunks (take l.value-index l.value-items))
