use Rattle.std.proofs.Common.{◌≡◌, ◌++◌, take}
use Rattle.std.specs.List.{flat_map}
use Rattle.iff_form.specs.Canonical.{canonical_chunk}
use Rattle.beam_module.specs.Canonical.{canonical_chunks}
use Rattle.beam_module.proofs.writing.canon.Given as goal

abbrev pub invariant-loop-id : goal.invariant-loop-id
invariant-loop-id l = l.file.items ≡ l.initial.file.items ++ flat_map canonical_chunk (canonical_chunks (take l.id-index l.id-items))
