use Rattle.std.proofs.Common.{◌≡◌, ◌++◌, take}
use Rattle.std.specs.List.{flat_map}
use Rattle.iff_form.specs.Canonical.{canonical_chunk}
use Rattle.iff_form.specs.Chunk.{plains}
use Rattle.beam_module.specs.Strip.{stripped}
use Rattle.beam_module.proofs.stripping.strip.Given as goal

abbrev pub invariant-loop-chunk : goal.invariant-loop-chunk
invariant-loop-chunk l = l.out.items ≡ l.initial.out.items ++ flat_map canonical_chunk (stripped (plains (take l.chunk-index l.chunk-items)))
