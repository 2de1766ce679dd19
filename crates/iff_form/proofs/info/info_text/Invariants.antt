use Rattle.std.proofs.Common.{◌≡◌, ◌++◌, take}
use Rattle.std.specs.List.{flat_map}
use Rattle.iff_form.specs.Chunk.{plains}
use Rattle.iff_form.specs.Text.{chunk_line}
use Rattle.iff_form.proofs.info.info_text.Given as goal

abbrev pub invariant-loop-chunk : goal.invariant-loop-chunk
invariant-loop-chunk l = l.out.items ≡ l.initial.out.items ++ flat_map chunk_line (plains (take l.chunk-index l.chunk-items))
