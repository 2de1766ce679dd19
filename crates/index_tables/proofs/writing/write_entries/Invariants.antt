use Rattle.std.proofs.Common.{◌≡◌, ◌++◌, take}
use Rattle.std.specs.List.{flat_map}
use Rattle.index_tables.specs.Canonical.{canonical_words}
use Rattle.index_tables.proofs.writing.write_entries.Given as goal

abbrev pub invariant-loop-entry : goal.invariant-loop-entry
invariant-loop-entry g l = l.payload.items ≡ l.initial.payload.items ++ flat_map (λ x. canonical_words (g.T.Entry.shape.words x)) (take l.entry-index l.entry-items)
