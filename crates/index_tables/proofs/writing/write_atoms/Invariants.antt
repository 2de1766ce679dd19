use Rattle.std.proofs.Common.{◌≡◌, ◌++◌, take}
use Rattle.std.specs.List.{flat_map}
use Rattle.index_tables.specs.Canonical.{canonical_atom}
use Rattle.index_tables.proofs.writing.write_atoms.Given as goal

abbrev pub invariant-loop-name : goal.invariant-loop-name
invariant-loop-name l = l.payload.items ≡ l.initial.payload.items ++ flat_map canonical_atom (take l.name-index l.name-items)
