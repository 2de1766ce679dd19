use Rattle.std.proofs.Common.{◌≡◌, ◌+◌, ◌≤◌, ◌++◌, length, take}
use Rattle.std.specs.List.{flat_map}
use Rattle.compact_term.specs.Canonical.{canonical_pair}
use Rattle.compact_term.proofs.writer.put_pairs.Given as goal

abbrev pub invariant-loop-kind : goal.invariant-loop-kind
invariant-loop-kind l = record {
  items : l.out.items ≡ l.fn.out.items ++ flat_map canonical_pair (take l.kind-index l.pairs);
  room : l.fn.out.room ≤ l.out.room + length (flat_map canonical_pair (take l.kind-index l.pairs));
}
