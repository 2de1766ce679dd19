use Rattle.std.proofs.Common.{◌≡◌, ◌+◌, ◌≤◌, ◌++◌, length, take}
use Rattle.std.specs.List.{flat_map}
use Rattle.compact_term.specs.Canonical.{canonical_plain}
use Rattle.compact_term.proofs.writer.put_members.Given as goal

abbrev pub invariant-loop-plain : goal.invariant-loop-plain
invariant-loop-plain l = record {
  items : l.out.items ≡ l.fn.out.items ++ flat_map canonical_plain (take l.plain-index l.members);
  room : l.fn.out.room ≤ l.out.room + length (flat_map canonical_plain (take l.plain-index l.members));
}
