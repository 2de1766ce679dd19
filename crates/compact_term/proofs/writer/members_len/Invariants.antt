use Rattle.std.proofs.Common.{◌≡◌, length, take}
use Rattle.std.specs.List.{flat_map}
use Rattle.compact_term.specs.Canonical.{canonical_plain}
use Rattle.compact_term.proofs.writer.members_len.Given as goal

abbrev pub invariant-loop-plain : goal.invariant-loop-plain
invariant-loop-plain l = l.len ≡ length (flat_map canonical_plain (take l.plain-index l.members))
