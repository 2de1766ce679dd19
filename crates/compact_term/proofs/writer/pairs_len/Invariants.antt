use Rattle.std.proofs.Common.{◌≡◌, length, take}
use Rattle.std.specs.List.{flat_map}
use Rattle.compact_term.specs.Canonical.{canonical_pair}
use Rattle.compact_term.proofs.writer.pairs_len.Given as goal

abbrev pub invariant-loop-kind : goal.invariant-loop-kind
invariant-loop-kind l = l.len ≡ length (flat_map canonical_pair (take l.kind-index l.pairs))
