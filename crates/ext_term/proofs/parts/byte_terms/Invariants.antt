use Rattle.std.proofs.Common.{◌≡◌, map, take}
use Rattle.ext_term.specs.Spelling.{byte_term}
use Rattle.ext_term.proofs.parts.byte_terms.Given as goal

abbrev pub invariant-loop-b : goal.invariant-loop-b
invariant-loop-b l = l.items.items ≡ map byte_term (take l.b-index l.bytes)
