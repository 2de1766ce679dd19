use Rattle.std.proofs.Common.{◌≡◌, take}
use Rattle.std.specs.Prelude.{string_bytes}
use Rattle.std.specs.Str.{encode_utf8_all}
use Rattle.ext_term.proofs.parts.latin_text.Given as goal

abbrev pub invariant-loop-b : goal.invariant-loop-b
invariant-loop-b l = string_bytes l.name ≡ encode_utf8_all (take l.b-index l.bytes)
