use Rattle.std.proofs.Common.{◌≡◌, ap, ◌∙◌}
use Rattle.std.proofs.lemmas.Int.{to_z-of_z}
use Rattle.std.specs.Int.{w128}
use Rattle.compact_term.specs.Canonical.{fewest}
use Rattle.compact_term.proofs.Written.{few_put, many_put}
use Rattle.compact_term.proofs.number_writing.put_in_bytes.Goals as goal

pub returns-then-n-le8 : goal.returns-then-n-le8
returns-then-n-le8 c =
    let is : c.fewest-n.result ≡ fewest c.args.z = c.fewest-n.ensures.value ∙ ap fewest (to_z-of_z w128 c.args.z c.ranges.z) in
    let put = few_put c.args.tag c.args.z c.fewest-n.result c.write_int128.new.buf _ c.ranges.z c.requires.wide is c.if-n-le8.true c.write_int128.ensures in
    record { ok = rw put at c.extend.ensures.ok; reserved = rw put at c.extend.ensures.reserved; room = rw put at c.extend.ensures.room }

pub returns : goal.returns
returns c =
    let is : c.fewest-n.result ≡ fewest c.args.z = c.fewest-n.ensures.value ∙ ap fewest (to_z-of_z w128 c.args.z c.ranges.z) in
    let put = many_put c.args.tag c.args.z c.fewest-n.result c.write_int128-2.new.buf _ c.ranges.z is c.if-n-le8.false c.write_int128-2.ensures in
    record { ok = rw put at c.extend-2.ensures.ok; reserved = rw put at c.extend-2.ensures.reserved; room = rw put at c.extend-2.ensures.room }
