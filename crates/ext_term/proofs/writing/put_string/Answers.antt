use Rattle.std.proofs.Common.{arith}
use Rattle.std.proofs.lemmas.Grind.{common_steps}
use Rattle.ext_term.proofs.Written.{string_bytes_here}
use Rattle.ext_term.proofs.writing.put_string.Goals as goal

pub returns : goal.returns
returns c =
    let e = string_bytes_here c.args.items.now in
    grind (arith, common_steps)
