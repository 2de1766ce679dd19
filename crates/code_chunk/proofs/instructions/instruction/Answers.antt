use Rattle.std.proofs.Common.{◌∙◌, ap, sym, Some}
use Rattle.std.specs.Option.{option_map}
use Rattle.bk_codec.proofs.Agreement.{many_at-length}
use Rattle.bk_base.specs.Place.{end_of}
use Rattle.code_chunk.specs.Reading.{operand_in}
use Rattle.code_chunk.proofs.instructions.instruction.Goals as goal

pub new-requires : goal.new-requires
new-requires c =
    let arity = ap (option_map (λ r. r.arity)) c.requires in
    let count = many_at-length (operand_in (end_of c.args.cur.now)) c.args.row.now.arity c.args.cur.now.rest c.in_ok-operands.operands c.operands.new.cur.rest c.in_ok-operands.ensures.read in
    arity ∙ ap (λ (n : _). Some n) (sym count)
