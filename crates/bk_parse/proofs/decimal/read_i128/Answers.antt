use Rattle.std.proofs.Common.{◌∙◌}
use Rattle.bk_parse.proofs.Parsing.{parsed_signed}
use Rattle.bk_parse.proofs.decimal.read_i128.Goals as goal

pub returns-in_ok-numeral-in_default : goal.returns-in_ok-numeral-in_default
returns-in_ok-numeral-in_default c =
    let facts = c.in_ok-numeral-in_default.ensures in
    c.ok.ensures.value ∙ parsed_signed c.args.text.now c.parse.result facts.1 facts.2 (rw facts.0 at c.parse.ensures.value.0)
