use Rattle.std.proofs.Common.{◌∙◌}
use Rattle.bk_parse.proofs.Parsing.{parsed_number}
use Rattle.bk_parse.proofs.decimal.read_u64.Goals as goal

pub returns : goal.returns
returns c =
    let facts = c.in_ok-numeral.ensures in
    c.ok.ensures.value ∙ parsed_number 64 c.args.text.now c.parse.result facts.1 facts.2 (rw facts.0 at c.parse.ensures.value.0)
