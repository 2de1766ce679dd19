use Rattle.std.proofs.Common.{◌≡◌, ◌<◌, true, length, get_or, arith}
use Rattle.std.proofs.lemmas.Grind.{common_steps}
use Rattle.std.specs.Char.{is_ascii_digit}
use Rattle.bk_parse.proofs.Parsing.{text_is}
use Rattle.bk_parse.proofs.decimal.numeral.Goals as goal

pub returns : goal.returns
returns c =
    let text = c.args.text.now in
    let first : c.in_ok-first.first.now ≡ get_or text 0 0 = grind (arith, common_steps, c.in_ok-first.ensures) in
    let some : 0 < length text = grind (arith, common_steps, c.in_ok-first.ensures) in
    let digit : is_ascii_digit (get_or text 0 0) ≡ true = cc (c.is_ascii_digit.ensures.value, c.if-not-is_ascii_digit.false, first) in
    let lead : get_or text 0 0 ≡ 48 → length text ≡ 1 = λ zero. omega (arith, c.else-first-eq48.either, first) in
    rw c.ok.ensures.value (text_is text c.from_utf8.result _ digit lead c.from_utf8.ensures.cases)
