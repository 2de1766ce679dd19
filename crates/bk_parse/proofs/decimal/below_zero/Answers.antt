use Rattle.std.proofs.Common.{◌≡◌, ◌∙◌, ap, sym, ℕ, eqb, List, [], ◌∷◌, drop, length, get_or}
use lib.Pointwise.{pointwise}
use Rattle.std.proofs.lemmas.List.{take_rest}
use Rattle.bk_parse.proofs.Parsing.{parsed_minus, signed_is_text, text_was, no_text}
use Rattle.bk_parse.proofs.decimal.below_zero.Goals as goal

pub returns-in_err-ok : goal.returns-in_err-ok
returns-in_err-ok c =
    c.from_residual-in_err-ok.ensures
    ∙ sym (signed_is_text c.args.text.now c.requires (no_text c.args.text.now c.from_utf8.result _ c.in_err-ok.ensures.value c.from_utf8.ensures.cases))

pub returns : goal.returns
returns c =
    let text = c.args.text.now in
    let digits = c.in_ok-numeral.ensures in
    let is : c.in_ok-numeral.field-0.now ≡ drop 1 text = digits.0 ∙ take_rest text 1 in
    let lead : get_or (drop 1 text) 0 0 ≡ 48 → length (drop 1 text) ≡ 1 = rw (take_rest text 1) at digits.2 in
    let other : drop 1 text ≡ 48 ∷ [] → ⊥ = λ zero.
    let same = ap (λ (t : List ℕ). pointwise eqb t (48 ∷ [])) (is ∙ zero) in cc (c.if-eq.ensures) in
    let whole = text_was text c.from_utf8.result c.in_ok-ok.field-0 _ c.in_ok-ok.ensures.value c.from_utf8.ensures.cases in
    c.ok-2.ensures.value ∙ parsed_minus text c.parse.result c.requires lead other (rw whole at c.parse.ensures.value.0)
