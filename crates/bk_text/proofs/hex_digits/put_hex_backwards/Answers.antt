use Rattle.std.proofs.Common.{◌∷◌, ◌∙◌, [], ap, append-nil, reverse}
use Rattle.std.proofs.lemmas.List.{nil_from_length, reverse-append}
use Rattle.hex.specs.Hex.{encode_lower}
use Rattle.bk_text.proofs.Digits.{digits-append, digits-nil, first_put}
use Rattle.bk_text.proofs.hex_digits.put_hex_backwards.Goals as goal

pub loop-b-preserved : goal.loop-b-preserved
loop-b-preserved c =
    let b = c.in-Some.b.now in
    let others = c.next.new.self.iter.rest.now in
    first_put c.loop-b.out.items c.put_row.new.out.items (encode_lower (b ∷ [])) (encode_lower (reverse others)) (encode_lower (reverse c.loop-b.b-iterator.iter.rest.now)) _
    c.in_ok-put_row.ensures (ap (λ xs. encode_lower (reverse xs)) c.in-Some.ensures.steps ∙ ap encode_lower (reverse-append others (b ∷ [])) ∙ digits-append (b ∷ []) (reverse others)) c.loop-b.invariant

pub returns : goal.returns
returns c =
    let none = nil_from_length _ c.in-None.ensures.steps.0 in
    rw (none, digits-nil, append-nil) at c.loop-b.invariant
