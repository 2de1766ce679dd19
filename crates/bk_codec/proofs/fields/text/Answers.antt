use Rattle.std.proofs.Common.{◌≡◌, true, false, Err, inr, refl, ap}
use Rattle.std.specs.Str.{is_utf8}
use Rattle.std.proofs.lemmas.Bool.{false_from_ne_true}
use Rattle.std.proofs.lemmas.Str.{IsUtf8-from_is_utf8, is_utf8-from_IsUtf8}
use Rattle.bk_codec.proofs.fields.text.Goals as goal

pub returns-in-Ok : goal.returns-in-Ok
returns-in-Ok g c =
    let text : is_utf8 c.args.bytes.now ≡ true = is_utf8-from_IsUtf8 c.args.bytes.now c.in-Ok.ensures.utf8 in
    rw (text, c.in-Ok.ensures.same) refl

pub returns-in-Err-NotUtf8 : goal.returns-in-Err-NotUtf8
returns-in-Err-NotUtf8 g c =
    let text : is_utf8 c.args.bytes.now ≡ false =
    false_from_ne_true (is_utf8 c.args.bytes.now) (λ e. c.in-Err-NotUtf8.ensures.not_utf8 (ap Err c.in-Err-NotUtf8.field-0-is) (IsUtf8-from_is_utf8 c.args.bytes.now e)) in
    inr (rw text refl)
