-- Names that grow by a character at a time.
use Rattle.std.proofs.Common.{◌≡◌, ℕ, ◌+◌, ◌<◌, List, [], ◌∷◌, ◌++◌, length, get_or, take, ap, ◌∙◌}
use Rattle.std.specs.Char.{encode_utf8}
use Rattle.std.specs.Str.{encode_utf8_all}
use Rattle.std.proofs.lemmas.List.{append-nil, take_more}
use Rattle.std.proofs.lemmas.Str.{encodes-append}

pub encodes_more : (bytes : List ℕ) (i : ℕ) → i < length bytes
    → encode_utf8_all (take (i + 1) bytes) ≡ encode_utf8_all (take i bytes) ++ encode_utf8 (get_or bytes i 0)
encodes_more bytes i lt =
    ap encode_utf8_all (take_more bytes i 0 lt)
    ∙ encodes-append (take i bytes) (get_or bytes i 0 ∷ [])
    ∙ ap (λ (t : List ℕ). encode_utf8_all (take i bytes) ++ t) (append-nil (encode_utf8 (get_or bytes i 0)))
