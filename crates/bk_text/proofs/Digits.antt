-- The hexadecimal digits of bytes, piece by piece.
use Rattle.std.proofs.Common.{◌≡◌, ℕ, List, [], ◌∷◌, ◌++◌, refl, sym, ap, ◌∙◌, append_assoc}
use Rattle.hex.specs.Hex.{encode_lower, encode_with, lower_digits}

encode_with-append : (t a b : List ℕ) → encode_with t (a ++ b) ≡ encode_with t a ++ encode_with t b
unfolding encode_with
encode_with-append t [] b = refl
encode_with-append t (x ∷ a) b = ap (λ digits. encode_with t (x ∷ []) ++ digits) (encode_with-append t a b)

-- the digits of no bytes
pub digits-nil : encode_lower [] ≡ []
unfolding encode_with
digits-nil = refl

-- the digits of a piece, and then those of the others
pub digits-append : (a b : List ℕ) → encode_lower (a ++ b) ≡ encode_lower a ++ encode_lower b
digits-append a b = encode_with-append lower_digits a b

-- the first of what was to be put is put, and the others are left
pub first_put : (out new first others all whole : List ℕ) → new ≡ out ++ first → all ≡ first ++ others → out ++ all ≡ whole → new ++ others ≡ whole
first_put out new first others all whole put parts before =
    ap (λ (t : List ℕ). t ++ others) put ∙ append_assoc out first others ∙ ap (λ (t : List ℕ). out ++ t) (sym parts) ∙ before
