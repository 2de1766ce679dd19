-- A number of one digit or two is put digit by digit.
use Rattle.std.proofs.Common.{◌≡◌, ℕ, ◌+◌, ◌/◌, ◌%◌, ◌<◌, ◌≤◌, List, [], ◌∷◌, ◌++◌, sym, ap, ◌∙◌, append_assoc, arith}
use Rattle.std.proofs.lemmas.Fmt.{decimal_digit, decimal_step}
use Rattle.std.specs.Fmt.{decimal}

two_digits : (n : ℕ) → 10 ≤ n → n < 100 → decimal n ≡ (48 + n / 10) ∷ (48 + n % 10) ∷ []
two_digits n low high = rw (decimal_step n low (omega arith), decimal_digit (n / 10) (omega arith))

pub one_digit_put : (old new : List ℕ) (n : ℕ) → n < 10 → new ≡ old ++ (48 + n) ∷ [] → new ≡ old ++ decimal n
one_digit_put old new n small put = put ∙ ap (λ (digits : List ℕ). old ++ digits) (sym (decimal_digit n small))

pub two_digits_put : (old between new : List ℕ) (n : ℕ) → 10 ≤ n → n < 100 → between ≡ old ++ (48 + n / 10) ∷ [] → new ≡ between ++ (48 + n % 10) ∷ [] → new ≡ old ++ decimal n
two_digits_put old between new n low high first second =
    second
    ∙ ap (λ (t : List ℕ). t ++ (48 + n % 10) ∷ []) first
    ∙ append_assoc old ((48 + n / 10) ∷ []) ((48 + n % 10) ∷ [])
    ∙ ap (λ (digits : List ℕ). old ++ digits) (sym (two_digits n low high))
