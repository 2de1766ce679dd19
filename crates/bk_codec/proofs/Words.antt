-- Lists of a few words are made of their words.
use Rattle.std.proofs.Common.{◌≡◌, ℕ, List, [], ◌∷◌, length, get_or, refl, ap, arith}

pub three_words : (ws : List ℕ) → length ws ≡ 3 → get_or ws 0 0 ∷ get_or ws 1 0 ∷ get_or ws 2 0 ∷ [] ≡ ws
three_words (a ∷ b ∷ c ∷ []) e = refl
three_words (a ∷ b ∷ c ∷ d ∷ ws) e = absurd (omega arith)
three_words (a ∷ b ∷ []) e = absurd (omega arith)
three_words (a ∷ []) e = absurd (omega arith)
three_words [] e = absurd (omega arith)

pub six_words : (ws : List ℕ) → length ws ≡ 6 → get_or ws 0 0 ∷ get_or ws 1 0 ∷ get_or ws 2 0 ∷ get_or ws 3 0 ∷ get_or ws 4 0 ∷ get_or ws 5 0 ∷ [] ≡ ws
six_words (a ∷ b ∷ c ∷ ws) e =
    ap (λ (others : List ℕ). a ∷ b ∷ c ∷ others) (three_words ws (omega arith))
six_words (a ∷ b ∷ []) e = absurd (omega arith)
six_words (a ∷ []) e = absurd (omega arith)
six_words [] e = absurd (omega arith)
