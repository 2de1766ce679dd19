-- Lines without their comments and the spaces at their ends.
use Rattle.std.proofs.Common.{◌≡◌, ℕ, zero, suc, ◌+◌, ◌-◌, ◌<◌, ◌≤◌, ◌==◌, Bool, false, cond, List, [], ◌∷◌, ◌++◌, length, take, get_or, refl, sym, ap, ◌∙◌, arith}
use Rattle.std.proofs.lemmas.Bool.{false_from_ne_true}
use Rattle.std.proofs.lemmas.List.{take_more}
use Rattle.memchr.specs.Find.{NoneBefore, Nowhere, Passes, is_byte}
use Rattle.listing_out.specs.Listing.{before_line, trimmed, uncommented}

-- ---- the end of a line

pub trimmed_space : (line : List ℕ) → trimmed (line ++ 32 ∷ []) ≡ trimmed line
trimmed_space [] = refl
trimmed_space (b ∷ line) = ap (before_line b) (trimmed_space line)

before_more : (b c : ℕ) (line : List ℕ) → before_line b (line ++ c ∷ []) ≡ b ∷ (line ++ c ∷ [])
before_more b c [] = refl
before_more b c (d ∷ line) = refl

pub trimmed_other : (line : List ℕ) (b : ℕ) → (b == 32) ≡ false → trimmed (line ++ b ∷ []) ≡ line ++ b ∷ []
trimmed_other [] b other = ap (λ (t : Bool). cond t [] (b ∷ [])) other
trimmed_other (c ∷ line) b other = ap (before_line c) (trimmed_other line b other) ∙ before_more c b line

-- a line up to its last byte
pub up_to : (line : List ℕ) (end : ℕ) → 0 < end → end ≤ length line → take end line ≡ take (end - 1) line ++ get_or line (end - 1) 0 ∷ []
up_to line end some within =
    let one : end ≡ end - 1 + 1 = omega arith in
    ap (λ (n : ℕ). take n line) one ∙ take_more line (end - 1) 0 (omega arith)

pub trimmed_less : (line : List ℕ) (end : ℕ) → 0 < end → end ≤ length line → get_or line (end - 1) 0 ≡ 32 → trimmed (take (end - 1) line) ≡ trimmed (take end line)
trimmed_less line end some within space =
    sym (trimmed_space (take (end - 1) line)) ∙ ap (λ (b : ℕ). trimmed (take (end - 1) line ++ b ∷ [])) (sym space) ∙ ap trimmed (sym (up_to line end some within))

pub trimmed_whole : (line : List ℕ) (end : ℕ) → 0 < end → end ≤ length line → (get_or line (end - 1) 0 == 32) ≡ false → trimmed (take end line) ≡ take end line
trimmed_whole line end some within other =
    let last = up_to line end some within in
    ap trimmed last ∙ trimmed_other (take (end - 1) line) (get_or line (end - 1) 0) other ∙ sym last

-- ---- the first semicolon of a line

pub comment_at : (line : List ℕ) (end : ℕ) → NoneBefore (Passes (is_byte 59) line) 0 (length line) end → Passes (is_byte 59) line end → uncommented line ≡ take end line
comment_at [] end none is = absurd (let high = none.high in omega (arith, high))
comment_at (b ∷ line) zero none is = ap (λ (t : Bool). cond t [] (b ∷ uncommented line)) is
comment_at (b ∷ line) (suc end) none is =
    let high = none.high in
    let first : (b == 59) ≡ false = false_from_ne_true (b == 59) (none.before 0 (omega arith) (omega arith)) in
    let later : NoneBefore (Passes (is_byte 59) line) 0 (length line) end = record { low = omega arith; high = omega (arith, high); before = λ k low below. none.before (suc k) (omega arith) (omega (arith, below)) } in
    ap (λ (t : Bool). cond t [] (b ∷ uncommented line)) first ∙ ap (λ (t : List ℕ). b ∷ t) (comment_at line end later is)

pub comment_none : (line : List ℕ) → Nowhere (Passes (is_byte 59) line) 0 (length line) → uncommented line ≡ line
comment_none [] none = refl
comment_none (b ∷ line) none =
    let first : (b == 59) ≡ false = false_from_ne_true (b == 59) (none 0 (omega arith) (omega arith)) in
    ap (λ (t : Bool). cond t [] (b ∷ uncommented line)) first ∙ ap (λ (t : List ℕ). b ∷ t) (comment_none line (λ k low below. none (suc k) (omega arith) (omega (arith, below))))
