-- Bytes in rows of 32.
use Rattle.std.proofs.Common.{◌≡◌, ℕ, zero, suc, ◌+◌, ◌*◌, ◌<◌, ◌≤◌, min, List, [], ◌∷◌, ◌++◌, length, take, drop, map, refl, ap, subst, ◌∙◌, arith, append-nil, length-append}
use Rattle.std.proofs.Math.Seq.{drop-append-add}
use Rattle.std.proofs.lemmas.List.{take_all, take_at}
use Rattle.std.specs.Prelude.{codes}
use Rattle.std.specs.List.{range_with_len}
use Rattle.std.specs.Int.{div_ceil}
use Rattle.hex.specs.Hex.{encode_lower}
use Rattle.listing_out.specs.Lines.{payload_line, payload_lines}

-- the same items, counted from elsewhere
map-shift : {X : Type 0} (f g : ℕ → X) (a b n : ℕ) → ((j : ℕ) → f (a + j) ≡ g (b + j)) → map f (range_with_len a n) ≡ map g (range_with_len b n)
map-shift f g a b zero same = refl
map-shift f g a b (suc n) same =
    let left_first : a ≡ a + 0 = omega arith in
    let right_first : b + 0 ≡ b = omega arith in
    let first : f a ≡ g b = ap f left_first ∙ same 0 ∙ ap g right_first in
    let later : (j : ℕ) → f (a + 1 + j) ≡ g (b + 1 + j) = λ j.
    let left : a + 1 + j ≡ a + (1 + j) = omega arith in
    let right : b + (1 + j) ≡ b + 1 + j = omega arith in
    ap f left ∙ same (1 + j) ∙ ap g right in
    ap (λ x. x ∷ map f (range_with_len (a + 1) n)) first
    ∙ ap (λ xs. g b ∷ xs) (map-shift f g (a + 1) (b + 1) n later)

count-short : (n : ℕ) → 0 < n → n ≤ 32 → div_ceil n 32 ≡ 1
count-short n some few = omega arith

count-more : (n : ℕ) → div_ceil (32 + n) 32 ≡ suc (div_ceil n 32)
count-more n = omega arith

-- the lines of a row that may be short and has none behind it
lines-last : (row : List ℕ) → 0 < length row → length row ≤ 32 → payload_lines row ≡ (codes "  " ++ encode_lower row) ∷ []
lines-last row some few =
    ap (λ n. map (payload_line row) (range_with_len 0 n)) (count-short (length row) some few)
    ∙ ap (λ (bytes : List ℕ). (codes "  " ++ encode_lower bytes) ∷ []) (take_all 32 row few)

-- the lines of a full row, and then those of the others
lines-full : (row rest : List ℕ) → length row ≡ 32 → payload_lines (row ++ rest) ≡ (codes "  " ++ encode_lower row) ∷ payload_lines rest
lines-full row rest full =
    let bytes = row ++ rest in
    let count : length bytes ≡ 32 + length rest = omega (arith, length-append row rest) in
    let others : (j : ℕ) → payload_line bytes (1 + j) ≡ payload_line rest (0 + j) = λ j.
    let place : (1 + j) * 32 ≡ length row + (0 + j) * 32 = omega arith in
    ap (λ (n : ℕ). codes "  " ++ encode_lower (take 32 (drop n bytes))) place
    ∙ ap (λ (xs : List ℕ). codes "  " ++ encode_lower (take 32 xs)) (drop-append-add row rest ((0 + j) * 32)) in
    ap (λ n. map (payload_line bytes) (range_with_len 0 n)) (ap (λ n. div_ceil n 32) count ∙ count-more (length rest))
    ∙ ap (λ (xs : List ℕ). (codes "  " ++ encode_lower xs) ∷ map (payload_line bytes) (range_with_len 1 (div_ceil (length rest) 32))) (take_at row rest 32 full)
    ∙ ap (λ xs. (codes "  " ++ encode_lower row) ∷ xs) (map-shift (payload_line bytes) (payload_line rest) 1 0 (div_ceil (length rest) 32) others)

-- the lines of the bytes that come first, and then those of the others
lines-joined : (row rest : List ℕ) → length row ≡ min 32 (length (row ++ rest)) → 0 < length (row ++ rest)
    → payload_lines (row ++ rest) ≡ (codes "  " ++ encode_lower row) ∷ payload_lines rest
lines-joined row [] size some =
    let none = append-nil row in
    let sum = length-append row [] in
    ap payload_lines none ∙ lines-last row (omega arith) (omega arith)
lines-joined row (b ∷ rest) size some = lines-full row (b ∷ rest) (omega (arith, length-append row (b ∷ rest)))

pub lines-first : (all row rest : List ℕ) → all ≡ row ++ rest → length row ≡ min 32 (length all) → 0 < length all
    → payload_lines all ≡ (codes "  " ++ encode_lower row) ∷ payload_lines rest
lines-first all row rest parts size some =
    let row_size : length row ≡ min 32 (length (row ++ rest)) = subst (λ (xs : List ℕ). length row ≡ min 32 (length xs)) parts size in
    let row_some : 0 < length (row ++ rest) = subst (λ (xs : List ℕ). 0 < length xs) parts some in
    ap payload_lines parts ∙ lines-joined row rest row_size row_some
