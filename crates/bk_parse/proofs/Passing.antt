-- Which bytes stand in texts.
use Rattle.std.proofs.Common.{◌≡◌, ◌≢◌, ℕ, zero, suc, ◌/◌, ◌%◌, ◌<◌, Bool, true, false, ◌||◌, ◌==◌, List, [], ◌∷◌, ◌++◌, slice_index, ℤ, pos, negsuc, All, decimal, flat_map, refl, sym, ap, ◌∙◌, arith}
use Rattle.std.specs.Char.{is_ascii_digit}
use Rattle.std.specs.Fmt.{digit_glyph, digits, digits_onto, signed_decimal}
use Rattle.std.specs.Int.{is_in_range}
use Rattle.std.specs.List.{list_all, join_by}
use Rattle.std.proofs.lemmas.Bool.{agree_below_at, and_from, and_parts, cond_both, or_right, both_ways}
use Rattle.std.proofs.lemmas.List.Elements.{All-nil, All-cons, All-head, All-tail}
use Rattle.std.proofs.lemmas.List.Folds.{list_all-append}
use Rattle.hex.specs.Hex.{encode_lower, encode_with, lower_digits}
use Rattle.bk_codec.specs.Spelling.{IsBytes}
use Rattle.bk_parse.specs.Parts.{Lacks}

module _ {A : Type 0} (test : A → Bool) where
  pub passes_append : (a b : List A) → list_all test a ≡ true → list_all test b ≡ true → list_all test (a ++ b) ≡ true
  passes_append a b p q = list_all-append test a b ∙ and_from (list_all test a) (list_all test b) p q

  pub passes_weaker : (weaker : A → Bool) → ((x : A) → test x ≡ true → weaker x ≡ true) → (xs : List A) → list_all test xs ≡ true → list_all weaker xs ≡ true
  passes_weaker weaker so [] h = refl
  passes_weaker weaker so (x ∷ xs) h =
      let parts = and_parts (test x) (list_all test xs) h in
      and_from (weaker x) (list_all weaker xs) (so x parts.0) (passes_weaker weaker so xs parts.1)

module _ (test : ℕ → Bool) where
  -- a byte that fails the test is not in a text whose bytes pass it
  pub lacks_from : (c : ℕ) (t : List ℕ) → test c ≡ false → list_all test t ≡ true → Lacks c t
  lacks_from c [] fails h = All-nil (λ b. b ≢ c)
  lacks_from c (b ∷ t) fails h =
      let parts = and_parts (test b) (list_all test t) h in
      All-cons (λ b. b ≢ c) b t (λ same. both_ways (test c) fails (ap test (sym same) ∙ parts.0)) (lacks_from c t fails parts.1)

  -- texts of values with a separator between each two
  pub passes_behind : {A : Type 0} (Is : A → Type 0) (text : A → List ℕ) (separator : List ℕ) → list_all test separator ≡ true → ((x : A) → Is x → list_all test (text x) ≡ true)
      → (xs : List A) → All Is xs → list_all test (flat_map (λ x. separator ++ text x) xs) ≡ true
  passes_behind Is text separator between each [] h = refl
  passes_behind Is text separator between each (x ∷ xs) h =
      passes_append test (separator ++ text x) (flat_map (λ x. separator ++ text x) xs) (passes_append test separator (text x) between (each x (All-head Is x xs h))) (passes_behind Is text separator between each xs (All-tail Is x xs h))

  pub passes_joined : {A : Type 0} (Is : A → Type 0) (text : A → List ℕ) (separator : List ℕ) → list_all test separator ≡ true → ((x : A) → Is x → list_all test (text x) ≡ true)
      → (xs : List A) → All Is xs → list_all test (join_by text separator xs) ≡ true
  passes_joined Is text separator between each [] h = refl
  passes_joined Is text separator between each (x ∷ xs) h =
      passes_append test (text x) (flat_map (λ x. separator ++ text x) xs) (each x (All-head Is x xs h)) (passes_behind Is text separator between each xs (All-tail Is x xs h))

-- ---- numbers and bytes

digit : (d : ℕ) → d < 10 → is_ascii_digit (digit_glyph false d) ≡ true
digit d below = agree_below_at (λ x. is_ascii_digit (digit_glyph false x)) (λ x. true) 10 d refl below

digits_onto_pass : (k n : ℕ) (text : List ℕ) → list_all is_ascii_digit text ≡ true → list_all is_ascii_digit (digits_onto k 10 false n text) ≡ true
digits_onto_pass zero n text h = h
digits_onto_pass (suc k) n text h =
    let first = digit_glyph false (n % 10) in
    let more : list_all is_ascii_digit (first ∷ text) ≡ true = and_from (is_ascii_digit first) (list_all is_ascii_digit text) (digit (n % 10) (omega arith)) h in
    cond_both (n / 10 == 0) (first ∷ text) (digits_onto k 10 false (n / 10) (first ∷ text)) (λ t. list_all is_ascii_digit t ≡ true) (λ last. more) (λ others. digits_onto_pass k (n / 10) (first ∷ text) more)

pub decimal_passes : (n : ℕ) → list_all is_ascii_digit (decimal n) ≡ true
unfolding digits
decimal_passes n = digits_onto_pass 64 n [] refl

-- the bytes of a number with its sign
abbrev pub is_signed_byte : ℕ → Bool
is_signed_byte b = b == 45 || is_ascii_digit b

signed_byte : (b : ℕ) → is_ascii_digit b ≡ true → is_signed_byte b ≡ true
signed_byte b digit = or_right (b == 45) (is_ascii_digit b) digit

pub signed_passes : (z : ℤ) → list_all is_signed_byte (signed_decimal z) ≡ true
signed_passes (pos n) = passes_weaker is_ascii_digit is_signed_byte signed_byte (decimal n) (decimal_passes n)
signed_passes (negsuc n) = passes_weaker is_ascii_digit is_signed_byte signed_byte (decimal (suc n)) (decimal_passes (suc n))

-- the digits of bytes
abbrev pub is_lower_digit : ℕ → Bool
is_lower_digit b = is_ascii_digit b || is_in_range 97 102 b

lower_digit : (d : ℕ) → d < 16 → is_lower_digit (slice_index lower_digits d) ≡ true
lower_digit d below = agree_below_at (λ x. is_lower_digit (slice_index lower_digits x)) (λ x. true) 16 d refl below

pub encoded_passes : (bytes : List ℕ) → IsBytes bytes → list_all is_lower_digit (encode_lower bytes) ≡ true
unfolding encode_with
encoded_passes [] h = refl
encoded_passes (b ∷ bytes) h =
    let fits : b < 256 = h 0 in
    and_from (is_lower_digit (slice_index lower_digits (b / 16))) _ (lower_digit (b / 16) (omega arith))
    (and_from (is_lower_digit (slice_index lower_digits (b % 16))) _ (lower_digit (b % 16) (omega arith)) (encoded_passes bytes (λ i. h (suc i))))
