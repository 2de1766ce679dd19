-- Bytes in hexadecimal are read back.
use Rattle.std.proofs.Common.{◌≡◌, ℕ, suc, ◌+◌, ◌*◌, ◌/◌, ◌%◌, ◌<◌, Bool, true, false, ◌||◌, ◌==◌, List, [], ◌∷◌, slice_index, Option, Some, None, Result, Ok, Err, refl, sym, ap, ap₂, ◌∙◌, arith, inl, inr}
use Rattle.std.proofs.lemmas.Bool.{agree_below_at, or_parts, or_from, eqb-true}
use Rattle.std.proofs.lemmas.Bool.Decides.{nat_tests}
use Rattle.std.proofs.lemmas.Option.{same_Some}
use Rattle.std.specs.Char.{is_ascii_uppercase}
use Rattle.std.specs.List.{list_any}
use Rattle.std.specs.Result.{result_ok}
use Rattle.hex.specs.Hex.{decode_of, decode_pairs, digit_or_error, encode_lower, encode_with, hex_digit_value, lower_digits, pair_value, value_at, ◌>>=◌}
use Rattle.hex.specs.declared.error.FromHexError.{FromHexError}
use Rattle.hex.proofs.HexLemmas.{decode_of-encode_lower, decode_of-even, decode_of-ok}
use Rattle.bk_codec.proofs.Steps.{chosen}
use Rattle.bk_codec.specs.Spelling.{IsBytes}
use Rattle.bk_parse.specs.Inverse.{Inverts}
use Rattle.bk_parse.specs.HexBytes.{bytes_of}

-- ---- digits

-- a digit in lower case is the one that stands at its value
abbrev stands_there : ℕ → Option ℕ → Bool
stands_there c None = true
stands_there c (Some v) = slice_index lower_digits v == c

digit_there : (c v : ℕ) → is_ascii_uppercase c ≡ false → hex_digit_value c ≡ Some v → slice_index lower_digits v ≡ c
digit_there c v lower value =
    let below : c < 103 = grind (arith, nat_tests) in
    let test : (is_ascii_uppercase c || stands_there c (hex_digit_value c)) ≡ true =
    agree_below_at (λ x. is_ascii_uppercase x || stands_there x (hex_digit_value x)) (λ x. true) 103 c refl below in
    eqb-true (slice_index lower_digits v) c (rw (lower, value) at test)

lower_case : (d : ℕ) → d < 16 → is_ascii_uppercase (slice_index lower_digits d) ≡ false
lower_case d below = agree_below_at (λ x. is_ascii_uppercase (slice_index lower_digits x)) (λ x. false) 16 d refl below

-- ---- pairs

ok_value : {A : Type 0} (x y : A) → ◌≡◌ {A = Result A FromHexError} (Ok x) (Ok y) → x ≡ y
ok_value x y e = cc

step_ok : {A B : Type 0} (r : Result A FromHexError) (f : A → Result B FromHexError) (y : B) → (r >>= f) ≡ Ok y → (x : A) × (r ≡ Ok x) × (f x ≡ Ok y)
step_ok (Ok x) f y e = (x, refl, e)
step_ok (Err d) f y e = absurd cc

digit_read : (c i : ℕ) (o : Option ℕ) (v : ℕ) → digit_or_error c i o ≡ Ok v → o ≡ Some v
digit_read c i (Some w) v e = ap (λ (x : ℕ). Some x) (ok_value w v e)
digit_read c i None v e = absurd cc

value_small : (c v : ℕ) → hex_digit_value c ≡ Some v → v < 16
value_small c v e = grind arith

pairs_back : (i : ℕ) (t bytes : List ℕ) → list_any is_ascii_uppercase t ≡ false → decode_pairs i t ≡ Ok bytes → encode_lower bytes ≡ t
unfolding decode_pairs encode_with
pairs_back i [] bytes lower e = ap encode_lower (sym (ok_value [] bytes e))
pairs_back i (a ∷ []) bytes lower e = absurd cc
pairs_back i (a ∷ b ∷ rest) bytes lower e =
    let byte = step_ok (pair_value a b i) _ bytes e in
    let high = step_ok (value_at a i) _ byte.0 byte.1 in
    let low = step_ok (value_at b (i + 1)) _ byte.0 high.2 in
    let others = step_ok (decode_pairs (i + 2) rest) _ bytes byte.2 in
    let whole : byte.0 ∷ others.0 ≡ bytes = ok_value (byte.0 ∷ others.0) bytes others.2 in
    let is : high.0 * 16 + low.0 ≡ byte.0 = ok_value (high.0 * 16 + low.0) byte.0 low.2 in
    let first = or_parts (is_ascii_uppercase a) (list_any is_ascii_uppercase (b ∷ rest)) lower in
    let second = or_parts (is_ascii_uppercase b) (list_any is_ascii_uppercase rest) first.1 in
    let high_value = digit_read a i (hex_digit_value a) high.0 high.1 in
    let low_value = digit_read b (i + 1) (hex_digit_value b) low.0 low.1 in
    let small = value_small b low.0 low_value in
    let upper_half : byte.0 / 16 ≡ high.0 = omega arith in
    let lower_half : byte.0 % 16 ≡ low.0 = omega arith in
    ap encode_lower (sym whole)
    ∙ ap₂ (λ (x y : ℕ). x ∷ y ∷ encode_lower others.0)
    (ap (slice_index lower_digits) upper_half ∙ digit_there a high.0 first.0 high_value)
    (ap (slice_index lower_digits) lower_half ∙ digit_there b low.0 second.0 low_value)
    ∙ ap (λ (ds : List ℕ). a ∷ b ∷ ds) (pairs_back (i + 2) rest others.0 second.1 others.1)

pub encoded_lower : (bytes : List ℕ) → IsBytes bytes → list_any is_ascii_uppercase (encode_lower bytes) ≡ false
unfolding encode_with
encoded_lower [] h = refl
encoded_lower (b ∷ bytes) h =
    let fits : b < 256 = h 0 in
    or_from2 (is_ascii_uppercase (slice_index lower_digits (b / 16))) (is_ascii_uppercase (slice_index lower_digits (b % 16))) (list_any is_ascii_uppercase (encode_lower bytes))
    (lower_case (b / 16) (omega arith)) (lower_case (b % 16) (omega arith)) (encoded_lower bytes (λ i. h (suc i)))
  where
    or_from2 : (x y z : Bool) → x ≡ false → y ≡ false → z ≡ false → (x || (y || z)) ≡ false
    or_from2 x y z p q r = or_from x (y || z) p (or_from y z q r)

-- ---- texts

ok_some : {A E : Type 0} (r : Result A E) (x : A) → result_ok r ≡ Some x → r ≡ Ok x
ok_some (Ok y) x e = ap (λ (z : _). Ok z) (same_Some y x e)
ok_some (Err d) x e = absurd cc

bytes_found : (t bytes : List ℕ) → bytes_of t ≡ Some bytes → IsBytes bytes × (encode_lower bytes ≡ t)
bytes_found t bytes e =
    elim (chosen (list_any is_ascii_uppercase t) None (result_ok (decode_of t)) (Some bytes) e) [
      | inl upper ↦ absurd (let h = upper.1 in cc)
      | inr lower ↦
          let read = ok_some (decode_of t) bytes lower.1 in
          let facts = decode_of-ok t bytes read in
          (facts.3, pairs_back 0 t bytes lower.0 (sym (decode_of-even t facts.0) ∙ read))
    ]

bytes_back : (bytes : List ℕ) → IsBytes bytes → bytes_of (encode_lower bytes) ≡ Some bytes
bytes_back bytes h = rw (encoded_lower bytes h, decode_of-encode_lower bytes h) refl

pub bytes_invert : Inverts bytes_of IsBytes encode_lower
bytes_invert = record { found = bytes_found; only = bytes_back }
