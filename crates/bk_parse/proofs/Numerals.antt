-- Numbers in decimal are read back.
use Rattle.std.proofs.Common.{◌≡◌, ℕ, ◌+◌, ◌*◌, ◌/◌, ◌%◌, ◌^◌, ◌<◌, ◌≤◌, true, false, ◌&&◌, nat_lt, eqb, List, [], ◌∷◌, ◌++◌, length, get_or, Some, None, decimal, refl, sym, ap, ◌∙◌, arith, append_assoc, append-nil, inl, inr}
use Rattle.std.proofs.lemmas.Bool.{and_parts, and_from, ltb-true, lt-ltb, eqb-false}
use Rattle.std.proofs.lemmas.Bool.Decides.{nat_tests}
use Rattle.std.proofs.lemmas.Fmt.{decimal_is_IsNumeral_wide, decimal_step_wide, decimal_by_steps_wide, decimal_digit}
use Rattle.std.proofs.lemmas.Str.{digit_value_digit}
use Rattle.std.proofs.lemmas.Str.Parse.{digit_from_value}
use Rattle.std.proofs.lemmas.Option.{same_Some}
use Rattle.std.specs.Char.{digit_value, is_ascii_digit}
use Rattle.std.specs.Int.{IsInRange}
use Rattle.std.specs.List.{list_all}
use Rattle.std.specs.Str.Parse.{AllDigits, digits_value, digits_value_after}
use Rattle.bk_codec.proofs.Steps.{chosen}
use Rattle.bk_parse.specs.Inverse.{Inverts}
use Rattle.bk_parse.specs.Numbers.{is_numeral, number_of}

-- ---- digits

digit_range : (c : ℕ) → is_ascii_digit c ≡ true → IsInRange 48 57 c
digit_range c e = grind (arith, nat_tests)

digit_passes : (c : ℕ) → 48 ≤ c → c ≤ 57 → is_ascii_digit c ≡ true
digit_passes c low high = grind (arith, nat_tests)

digit_below : (c : ℕ) → is_ascii_digit c ≡ true → digit_value c < 10
digit_below c e =
    let range = digit_range c e in
    omega (arith, range, digit_value_digit c range)

pub all_digits : (ds : List ℕ) → list_all is_ascii_digit ds ≡ true → AllDigits 10 ds
all_digits [] e = tt
all_digits (c ∷ cs) e =
    let parts = and_parts (is_ascii_digit c) (list_all is_ascii_digit cs) e in
    (digit_below c parts.0, all_digits cs parts.1)

list_all-push : (ds : List ℕ) (c : ℕ) → list_all is_ascii_digit ds ≡ true → is_ascii_digit c ≡ true → list_all is_ascii_digit (ds ++ c ∷ []) ≡ true
list_all-push [] c e d = and_from (is_ascii_digit c) true d refl
list_all-push (x ∷ ds) c e d =
    let parts = and_parts (is_ascii_digit x) (list_all is_ascii_digit ds) e in
    and_from (is_ascii_digit x) (list_all is_ascii_digit (ds ++ c ∷ [])) parts.0 (list_all-push ds c parts.1 d)

pub digits_pass : (ds : List ℕ) → AllDigits 10 ds → list_all is_ascii_digit ds ≡ true
digits_pass [] h = refl
digits_pass (c ∷ cs) h =
    let range = digit_from_value c h.0 in
    and_from (is_ascii_digit c) (list_all is_ascii_digit cs) (digit_passes c (omega (arith, range)) (omega (arith, range))) (digits_pass cs h.1)

-- ---- numerals

-- a numeral is all digits
pub numeral_digits : (ds : List ℕ) → is_numeral ds ≡ true → list_all is_ascii_digit ds ≡ true
numeral_digits [] e = absurd cc
numeral_digits (c ∷ []) e = and_from (is_ascii_digit c) true e refl
numeral_digits (c ∷ d ∷ ds) e =
    elim (chosen (eqb c 48) false (list_all is_ascii_digit (c ∷ d ∷ ds)) true e) [
      | inl zero ↦ absurd (let h = zero.1 in cc)
      | inr other ↦ other.1
    ]

pub numeral_length : (ds : List ℕ) → is_numeral ds ≡ true → 0 < length ds
numeral_length [] e = absurd cc
numeral_length (c ∷ ds) e = omega arith

-- zero stands first only where it is alone
pub numeral_zero : (ds : List ℕ) → is_numeral ds ≡ true → get_or ds 0 0 ≡ 48 → length ds ≡ 1
numeral_zero [] e z = absurd cc
numeral_zero (c ∷ []) e z = refl
numeral_zero (c ∷ d ∷ ds) e z =
    elim (chosen (eqb c 48) false (list_all is_ascii_digit (c ∷ d ∷ ds)) true e) [
      | inl zero ↦ absurd (let h = zero.1 in cc)
      | inr other ↦ absurd (eqb-false c 48 other.0 z)
    ]

-- digits of which the first is not zero
pub numeral_from : (ds : List ℕ) → list_all is_ascii_digit ds ≡ true → 0 < length ds → (get_or ds 0 0 ≡ 48 → length ds ≡ 1) → is_numeral ds ≡ true
numeral_from [] e some lead = absurd (omega arith)
numeral_from (c ∷ []) e some lead = (and_parts (is_ascii_digit c) true e).0
numeral_from (c ∷ d ∷ ds) e some lead =
    let other : c ≡ 48 → ⊥ = λ z. omega (arith, lead z) in
    grind (arith, nat_tests)

numeral_push : (ds : List ℕ) (c : ℕ) → is_numeral ds ≡ true → 48 < get_or ds 0 0 → is_ascii_digit c ≡ true → is_numeral (ds ++ c ∷ []) ≡ true
numeral_push [] c e first digit = absurd cc
numeral_push (d ∷ ds) c e first digit =
    numeral_from (d ∷ ds ++ c ∷ []) (list_all-push (d ∷ ds) c (numeral_digits (d ∷ ds) e) digit) (omega arith) (λ z. absurd (omega arith))

first_push : (ds : List ℕ) (c : ℕ) → 48 < get_or ds 0 0 → 48 < get_or (ds ++ c ∷ []) 0 0
first_push [] c first = absurd (omega arith)
first_push (d ∷ ds) c first = first

-- ---- what is written is a numeral

record Written (n : ℕ) (ds : List ℕ) : Type 0 where
  numeral : is_numeral ds ≡ true
  first : 0 < n → 48 < get_or ds 0 0

written_one : (n : ℕ) → n < 10 → Written n ((48 + n) ∷ [])
written_one n small = record { numeral = digit_passes (48 + n) (omega arith) (omega arith); first = λ some. omega arith }

written_more : (n : ℕ) (ds : List ℕ) → 10 ≤ n → Written (n / 10) ds → Written n (ds ++ ((48 + n % 10) ∷ []))
written_more n ds large before =
    let first : 48 < get_or ds 0 0 = before.first (omega arith) in
    record {
      numeral = numeral_push ds (48 + n % 10) before.numeral first (digit_passes (48 + n % 10) (omega arith) (omega arith));
      first = λ some. first_push ds (48 + n % 10) first;
    }

pub decimal_is_numeral : (n : ℕ) → n < 10 ^ 64 → is_numeral (decimal n) ≡ true
decimal_is_numeral n small = (decimal_by_steps_wide Written written_one written_more n small).numeral

-- ---- what is read is written so

value_grows : (n : ℕ) (ds : List ℕ) → n ≤ digits_value_after 10 n ds
value_grows n [] = omega arith
value_grows n (c ∷ cs) = omega (arith, value_grows (n * 10 + digit_value c) cs)

decimal_after : (n : ℕ) (ds : List ℕ) → 0 < n → AllDigits 10 ds → digits_value_after 10 n ds < 10 ^ 64 → decimal (digits_value_after 10 n ds) ≡ decimal n ++ ds
decimal_after n [] some digits small = sym (append-nil (decimal n))
decimal_after n (c ∷ cs) some digits small =
    let m : ℕ = n * 10 + digit_value c in
    let value = digit_value_digit c (digit_from_value c digits.0) in
    let front : m / 10 ≡ n = omega (arith, digits.0) in
    let end : 48 + m % 10 ≡ c = omega (arith, digits.0) in
    decimal_after m cs (omega arith) digits.1 small
    ∙ ap (λ (x : List ℕ). x ++ cs) (decimal_step_wide m (omega arith) (omega (arith, value_grows m cs)) ∙ (λ i. decimal (front i) ++ (end i ∷ [])))
    ∙ append_assoc (decimal n) (c ∷ []) cs

pub decimal_value : (ds : List ℕ) → is_numeral ds ≡ true → AllDigits 10 ds → digits_value 10 ds < 10 ^ 64 → decimal (digits_value 10 ds) ≡ ds
decimal_value [] e digits small = absurd cc
decimal_value (c ∷ []) e digits small =
    let value = digit_value_digit c (digit_from_value c digits.0) in
    decimal_digit (0 * 10 + digit_value c) (omega (arith, digits.0)) ∙ ap (λ (x : ℕ). x ∷ []) (omega arith)
decimal_value (c ∷ d ∷ ds) e digits small =
    let value = digit_value_digit c (digit_from_value c digits.0) in
    let other : c ≡ 48 → ⊥ = λ z. omega (arith, numeral_zero (c ∷ d ∷ ds) e z) in
    let is : 48 + (0 * 10 + digit_value c) ≡ c = omega arith in
    decimal_after (0 * 10 + digit_value c) (d ∷ ds) (omega arith) digits.1 small
    ∙ ap (λ (x : List ℕ). x ++ (d ∷ ds)) (decimal_digit (0 * 10 + digit_value c) (omega (arith, digits.0)) ∙ ap (λ (x : ℕ). x ∷ []) is)

-- ---- numbers below a limit

-- what is read as a number begins with a digit
pub first_digit : (limit n : ℕ) (t : List ℕ) → number_of limit t ≡ Some n → is_ascii_digit (get_or t 0 0) ≡ true
first_digit limit n [] e = absurd cc
first_digit limit n (c ∷ t) e =
    elim (chosen (is_numeral (c ∷ t) && nat_lt (digits_value 10 (c ∷ t)) limit) (Some (digits_value 10 (c ∷ t))) None (Some n) e) [
      | inl read ↦
          let parts = and_parts (is_numeral (c ∷ t)) (nat_lt (digits_value 10 (c ∷ t)) limit) read.0 in
          (and_parts (is_ascii_digit c) (list_all is_ascii_digit t) (numeral_digits (c ∷ t) parts.0)).0
      | inr none ↦ absurd (let h = none.1 in cc)
    ]

number_found : (limit : ℕ) → limit ≤ 10 ^ 64 → (t : List ℕ) (n : ℕ) → number_of limit t ≡ Some n → (n < limit) × (decimal n ≡ t)
number_found limit wide t n e =
    elim (chosen (is_numeral t && nat_lt (digits_value 10 t) limit) (Some (digits_value 10 t)) None (Some n) e) [
      | inl read ↦
          let parts = and_parts (is_numeral t) (nat_lt (digits_value 10 t) limit) read.0 in
          let below = ltb-true (digits_value 10 t) limit parts.1 in
          let same = same_Some (digits_value 10 t) n read.1 in
          let digits = all_digits t (numeral_digits t parts.0) in
          let small : digits_value 10 t < 10 ^ 64 = omega arith in
          (omega arith, ap decimal (sym same) ∙ decimal_value t parts.0 digits small)
      | inr none ↦ absurd (let h = none.1 in cc)
    ]

number_back : (limit : ℕ) → limit ≤ 10 ^ 64 → (n : ℕ) → n < limit → number_of limit (decimal n) ≡ Some n
number_back limit wide n below =
    let numeral = decimal_is_numeral n (omega arith) in
    let value = (decimal_is_IsNumeral_wide n (omega arith)).1 in
    rw (numeral, value, lt-ltb n limit below) refl

pub number_inverts : (limit : ℕ) → limit ≤ 10 ^ 64 → Inverts (number_of limit) (λ n. n < limit) decimal
number_inverts limit wide = record { found = number_found limit wide; only = number_back limit wide }
