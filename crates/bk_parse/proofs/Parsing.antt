-- What std's parsing gives, of a text that begins as a numeral does.
use Rattle.std.proofs.Common.{◌≡◌, ◌≢◌, ℕ, zero, suc, ◌^◌, ◌<◌, ◌≤◌, ◌+◌, true, false, ◌&&◌, nat_lt, eqb, List, [], ◌∷◌, length, get_or, drop, ℤ, pos, neg_ℤ, Option, Some, None, Result, Ok, Err, option_map, option_and_then, IsUtf8, decimal, Bor, MatchResult, MatchOption, refl, sym, ap, ◌∙◌, arith, inl, inr}
use Rattle.std.proofs.lemmas.Bool.{cases_eq, and_left, and_right, cases_Bool, ltb-true, lt-ltb, false_from_ne_true, cond-true, cond-false, eq-eqb, ne_eqb}
use Rattle.std.proofs.lemmas.Bool.Decides.{nat_tests}
use Rattle.std.proofs.lemmas.Fmt.{IsAscii-from_digits, decimal_digit}
use Rattle.std.proofs.lemmas.Str.Ascii.{IsAscii-cons}
use Rattle.std.proofs.lemmas.Str.{IsUtf8-from_ascii}
use Rattle.std.proofs.lemmas.Str.Parse.{parse_plain, parse_signed_plain, parse_signed_minus, numerals_by_value, tells_digits}
use Rattle.std.proofs.lemmas.Option.{same_Some}
use Rattle.std.specs.Char.{is_ascii_digit}
use Rattle.std.specs.Int.{w128}
use Rattle.std.specs.Result.{OkIff, result_ok}
use Rattle.std.specs.Str.Parse.{AllDigits, ParsesUnsigned, ParsesSigned, digits_value}
use Rattle.bk_parse.specs.Numbers.{is_numeral, number_of, signed_of, below_zero}
use Rattle.bk_parse.proofs.Numerals.{all_digits, decimal_value, digits_pass, numeral_digits, numeral_length, numeral_from}

-- ---- what is refused before

pub numeral_is_text : (t : List ℕ) → ¬ IsUtf8 t → is_numeral t ≡ false
numeral_is_text t bad = false_from_ne_true (is_numeral t) (λ is. bad (IsUtf8-from_ascii t (IsAscii-from_digits t (all_digits t (numeral_digits t is)))))

pub numeral_begins : (t : List ℕ) → is_ascii_digit (get_or t 0 0) ≡ false → is_numeral t ≡ false
numeral_begins [] e = refl
numeral_begins (c ∷ []) e = e
numeral_begins (c ∷ d ∷ t) e = grind (arith, nat_tests)

pub zero_alone : (t : List ℕ) → get_or t 0 0 ≡ 48 → 1 < length t → is_numeral t ≡ false
zero_alone [] e more = refl
zero_alone (c ∷ []) e more = absurd (omega arith)
zero_alone (c ∷ d ∷ t) e more = cond-true (eqb c 48) _ _ (eq-eqb c 48 e)

pub none_is : (limit : ℕ) (t : List ℕ) → is_numeral t ≡ false → number_of limit t ≡ None
none_is limit t e = cond-false (is_numeral t && nat_lt (digits_value 10 t) limit) _ _ (and_left (is_numeral t) _ e)

-- ---- what is parsed

-- the number that is read where its digits are a numeral below the limit
number_is : (limit : ℕ) (t : List ℕ) → is_numeral t ≡ true → digits_value 10 t < limit → number_of limit t ≡ Some (digits_value 10 t)
number_is limit t numeral below = rw (numeral, lt-ltb (digits_value 10 t) limit below) refl

-- what is not parsed, since its digits are no numeral or are one past the limit
not_number : (limit : ℕ) (t : List ℕ) → ¬ (AllDigits 10 t × (0 < length t) × (digits_value 10 t < limit)) → number_of limit t ≡ None
not_number limit t h =
    elim (cases_Bool (is_numeral t)) [
      | inr other ↦ none_is limit t other
      | inl numeral ↦
          elim (cases_Bool (nat_lt (digits_value 10 t) limit)) [
            | inl below ↦ absurd (h (all_digits t (numeral_digits t numeral), numeral_length t numeral, ltb-true (digits_value 10 t) limit below))
            | inr above ↦ cond-false (is_numeral t && nat_lt (digits_value 10 t) limit) _ _ (and_right (is_numeral t) _ above)
          ]
    ]

-- the number where it is a numeral below the limit, and else nothing
number_from : {E : Type 0} (limit : ℕ) (t : List ℕ) (r : Result ℕ E) → (get_or t 0 0 ≡ 48 → length t ≡ 1)
    → OkIff r (AllDigits 10 t × (0 < length t) × (digits_value 10 t < limit)) (digits_value 10 t) → result_ok r ≡ number_of limit t
number_from limit t (Ok n) lead h = ap (λ (x : ℕ). Some x) h.1 ∙ sym (number_is limit t (numeral_from t (digits_pass t h.0.0) h.0.1 lead) h.0.2)
number_from limit t (Err e) lead h = sym (not_number limit t h)

pub parsed_number : {E : Type 0} (k : ℕ) (t : List ℕ) (r : Result ℕ E) → is_ascii_digit (get_or t 0 0) ≡ true → (get_or t 0 0 ≡ 48 → length t ≡ 1)
    → ParsesUnsigned k 10 t r → result_ok r ≡ number_of (2 ^ k) t
parsed_number {E} k t r digit lead h =
    let no_plus : get_or t 0 0 ≢ 43 = λ e. grind (arith, nat_tests) in
    number_from (2 ^ k) t r lead (parse_plain (numerals_by_value _ tells_digits) {E = E} k t r h no_plus)

-- ---- with a sign

plain_from : {E : Type 0} (t : List ℕ) (r : Result ℤ E) → (get_or t 0 0 ≡ 48 → length t ≡ 1)
    → OkIff r (AllDigits 10 t × (0 < length t) × (digits_value 10 t < 2 ^ 127)) (pos (digits_value 10 t)) → result_ok r ≡ option_map pos (number_of (2 ^ 127) t)
plain_from t (Ok z) lead h =
    ap (λ (x : ℤ). Some x) h.1 ∙ ap (option_map pos) (sym (number_is (2 ^ 127) t (numeral_from t (digits_pass t h.0.0) h.0.1 lead) h.0.2))
plain_from t (Err e) lead h = ap (option_map pos) (sym (not_number (2 ^ 127) t h))

no_minus : (t : List ℕ) → is_ascii_digit (get_or t 0 0) ≡ true → signed_of t ≡ option_map pos (number_of (2 ^ 127) t)
no_minus [] digit = absurd cc
no_minus (c ∷ t) digit =
    let other : eqb c 45 ≡ false = ne_eqb c 45 (λ e. grind (arith, nat_tests)) in
    cond-false (eqb c 45) (option_and_then below_zero (number_of (2 ^ 127 + 1) t)) (option_map pos (number_of (2 ^ 127) (c ∷ t))) other

pub parsed_signed : {E : Type 0} (t : List ℕ) (r : Result ℤ E) → is_ascii_digit (get_or t 0 0) ≡ true → (get_or t 0 0 ≡ 48 → length t ≡ 1)
    → ParsesSigned w128 10 t r → result_ok r ≡ signed_of t
parsed_signed {E} t r digit lead h =
    let no_plus : get_or t 0 0 ≢ 43 = λ e. grind (arith, nat_tests) in
    let not_minus : get_or t 0 0 ≢ 45 = λ e. grind (arith, nat_tests) in
    plain_from t r lead (parse_signed_plain (numerals_by_value _ tells_digits) {E = E} w128 t r h no_plus not_minus) ∙ sym (no_minus t digit)

-- a number behind a minus is below zero
below_is : (n : ℕ) → 0 < n → below_zero n ≡ Some (neg_ℤ (pos n))
below_is zero some = absurd (omega arith)
below_is (suc n) some = refl

value_some : (t : List ℕ) → is_numeral t ≡ true → digits_value 10 t < 10 ^ 64 → (t ≡ 48 ∷ [] → ⊥) → 0 < digits_value 10 t
value_some t numeral small other =
    elim (cases_eq (digits_value 10 t) 0) [
      | inl nothing ↦ absurd (other (sym (decimal_value t numeral (all_digits t (numeral_digits t numeral)) small) ∙ ap decimal nothing ∙ decimal_digit 0 (omega arith)))
      | inr some ↦ omega arith
    ]

minus_from : {E : Type 0} (t : List ℕ) (r : Result ℤ E) → (get_or t 0 0 ≡ 48 → length t ≡ 1) → (t ≡ 48 ∷ [] → ⊥)
    → OkIff r (AllDigits 10 t × (0 < length t) × (digits_value 10 t ≤ 2 ^ 127)) (neg_ℤ (pos (digits_value 10 t))) → result_ok r ≡ option_and_then below_zero (number_of (2 ^ 127 + 1) t)
minus_from t (Ok z) lead other h =
    let numeral = numeral_from t (digits_pass t h.0.0) h.0.1 lead in
    let most = h.0.2 in
    let some = value_some t numeral (omega arith) other in
    ap (λ (x : ℤ). Some x) h.1 ∙ sym (ap (option_and_then below_zero) (number_is (2 ^ 127 + 1) t numeral (omega arith)) ∙ below_is (digits_value 10 t) some)
minus_from t (Err e) lead other h =
    ap (option_and_then below_zero) (sym (not_number (2 ^ 127 + 1) t (λ facts. h (facts.0, facts.1, (let below = facts.2 in omega arith)))))

-- what is read behind a minus
pub behind_minus : (t : List ℕ) → get_or t 0 0 ≡ 45 → signed_of t ≡ option_and_then below_zero (number_of (2 ^ 127 + 1) (drop 1 t))
behind_minus [] e = absurd (omega arith)
behind_minus (c ∷ t) e = cond-true (eqb c 45) (option_and_then below_zero (number_of (2 ^ 127 + 1) t)) (option_map pos (number_of (2 ^ 127) (c ∷ t))) (eq-eqb c 45 e)

pub parsed_minus : {E : Type 0} (t : List ℕ) (r : Result ℤ E) → get_or t 0 0 ≡ 45 → (get_or (drop 1 t) 0 0 ≡ 48 → length (drop 1 t) ≡ 1) → (drop 1 t ≡ 48 ∷ [] → ⊥)
    → ParsesSigned w128 10 t r → result_ok r ≡ signed_of t
parsed_minus {E} t r minus lead other h =
    minus_from (drop 1 t) r lead other (parse_signed_minus (numerals_by_value _ tells_digits) {E = E} w128 t r h minus) ∙ sym (behind_minus t minus)

-- a number with a minus is text
pub signed_is_text : (t : List ℕ) → get_or t 0 0 ≡ 45 → ¬ IsUtf8 t → signed_of t ≡ None
signed_is_text [] minus bad = refl
signed_is_text (c ∷ t) minus bad =
    let numeral_not : is_numeral t ≡ false = false_from_ne_true (is_numeral t) (λ is.
    bad (IsUtf8-from_ascii (c ∷ t) (IsAscii-cons c t (omega arith) (IsAscii-from_digits t (all_digits t (numeral_digits t is)))))) in
    behind_minus (c ∷ t) minus ∙ ap (option_and_then below_zero) (none_is (2 ^ 127 + 1) t numeral_not)

-- a text that begins as a numeral does, where it is one of bytes that are UTF-8
pub text_is : {E : Type 0} (t : List ℕ) (r : Result (Bor (List ℕ)) E) {P Q : Type 0} (R : E → Type 0) → P → Q → MatchResult r (λ s. (s.now ≡ t) × IsUtf8 t) (λ e. ¬ (IsUtf8 t) × R e)
    → MatchOption (result_ok r) (is_numeral t ≡ false) (λ s. (s.now ≡ t) × P × Q)
text_is t (Ok s) R p q h = (h.0, p, q)
text_is t (Err e) R p q h = numeral_is_text t h.0

-- what std's test of bytes answered
pub text_was : {E : Type 0} (t : List ℕ) (r : Result (Bor (List ℕ)) E) (s : Bor (List ℕ)) (R : E → Type 0) → Some s ≡ result_ok r → MatchResult r (λ s. (s.now ≡ t) × IsUtf8 t) (λ e. ¬ (IsUtf8 t) × R e) → s.now ≡ t
text_was t (Ok x) s R e h = let same : s ≡ x = same_Some s x e in ap (λ (y : Bor (List ℕ)). y.now) same ∙ h.0
text_was t (Err d) s R e h = absurd cc

pub no_text : {E : Type 0} (t : List ℕ) (r : Result (Bor (List ℕ)) E) (R : E → Type 0) → ◌≡◌ {A = Option (Bor (List ℕ))} None (result_ok r) → MatchResult r (λ s. (s.now ≡ t) × IsUtf8 t) (λ e. ¬ (IsUtf8 t) × R e) → ¬ IsUtf8 t
no_text t (Ok x) R e h = absurd cc
no_text t (Err d) R e h = h.0
