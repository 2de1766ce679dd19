-- The bytes of a magnitude, the lowest first, up to its highest that isn't 0.
use Rattle.std.proofs.Common.{◌≡◌, ℕ, zero, suc, ◌+◌, ◌-◌, ◌*◌, ◌/◌, ◌%◌, ◌^◌, ◌<◌, ◌≤◌, List, [], ◌∷◌, length, take, refl, sym, ap, ◌∙◌, arith, inl, inr}
use Rattle.std.proofs.lemmas.Bool.{cases_lt, cases_eq, ne_eqb}
use Rattle.std.proofs.lemmas.Nat.{leading_length, pow-add}
use Rattle.std.proofs.Math.Nat.{pow-suc, pow-le-pow_right, div-div-eq-div-mul, div-one}
use Rattle.std.specs.Int.{w128, leading_zeros, byte_at, bytes_low_first}
use Rattle.byteorder.specs.Endian.{little_from, little_number}
use Rattle.byteorder.specs.Numbers.{little_from-cons}
use Rattle.ext_term.specs.Writing.{significant}

significant_none : (x : ℕ) → significant 0 x ≡ []
unfolding significant
significant_none x = refl

pub significant_zero : (n : ℕ) → significant n 0 ≡ []
unfolding significant
significant_zero zero = refl
significant_zero (suc n) = refl

pub significant_more : (n x : ℕ) → (x ≡ 0 → ⊥) → significant (suc n) x ≡ (x % 256) ∷ significant n (x / 256)
unfolding significant
significant_more n x some = rw (ne_eqb x 0 some) refl

pub significant_few : (n x : ℕ) → length (significant n x) ≤ n
unfolding significant
significant_few zero x = omega arith
significant_few (suc n) x =
    elim (cases_eq x 0) [
      | inl none ↦ rw none (omega arith)
      | inr some ↦ let h = significant_few n (x / 256) in rw (significant_more n x some) (omega arith)
    ]

-- the number that they are
pub significant_number : (n x : ℕ) → x < 256 ^ n → little_number (length (significant n x)) (significant n x) ≡ x
significant_number zero x fits = rw significant_none (omega arith)
significant_number (suc n) x fits =
    elim (cases_eq x 0) [
      | inl none ↦ rw (none, significant_zero (suc n)) refl
      | inr some ↦
          let fewer : x / 256 < 256 ^ n = (let p = pow-suc 256 n in omega arith) in
          let others = significant_number n (x / 256) fewer in
          let bytes = significant n (x / 256) in
          let moved : little_from 1 (length bytes) ((x % 256) ∷ bytes) ≡ little_from 0 (length bytes) bytes = little_from-cons 0 (length bytes) (x % 256) bytes in
          rw (significant_more n x some, moved, others) (omega arith)
    ]

-- a byte of a number, by its place
byte_at-pow : (k x : ℕ) → byte_at k x ≡ x / 256 ^ k % 256
byte_at-pow zero x = ap (λ (y : ℕ). y % 256) (sym (div-one x))
byte_at-pow (suc k) x = refl

-- they are the front of all n bytes from byte j on
significant_from : (n j x : ℕ) → take (length (significant n (x / 256 ^ j))) (bytes_low_first j n x) ≡ significant n (x / 256 ^ j)
significant_from zero j x = rw significant_none refl
significant_from (suc n) j x =
    elim (cases_eq (x / 256 ^ j) 0) [
      | inl none ↦ (let s : significant (suc n) (x / 256 ^ j) ≡ [] = ap (significant (suc n)) none ∙ significant_zero (suc n) in rw s refl)
      | inr some ↦
          let next : x / 256 ^ j / 256 ≡ x / 256 ^ suc j = div-div-eq-div-mul x (256 ^ j) 256 ∙ ap (λ (p : ℕ). x / p) (sym (pow-suc 256 j)) in
          let is : significant (suc n) (x / 256 ^ j) ≡ byte_at j x ∷ significant n (x / 256 ^ suc j) =
          significant_more n (x / 256 ^ j) some ∙ ap (λ (b : ℕ). b ∷ significant n (x / 256 ^ j / 256)) (sym (byte_at-pow j x)) ∙ ap (λ (y : ℕ). byte_at j x ∷ significant n y) next in
          rw is (ap (λ (t : List ℕ). byte_at j x ∷ t) (significant_from n (suc j) x))
    ]

pub significant_front : (n x : ℕ) → take (length (significant n x)) (bytes_low_first 0 n x) ≡ significant n x
significant_front n x = rw div-one at (significant_from n 0 x)

-- ---- how many they are

significant_fits : (n x : ℕ) → x < 256 ^ n → x < 256 ^ length (significant n x)
significant_fits zero x fits = rw significant_none fits
significant_fits (suc n) x fits =
    elim (cases_eq x 0) [
      | inl none ↦ (let p = pow-suc 256 0 in rw (none, significant_zero (suc n)) (omega arith))
      | inr some ↦
          let p = pow-suc 256 n in
          let q = pow-suc 256 (length (significant n (x / 256))) in
          let fewer : x / 256 < 256 ^ n = omega arith in
          let h = significant_fits n (x / 256) fewer in
          rw (significant_more n x some) (omega arith)
    ]

significant_fills : (n x k : ℕ) → length (significant n x) ≡ suc k → 256 ^ k ≤ x
significant_fills zero x k is = absurd (let e = ap length (significant_none x) in omega arith)
significant_fills (suc n) x zero is =
    elim (cases_eq x 0) [
      | inl none ↦ absurd (let e = ap length (ap (significant (suc n)) none ∙ significant_zero (suc n)) in omega arith)
      | inr some ↦ omega arith
    ]
significant_fills (suc n) x (suc k) is =
    elim (cases_eq x 0) [
      | inl none ↦ absurd (let e = ap length (ap (significant (suc n)) none ∙ significant_zero (suc n)) in omega arith)
      | inr some ↦
          let e = ap length (significant_more n x some) in
          let h = significant_fills n (x / 256) k (omega arith) in
          let p = pow-suc 256 k in
          omega arith
    ]

pow_of_bytes : (k : ℕ) → 256 ^ k ≡ 2 ^ (8 * k)
pow_of_bytes zero = refl
pow_of_bytes (suc k) =
    let more : 8 * suc k ≡ 8 * k + 8 = omega arith in
    pow-suc 256 k ∙ ap (λ (p : ℕ). p * 256) (pow_of_bytes k) ∙ sym (pow-add 2 (8 * k) 8) ∙ ap (λ (e : ℕ). 2 ^ e) (sym more)

bits_above : (x m len : ℕ) → x < 256 ^ len → 2 ^ m ≤ 2 * x + 1 → m ≤ 8 * len
bits_above x m len fits top =
    elim (cases_lt (8 * len) m) [
      | inl more ↦ absurd (
          let p : 2 ^ suc (8 * len) ≤ 2 ^ m = pow-le-pow_right (omega arith) more in
          let q = pow-suc 2 (8 * len) in
          let r = pow_of_bytes len in
          omega arith)
      | inr le ↦ le
    ]

bits_below : (x m k : ℕ) → 256 ^ k ≤ x → x < 2 ^ m → 8 * k < m
bits_below x m k fills below =
    elim (cases_lt (8 * k) m) [
      | inl more ↦ more
      | inr le ↦ absurd (
          let p : 2 ^ m ≤ 2 ^ (8 * k) = pow-le-pow_right (omega arith) le in
          let r = pow_of_bytes k in
          omega arith)
    ]

bytes_of_bits : (len m clear : ℕ) → clear + m ≡ 128 → m ≤ 8 * len → ((k : ℕ) → len ≡ suc k → 8 * k < m) → 16 - clear / 8 ≡ len
bytes_of_bits zero m clear whole above below = omega arith
bytes_of_bits (suc len) m clear whole above below = let h = below len refl in omega arith

pub significant_length : (x : ℕ) → x < 2 ^ 128 → 16 - leading_zeros w128 x / 8 ≡ length (significant 16 x)
significant_length x fits =
    let top = leading_length 128 x fits in
    let bytes = significant 16 x in
    bytes_of_bits (length bytes) top.0 (leading_zeros w128 x) top.1
    (bits_above x top.0 (length bytes) (significant_fits 16 x (omega arith)) top.3)
    (λ k is. bits_below x top.0 k (significant_fills 16 x k is) top.2)
