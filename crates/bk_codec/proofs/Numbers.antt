-- The bytes of a number are the bytes that it was read from.
use Rattle.std.proofs.Common.{◌≡◌, ℕ, zero, suc, ◌+◌, ◌-◌, ◌*◌, ◌/◌, ◌%◌, ◌^◌, ◌<◌, ◌≤◌, List, [], ◌∷◌, length, take, get_or, refl, sym, ap, ◌∙◌, arith, mul_assoc, mod-eq_of_lt, div-one}
use Rattle.std.proofs.Math.Nat.{mul-add-div_right, mul-add-mod_self_right, pow-suc, one-le-pow}
use Rattle.std.proofs.lemmas.Nat.{pow-add, div-mul-add}
use Rattle.std.specs.Int.{byte_at, bytes_high_first}
use Rattle.byteorder.specs.Endian.{big_number, big_bytes}
use Rattle.byteorder.specs.Numbers.{big_from-cons, big_from-lt}
use Rattle.bk_codec.specs.Spelling.{IsBytes}

-- a byte of a number, by its place
byte_at-pow : (k x : ℕ) → byte_at k x ≡ x / 256 ^ k % 256
byte_at-pow zero x = ap (λ (y : ℕ). y % 256) (sym (div-one x))
byte_at-pow (suc k) x = refl

pow_pos256 : (n : ℕ) → zero < 256 ^ n
pow_pos256 n = let h = one-le-pow n 256 (omega arith) in omega arith

-- a byte of a number, where a multiple of a higher power stands above it
byte_at-above : (k n b r : ℕ) → k < n → byte_at k (b * 256 ^ n + r) ≡ byte_at k r
byte_at-above k n b r lt =
    let split : n ≡ suc (n - k - 1) + k = omega arith in
    let power : b * 256 ^ n ≡ b * 256 ^ (n - k - 1) * 256 * 256 ^ k =
    ap (λ (m : ℕ). b * 256 ^ m) split
    ∙ ap (λ (m : ℕ). b * m) (pow-add 256 (suc (n - k - 1)) k)
    ∙ ap (λ (m : ℕ). b * (m * 256 ^ k)) (pow-suc 256 (n - k - 1))
    ∙ sym (mul_assoc b (256 ^ (n - k - 1) * 256) (256 ^ k))
    ∙ ap (λ (m : ℕ). m * 256 ^ k) (sym (mul_assoc b (256 ^ (n - k - 1)) 256)) in
    byte_at-pow k (b * 256 ^ n + r)
    ∙ ap (λ (m : ℕ). (m + r) / 256 ^ k % 256) power
    ∙ ap (λ (m : ℕ). m % 256) (mul-add-div_right (pow_pos256 k) (b * 256 ^ (n - k - 1) * 256) r)
    ∙ mul-add-mod_self_right (b * 256 ^ (n - k - 1)) 256 (r / 256 ^ k)
    ∙ sym (byte_at-pow k r)

-- the low bytes of a number, where a multiple of a higher power stands above them
bytes-above : (k n b r : ℕ) → k ≤ n → bytes_high_first k (b * 256 ^ n + r) ≡ bytes_high_first k r
bytes-above zero n b r le = refl
bytes-above (suc k) n b r le = rw (byte_at-above k n b r (omega arith), bytes-above k n b r (omega arith)) refl

-- the number in the first n bytes has these bytes
pub big_bytes-big_number : (n : ℕ) (bytes : List ℕ) → n ≤ length bytes → IsBytes bytes → big_bytes n (big_number n bytes) ≡ take n bytes
big_bytes-big_number zero bytes le fits = refl
big_bytes-big_number (suc n) [] le fits = absurd (omega arith)
big_bytes-big_number (suc n) (b ∷ bytes) le fits =
    let others : (i : ℕ) → get_or bytes i 0 < 256 = λ i. fits (suc i) in
    let number : big_number (suc n) (b ∷ bytes) ≡ b * 256 ^ n + big_number n bytes = ap (λ (m : ℕ). b * 256 ^ n + m) (big_from-cons 0 n b bytes) in
    let below : big_number n bytes < 256 ^ n = big_from-lt 0 n bytes others in
    let high : byte_at n (b * 256 ^ n + big_number n bytes) ≡ b =
    byte_at-pow n (b * 256 ^ n + big_number n bytes) ∙ ap (λ (m : ℕ). m % 256) (div-mul-add b (256 ^ n) (big_number n bytes) below) ∙ mod-eq_of_lt (fits 0) in
    ap (big_bytes (suc n)) number
    ∙ ap (λ (h : ℕ). h ∷ bytes_high_first n (b * 256 ^ n + big_number n bytes)) high
    ∙ ap (λ (l : List ℕ). b ∷ l) (bytes-above n n b (big_number n bytes) (omega arith) ∙ big_bytes-big_number n bytes (omega arith) others)
