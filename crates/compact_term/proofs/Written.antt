-- The canonical forms of numbers, each where it is chosen, and how many bytes the fewest are.
use Rattle.std.proofs.Common.{◌≡◌, ℕ, zero, suc, ◌+◌, ◌-◌, ◌*◌, ◌/◌, ◌%◌, ◌^◌, ◌<◌, ◌≤◌, ℤ, pos, negsuc, leb, true, false, List, [], ◌∷◌, ◌++◌, length, take, get_or, length-append, SFits, to_z, of_z, max, refl, sym, ap, subst, ◌∙◌, arith, inl, inr}
use Rattle.std.proofs.lemmas.Bool.{cases_lt, lt-ltb, le-ltb, ltb-false}
use Rattle.std.proofs.lemmas.List.{take-append-le, take_all, append-nil}
use Rattle.std.proofs.lemmas.Int.{to_z-of_z}
use Rattle.std.proofs.lemmas.Nat.{leading_length, pow-add}
use Rattle.std.proofs.Math.Nat.{pow-le-pow_right, mul-add-mod_self_right, mod-eq_of_lt, pow-suc, one-le-pow, add-mul}
use Rattle.std.specs.Int.{w128, leading_zeros}
use Rattle.byteorder.specs.Endian.{low_bytes, big_bytes}
use Rattle.byteorder.specs.Numbers.{length-bytes_high_first}
use Rattle.compact_term.specs.Canonical.{magnitude, fewest_from, fewest, without_sign, bytes_of, is_natural_below, canonical_short, canonical_number, canonical_u, canonical_plain, canonical_pair}
use Rattle.compact_term.specs.declared.operand.Plain.{Plain}
use Rattle.compact_term.proofs.Proper.{twice_half}
use Rattle.std.specs.List.{flat_map}
use Rattle.std.proofs.lemmas.List.Folds.{length-flat_map-take}

-- ---- the fewest bytes

pub fewest_least : (k n m : ℕ) → n ≤ fewest_from k n m
unfolding fewest_from
fewest_least zero n m = omega arith
fewest_least (suc k) n m =
    elim (cases_lt m (2 ^ (8 * n - 1))) [
      | inl lt ↦ rw (lt-ltb _ _ lt) (omega arith)
      | inr le ↦ let h = fewest_least k (suc n) m in rw (le-ltb _ _ le) (omega arith)
    ]

pub fewest_most : (k n m : ℕ) → fewest_from k n m ≤ n + k
unfolding fewest_from
fewest_most zero n m = omega arith
fewest_most (suc k) n m =
    elim (cases_lt m (2 ^ (8 * n - 1))) [
      | inl lt ↦ rw (lt-ltb _ _ lt) (omega arith)
      | inr le ↦ let h = fewest_most k (suc n) m in rw (le-ltb _ _ le) (omega arith)
    ]

-- no fewer bytes hold the number
pub fewest_below : (k n m r : ℕ) → n ≤ r → m < 2 ^ (8 * r - 1) → fewest_from k n m ≤ r
unfolding fewest_from
fewest_below zero n m r from holds = from
fewest_below (suc k) n m r from holds =
    elim (cases_lt m (2 ^ (8 * n - 1))) [
      | inl lt ↦ rw (lt-ltb _ _ lt) from
      | inr le ↦
          let other : n ≡ r → ⊥ = λ same. (let h : m < 2 ^ (8 * n - 1) = subst (λ (x : ℕ). m < 2 ^ (8 * x - 1)) (sym same) holds in omega arith) in
          let more : suc n ≤ r = omega arith in
          rw (le-ltb _ _ le) (fewest_below k (suc n) m r more holds)
    ]

-- they hold the number, where the most do
pub fewest_holds : (k n m : ℕ) → m < 2 ^ (8 * (n + k) - 1) → m < 2 ^ (8 * fewest_from k n m - 1)
unfolding fewest_from
fewest_holds zero n m holds = let same : n + 0 ≡ n = omega arith in subst (λ (x : ℕ). m < 2 ^ (8 * x - 1)) same holds
fewest_holds (suc k) n m holds =
    elim (cases_lt m (2 ^ (8 * n - 1))) [
      | inl lt ↦ rw (lt-ltb _ _ lt) lt
      | inr le ↦
          let same : n + suc k ≡ suc n + k = omega arith in
          rw (le-ltb _ _ le) (fewest_holds k (suc n) m (subst (λ (x : ℕ). m < 2 ^ (8 * x - 1)) same holds))
    ]

-- a number of b bits, of which the highest is set, stands in one byte more than 8 divides b
fewest_is : (m b : ℕ) → m < 2 ^ 127 → m < 2 ^ b → 2 ^ b ≤ 2 * m + 1 → b < 128 → max (b / 8 + 1) 2 ≡ fewest_from 14 2 m
fewest_is m b small below above few =
    let r = max (b / 8 + 1) 2 in
    let f = fewest_from 14 2 m in
    let least = fewest_least 14 2 m in
    let bits : b ≤ 8 * r - 1 = omega arith in
    let power : 2 ^ b ≤ 2 ^ (8 * r - 1) = pow-le-pow_right (omega arith) bits in
    let holds : m < 2 ^ (8 * r - 1) = omega arith in
    let most : f ≤ r = fewest_below 14 2 m r (omega arith) holds in
    let fits : m < 2 ^ (8 * f - 1) = fewest_holds 14 2 m small in
    elim (cases_lt f r) [
      | inr enough ↦ omega arith
      | inl fewer ↦ absurd (
          let bits : suc (8 * f - 1) ≤ b = omega arith in
          let power : 2 ^ suc (8 * f - 1) ≤ 2 ^ b = pow-le-pow_right (omega arith) bits in
          let twice = pow-suc 2 (8 * f - 1) in
          omega arith)
    ]

pub fewest_by_zeros : (m : ℕ) → m < 2 ^ 127 → max ((136 - leading_zeros w128 m) / 8) 2 ≡ fewest_from 14 2 m
fewest_by_zeros m small =
    let top = leading_length 128 m (omega arith) in
    let few : top.0 < 128 = (
    elim (cases_lt top.0 128) [
      | inl lt ↦ lt
      | inr le ↦ absurd (let power : 2 ^ 128 ≤ 2 ^ top.0 = pow-le-pow_right (omega arith) le in let above = top.3 in omega arith)
    ]) in
    let sum = top.1 in
    let same : (136 - leading_zeros w128 m) / 8 ≡ top.0 / 8 + 1 = omega arith in
    rw same (fewest_is m top.0 small top.2 top.3 few)

-- ---- the forms

pub bytes_of_length : (z : ℤ) → length (bytes_of z) ≡ fewest z
bytes_of_length z = length-bytes_high_first (fewest z) (without_sign (fewest z) z)

pub small_fewest : (n : ℕ) → n < 2 ^ 63 → fewest (pos n) ≤ 8
small_fewest n small = fewest_below 14 2 n 8 (omega arith) small

-- a number of eight bytes or fewer
pub short_form : (tag n : ℕ) → n < 2 ^ 63 → canonical_number tag (pos n) ≡ canonical_short tag (pos n)
unfolding canonical_number
short_form tag n small =
    let few : leb (fewest (pos n)) 8 ≡ true = grind (arith, small_fewest n small) in
    rw few refl

-- the count of an integer's bytes
pub count_form : (n : ℕ) → n < 2 ^ 63 → canonical_short 0 (pos n) ≡ canonical_number 0 (pos n)
count_form n small = sym (short_form 0 n small)

pub four_bits : (tag n : ℕ) → n < 16 → canonical_short tag (pos n) ≡ (16 * n + tag) ∷ []
unfolding canonical_short
four_bits tag n lt = rw (lt-ltb _ _ lt) refl

pub eleven_bits : (tag n : ℕ) → 16 ≤ n → n < 2048 → canonical_short tag (pos n) ≡ (32 * (n / 256) + 8 + tag) ∷ (n % 256) ∷ []
unfolding canonical_short
eleven_bits tag n ge lt = rw (le-ltb _ _ ge, lt-ltb _ _ lt) refl

pub in_four_bits : (tag n : ℕ) → n < 16 → canonical_number tag (pos n) ≡ (16 * n + tag) ∷ []
in_four_bits tag n lt = short_form tag n (omega arith) ∙ four_bits tag n lt

pub in_eleven_bits : (tag n : ℕ) → 16 ≤ n → n < 2048 → canonical_number tag (pos n) ≡ (32 * (n / 256) + 8 + tag) ∷ (n % 256) ∷ []
in_eleven_bits tag n ge lt = short_form tag n (omega arith) ∙ eleven_bits tag n ge lt

below_fewer : (a b : ℕ) (z : ℤ) → a ≤ b → is_natural_below b z ≡ false → is_natural_below a z ≡ false
below_fewer a b (pos n) le none = let h : b ≤ n = ltb-false _ _ none in le-ltb _ _ (omega arith)
below_fewer a b (negsuc n) le none = refl

pub in_few_bytes : (tag : ℕ) (z : ℤ) → is_natural_below 2048 z ≡ false → fewest z ≤ 8 → canonical_number tag z ≡ (32 * (fewest z - 2) + 24 + tag) ∷ bytes_of z
unfolding canonical_number canonical_short
in_few_bytes tag z wide few =
    let test : leb (fewest z) 8 ≡ true = grind arith in
    rw (test, below_fewer 16 2048 z (omega arith) wide, wide, bytes_of_length z) refl

pub in_many_bytes : (tag : ℕ) (z : ℤ) → 8 < fewest z → canonical_number tag z ≡ (248 + tag) ∷ (16 * (fewest z - 9)) ∷ bytes_of z
unfolding canonical_number
in_many_bytes tag z many =
    let test : leb (fewest z) 8 ≡ false = grind arith in
    let most = fewest_most 14 2 (magnitude z) in
    let count : canonical_short 0 (pos (fewest z - 9)) ≡ (16 * (fewest z - 9) + 0) ∷ [] = four_bits 0 (fewest z - 9) (omega arith) in
    let plain : 16 * (fewest z - 9) + 0 ≡ 16 * (fewest z - 9) = omega arith in
    rw (test, bytes_of_length z, count, plain) refl

-- ---- the bytes that are put

-- the low n bytes of a number that n bytes hold
low_is : (n : ℕ) (z : ℤ) → 0 < n → n ≤ 16 → magnitude z < 2 ^ (8 * n - 1) → low_bytes w128 n z ≡ without_sign n z
low_is n (pos m) some few holds = let twice = twice_half n some in mod-eq_of_lt (omega arith)
low_is n (negsuc m) some few holds =
    let whole = 2 ^ (8 * n) in
    let more = 2 ^ (128 - 8 * n) in
    let twice : whole ≡ 2 * 2 ^ (8 * n - 1) = twice_half n some in
    let above : 1 ≤ more = one-le-pow (128 - 8 * n) 2 (omega arith) in
    let bits : 128 - 8 * n + 8 * n ≡ 128 = omega arith in
    let product : 2 ^ 128 ≡ more * whole = sym (ap (λ (e : ℕ). 2 ^ e) bits) ∙ pow-add 2 (128 - 8 * n) (8 * n) in
    let one : more ≡ (more - 1) + 1 = omega arith in
    let split : more * whole ≡ (more - 1) * whole + whole = ap (λ (k : ℕ). k * whole) one ∙ add-mul (more - 1) 1 whole ∙ omega arith in
    let small : suc m ≤ whole = omega arith in
    let rest : 2 ^ 128 - suc m ≡ (more - 1) * whole + (whole - suc m) = omega arith in
    ap (λ (k : ℕ). k % whole) rest ∙ mul-add-mod_self_right (more - 1) whole (whole - suc m) ∙ mod-eq_of_lt (omega arith)

pub fewest_hold : (z : ℤ) → SFits w128 z → magnitude z < 2 ^ (8 * fewest z - 1)
fewest_hold (pos m) fits = fewest_holds 14 2 m (let h = fits.sfits in omega arith)
fewest_hold (negsuc m) fits = fewest_holds 14 2 m (let h = fits.sfits in omega arith)

-- the front of a list
front_is : (front back : List ℕ) (n : ℕ) → length front ≡ n → take n (front ++ back) ≡ front
front_is front back n size = take-append-le n front back (omega arith) ∙ take_all n front (omega arith)

bytes_put : (z : ℤ) (n : ℕ) → SFits w128 z → n ≡ fewest z → big_bytes n (low_bytes w128 n (to_z w128 (of_z w128 z))) ≡ bytes_of z
bytes_put z n fits is =
    let least = fewest_least 14 2 (magnitude z) in
    let most = fewest_most 14 2 (magnitude z) in
    rw (is, to_z-of_z w128 z fits) (ap (big_bytes (fewest z)) (low_is (fewest z) z (omega arith) (omega arith) (fewest_hold z fits)))

pub few_put : (tag : ℕ) (z : ℤ) (n : ℕ) (buffer zeros : List ℕ) → SFits w128 z → is_natural_below 2048 z ≡ false → n ≡ fewest z → n ≤ 8
    → buffer ≡ big_bytes n (low_bytes w128 n (to_z w128 (of_z w128 z))) ++ zeros → take (n + 1) ((32 * (n - 2) + 24 + tag) ∷ (buffer ++ [])) ≡ canonical_number tag z
few_put tag z n buffer zeros fits wide is few put =
    let front = (32 * (n - 2) + 24 + tag) ∷ bytes_of z in
    let size : length front ≡ n + 1 = omega (arith, bytes_of_length z) in
    let few_z : fewest z ≤ 8 = omega arith in
    let whole : (32 * (n - 2) + 24 + tag) ∷ (buffer ++ []) ≡ front ++ zeros = ap (λ (s : List ℕ). (32 * (n - 2) + 24 + tag) ∷ s) (append-nil buffer ∙ put ∙ ap (λ (s : List ℕ). s ++ zeros) (bytes_put z n fits is)) in
    let form : front ≡ canonical_number tag z = ap (λ (k : ℕ). (32 * (k - 2) + 24 + tag) ∷ bytes_of z) is ∙ sym (in_few_bytes tag z wide few_z) in
    ap (take (n + 1)) whole ∙ front_is front zeros (n + 1) size ∙ form

pub many_put : (tag : ℕ) (z : ℤ) (n : ℕ) (buffer zeros : List ℕ) → SFits w128 z → n ≡ fewest z → 8 < n
    → buffer ≡ big_bytes n (low_bytes w128 n (to_z w128 (of_z w128 z))) ++ zeros → take (n + 2) ((248 + tag) ∷ (16 * (n - 9)) ∷ (buffer ++ [])) ≡ canonical_number tag z
many_put tag z n buffer zeros fits is many put =
    let front = (248 + tag) ∷ (16 * (n - 9)) ∷ bytes_of z in
    let size : length front ≡ n + 2 = omega (arith, bytes_of_length z) in
    let many_z : 8 < fewest z = omega arith in
    let whole : (248 + tag) ∷ (16 * (n - 9)) ∷ (buffer ++ []) ≡ front ++ zeros = ap (λ (s : List ℕ). (248 + tag) ∷ (16 * (n - 9)) ∷ s) (append-nil buffer ∙ put ∙ ap (λ (s : List ℕ). s ++ zeros) (bytes_put z n fits is)) in
    let form : front ≡ canonical_number tag z = ap (λ (k : ℕ). (248 + tag) ∷ (16 * (k - 9)) ∷ bytes_of z) is ∙ sym (in_many_bytes tag z many_z) in
    ap (take (n + 2)) whole ∙ front_is front zeros (n + 2) size ∙ form

-- ---- one after another

pub members_within : (members : List Plain) (i : ℕ) (p : Plain) → p ≡ get_or members i p → i < length members
    → length (flat_map canonical_plain (take i members)) + length (canonical_plain p) ≤ length (flat_map canonical_plain members)
members_within members i p is lt =
    let h = length-flat_map-take canonical_plain members i p lt in
    let same : length (canonical_plain (get_or members i p)) ≡ length (canonical_plain p) = ap (λ (q : Plain). length (canonical_plain q)) (sym is) in
    omega arith

pub pairs_within : (pairs : List (ℕ × ℕ)) (i : ℕ) (p : ℕ × ℕ) → i < length pairs
    → length (flat_map canonical_pair (take i pairs)) + (length (canonical_u (get_or pairs i p).0) + length (canonical_u (get_or pairs i p).1)) ≤ length (flat_map canonical_pair pairs)
pairs_within pairs i p lt =
    let h = length-flat_map-take canonical_pair pairs i p lt in
    let both = length-append (canonical_u (get_or pairs i p).0) (canonical_u (get_or pairs i p).1) in
    omega arith
