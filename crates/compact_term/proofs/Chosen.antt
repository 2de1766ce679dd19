-- The canonical spelling of an operand is one of its spellings.
use Rattle.std.proofs.Common.{◌≡◌, ℕ, suc, ◌+◌, ◌-◌, ◌*◌, ◌/◌, ◌%◌, ◌^◌, ◌<◌, ◌≤◌, ℤ, pos, negsuc, leb, true, false, List, [], ◌∷◌, ◌++◌, length, length-append, SFits, All, refl, sym, ap, subst, arith, inl, inr}
use Rattle.std.proofs.lemmas.Bool.{cases_lt, lt-ltb, le-ltb}
use Rattle.std.proofs.lemmas.Int.{ints}
use Rattle.std.proofs.lemmas.List.Elements.{All-head, All-tail}
use Rattle.std.specs.Int.{w128}
use Rattle.std.specs.List.{flat_map}
use Rattle.byteorder.specs.Endian.{twos_complement}
use Rattle.bk_codec.specs.Spelling.{Then, SpellsMany}
use Rattle.compact_term.specs.declared.operand.Reg.{Reg}
use Rattle.compact_term.specs.declared.operand.Reg.TheVariants as regs
use Rattle.compact_term.specs.declared.operand.Plain.{Plain}
use Rattle.compact_term.specs.declared.operand.Plain.TheVariants as plains
use Rattle.compact_term.specs.declared.operand.Operand.{Operand}
use Rattle.compact_term.specs.declared.operand.Operand.TheVariants as operands
use Rattle.compact_term.specs.Spelling.{InFewBytes, InTwosComplement, IsShort, IsLong, InManyBytes, IsNumber, IsBelow, IsU, IsZ, SpellsReg, SpellsPlain, SpellsPair, Spells}
use Rattle.compact_term.specs.Operand.{RegMeetsType, PlainMeetsType, PairMeetsType, MeetsType, PlainIsProper, IsProper}
use Rattle.compact_term.specs.Canonical.{magnitude, fewest, without_sign, bytes_of, canonical_short, in_many_bytes, canonical_number, canonical_u, canonical_z, canonical_reg, canonical_plain, canonical_pair, canonical}
use Rattle.compact_term.proofs.Proper.{pow256, twice_half}
use Rattle.compact_term.proofs.Written.{fewest_least, fewest_most, fewest_hold, small_fewest, bytes_of_length}

-- ---- numbers in two's complement

without_sign-is : (n : ℕ) (z : ℤ) → 0 < n → magnitude z < 2 ^ (8 * n - 1) → z ≡ twos_complement n (without_sign n z)
without_sign-is n (pos m) some holds = rw (lt-ltb _ _ holds) refl
without_sign-is n (negsuc m) some holds =
    let twice = twice_half n some in
    let high : 2 ^ (8 * n - 1) ≤ 2 ^ (8 * n) - suc m = omega arith in
    rw (le-ltb _ _ high) (omega (arith, ints))

without_sign-fits : (n : ℕ) (z : ℤ) → 0 < n → magnitude z < 2 ^ (8 * n - 1) → without_sign n z < 256 ^ n
without_sign-fits n (pos m) some holds = let twice = twice_half n some in let power = pow256 n in omega arith
without_sign-fits n (negsuc m) some holds = let twice = twice_half n some in let power = pow256 n in omega arith

bytes_of-is : (z : ℤ) → magnitude z < 2 ^ (8 * fewest z - 1) → InTwosComplement (fewest z) z (bytes_of z)
bytes_of-is z holds =
    let least = fewest_least 14 2 (magnitude z) in
    let some : 0 < fewest z = omega arith in
    record { value = without_sign (fewest z) z; is = without_sign-is (fewest z) z some holds; spelt = record { fits = without_sign-fits (fewest z) z some holds; is = refl } }

-- ---- the forms of up to eight bytes

few_spelled : (tag : ℕ) (z : ℤ) → fewest z ≤ 8 → magnitude z < 2 ^ (8 * fewest z - 1) → InFewBytes tag z ((32 * (length (bytes_of z) - 2) + 24 + tag) ∷ bytes_of z)
few_spelled tag z few holds =
    let least = fewest_least 14 2 (magnitude z) in
    let count : fewest z ≡ length (bytes_of z) - 2 + 2 = omega (arith, bytes_of_length z) in
    record {
      more = length (bytes_of z) - 2;
      number = bytes_of z;
      fits = omega (arith, bytes_of_length z);
      is = subst (λ (n : ℕ). InTwosComplement n z (bytes_of z)) count (bytes_of-is z holds);
      spelt = refl;
    }

short_spelled : (tag : ℕ) (z : ℤ) → fewest z ≤ 8 → magnitude z < 2 ^ (8 * fewest z - 1) → IsShort tag z (canonical_short tag z)
unfolding canonical_short
short_spelled tag (pos m) few holds =
    elim (cases_lt m 16) [
      | inl four ↦ rw (lt-ltb _ _ four) (inl (record { value = m; fits = four; is = refl; spelt = refl }))
      | inr more ↦ elim (cases_lt m 2048) [
        | inl eleven ↦ rw (le-ltb _ _ more, lt-ltb _ _ eleven) (inr (inl (record { high = m / 256; low = m % 256; high_fits = omega arith; low_fits = omega arith; is = ap pos (omega arith); spelt = refl })))
        | inr wide ↦ rw (le-ltb _ _ more, le-ltb _ _ wide) (inr (inr (few_spelled tag (pos m) few holds)))
      ]
    ]
short_spelled tag (negsuc m) few holds = inr (inr (few_spelled tag (negsuc m) few holds))

-- ---- the form that states its length

long_spelled : (tag : ℕ) (number : List ℕ) → 9 ≤ length number → length number < 2 ^ 63 → IsLong tag number (in_many_bytes tag number)
long_spelled tag number many small =
    let count = length number - 9 in
    let less : count < 2 ^ 63 = omega arith in
    let few = small_fewest count less in
    record { more = count; count = canonical_short 0 (pos count); counts = short_spelled 0 (pos count) few (fewest_hold (pos count) (record { sfits = omega arith })); whole = omega arith; spelt = refl }

many_spelled : (tag : ℕ) (z : ℤ) → SFits w128 z → 8 < fewest z → InManyBytes tag z (in_many_bytes tag (bytes_of z))
many_spelled tag z fits many =
    let most = fewest_most 14 2 (magnitude z) in
    let size = bytes_of_length z in
    record {
      number = bytes_of z;
      few = omega arith;
      is = subst (λ (n : ℕ). InTwosComplement n z (bytes_of z)) (sym size) (bytes_of-is z (fewest_hold z fits));
      spelt = long_spelled tag (bytes_of z) (omega arith) (omega arith);
    }

number_spelled : (tag : ℕ) (z : ℤ) → SFits w128 z → IsNumber tag z (canonical_number tag z)
unfolding canonical_number
number_spelled tag z fits =
    elim (cases_lt 8 (fewest z)) [
      | inl many ↦ (let test : leb (fewest z) 8 ≡ false = grind arith in rw test (inr (many_spelled tag z fits many)))
      | inr few ↦ (let test : leb (fewest z) 8 ≡ true = grind arith in rw test (inl (short_spelled tag z few (fewest_hold z fits))))
    ]

-- a number without sign
natural_spelled : (limit tag n : ℕ) → limit ≤ 2 ^ 64 → n < limit → IsBelow limit tag n (canonical_number tag (pos n))
natural_spelled limit tag n small lt = (number_spelled tag (pos n) (record { sfits = omega arith }), lt)

u_spelled : (n : ℕ) → n < 2 ^ 64 → IsU n (canonical_u n)
u_spelled n lt = natural_spelled (2 ^ 64) 0 n (omega arith) lt

z_spelled : (n : ℕ) → n < 2 ^ 64 → IsZ n (canonical_z n)
z_spelled n lt = natural_spelled (2 ^ 64) 7 n (omega arith) lt

-- ---- operands

joined : {P Q : List ℕ → Type 0} (front back : List ℕ) → P front → Q back → Then P Q (front ++ back)
joined front back front_is back_is = record { front = front; back = back; front_is = front_is; back_is = back_is; joined = refl }

-- values one after another, each of which is spelled where it is small
pub each_spelled : {A : Type 0} (R : A → List ℕ → Type 0) (f : A → List ℕ) (P : A → Type 0) → ((x : A) → P x → length (f x) < 2 ^ 63 → R x (f x))
    → (xs : List A) → All P xs → length (flat_map f xs) < 2 ^ 63 → SpellsMany R xs (flat_map f xs)
each_spelled R f P one [] all small = refl
each_spelled R f P one (x ∷ xs) all small =
    let both = length-append (f x) (flat_map f xs) in
    joined (f x) (flat_map f xs) (one x (All-head P x xs all) (omega arith)) (each_spelled R f P one xs (All-tail P x xs all) (omega arith))

reg_spelled : (r : Reg) → RegMeetsType r → SpellsReg r (canonical_reg r)
reg_spelled (regs.X n) fits = natural_spelled (2 ^ 32) 3 n (omega arith) fits
reg_spelled (regs.Y n) fits = natural_spelled (2 ^ 32) 4 n (omega arith) fits

abbrev PlainCanBeSpelled : Plain → Type 0
PlainCanBeSpelled p = PlainMeetsType p × PlainIsProper p

plain_spelled : (p : Plain) → PlainCanBeSpelled p → length (canonical_plain p) < 2 ^ 63 → SpellsPlain p (canonical_plain p)
plain_spelled (plains.U n) is small = u_spelled n is.0
plain_spelled (plains.I z) is small = number_spelled 1 z is.0
plain_spelled (plains.Wide w) is small =
    let many : 17 ≤ length w = is.1 in
    let both = length-append (canonical_short 0 (pos (length w - 9))) w in
    (many, long_spelled 1 w (omega arith) (omega arith))
plain_spelled (plains.A n) is small = natural_spelled (2 ^ 32) 2 n (omega arith) is.0
plain_spelled (plains.X n) is small = natural_spelled (2 ^ 32) 3 n (omega arith) is.0
plain_spelled (plains.Y n) is small = natural_spelled (2 ^ 32) 4 n (omega arith) is.0
plain_spelled (plains.F n) is small = natural_spelled (2 ^ 32) 5 n (omega arith) is.0
plain_spelled (plains.H n) is small = natural_spelled (2 ^ 32) 6 n (omega arith) is.0
plain_spelled (plains.Fr n) is small = joined (canonical_z 2) (canonical_u n) (z_spelled 2 (omega arith)) (u_spelled n is.0)
plain_spelled (plains.Lit n) is small = joined (canonical_z 4) (canonical_u n) (z_spelled 4 (omega arith)) (u_spelled n is.0)
plain_spelled (plains.Typed r n) is small =
    joined (canonical_z 5) (canonical_reg r ++ canonical_u n) (z_spelled 5 (omega arith)) (joined (canonical_reg r) (canonical_u n) (reg_spelled r is.0.0) (u_spelled n is.0.1))

pair_spelled : (p : ℕ × ℕ) → PairMeetsType p → length (canonical_pair p) < 2 ^ 63 → SpellsPair p (canonical_pair p)
pair_spelled p is small = joined (canonical_u p.0) (canonical_u p.1) (u_spelled p.0 is.0) (u_spelled p.1 is.1)

-- the number of tag z, a count, and as many values
counted_spelled : {A : Type 0} (R : A → List ℕ → Type 0) (f : A → List ℕ) (P : A → Type 0) → ((x : A) → P x → length (f x) < 2 ^ 63 → R x (f x))
    → (z : ℕ) (xs : List A) → z < 2 ^ 64 → All P xs → length xs < 2 ^ 64 → length (canonical_z z ++ (canonical_u (length xs) ++ flat_map f xs)) < 2 ^ 63
    → Then (IsZ z) (Then (IsU (length xs)) (SpellsMany R xs)) (canonical_z z ++ (canonical_u (length xs) ++ flat_map f xs))
counted_spelled R f P one z xs below all count small =
    let back = canonical_u (length xs) ++ flat_map f xs in
    let outer = length-append (canonical_z z) back in
    let inner = length-append (canonical_u (length xs)) (flat_map f xs) in
    joined (canonical_z z) back (z_spelled z below) (joined (canonical_u (length xs)) (flat_map f xs) (u_spelled (length xs) count) (each_spelled R f P one xs all (omega arith)))

pub canonical_spelled : (o : Operand) → MeetsType o → IsProper o → length (canonical o) < 2 ^ 63 → Spells o (canonical o)
canonical_spelled (operands.One p) meets proper small = plain_spelled p (meets, proper) small
canonical_spelled (operands.List ps) meets proper small =
    counted_spelled SpellsPlain canonical_plain PlainCanBeSpelled plain_spelled 1 ps (omega arith) (λ k d lt. (meets.0 k d lt, proper k d lt)) meets.1 small
canonical_spelled (operands.Alloc ps) meets proper small =
    counted_spelled SpellsPair canonical_pair PairMeetsType pair_spelled 3 ps (omega arith) meets.0 meets.1 small
