-- No spelling of an operand is shorter than its canonical one.
use Rattle.std.proofs.Common.{◌≡◌, ℕ, ◌+◌, ◌-◌, ◌*◌, ◌^◌, ◌<◌, ◌≤◌, ℤ, pos, negsuc, leb, true, false, List, [], ◌∷◌, ◌++◌, length, length-append, refl, ap, ◌∙◌, arith, inl, inr}
use Rattle.std.proofs.lemmas.Bool.{cases_lt, lt-ltb, le-ltb}
use Rattle.std.specs.List.{flat_map}
use Rattle.std.specs.Int.Signed.{mag}
use Rattle.byteorder.specs.Endian.{twos_complement}
use Rattle.bk_codec.specs.Spelling.{Then, SpellsMany}
use Rattle.bk_codec.specs.Exact.{Begins}
use Rattle.compact_term.specs.declared.operand.Reg.{Reg}
use Rattle.compact_term.specs.declared.operand.Reg.TheVariants as regs
use Rattle.compact_term.specs.declared.operand.Plain.{Plain}
use Rattle.compact_term.specs.declared.operand.Plain.TheVariants as plains
use Rattle.compact_term.specs.declared.operand.Operand.{Operand}
use Rattle.compact_term.specs.declared.operand.Operand.TheVariants as operands
use Rattle.compact_term.specs.Spelling.{InTwosComplement, IsShort, IsLong, IsNumber, IsU, IsZ, SpellsReg, SpellsPlain, SpellsPair, Spells}
use Rattle.compact_term.specs.Canonical.{magnitude, fewest, bytes_of, canonical_short, in_many_bytes, canonical_number, canonical_u, canonical_z, canonical_reg, canonical_plain, canonical_pair, canonical}
use Rattle.compact_term.proofs.Numbers.{number_length}
use Rattle.compact_term.proofs.Proper.{mag-twos_complement}
use Rattle.compact_term.proofs.Written.{fewest_least, fewest_most, fewest_below, small_fewest, bytes_of_length, four_bits, eleven_bits}

-- ---- numbers

magnitude-mag : (z : ℤ) → magnitude z ≡ mag z
magnitude-mag (pos m) = refl
magnitude-mag (negsuc m) = refl

-- as many bytes as hold a number are as many as the fewest, or more
enough : (n : ℕ) (z : ℤ) (bytes : List ℕ) → 2 ≤ n → InTwosComplement n z bytes → fewest z ≤ n
enough n z bytes some is =
    let small : mag (twos_complement n is.value) < 2 ^ (8 * n - 1) = mag-twos_complement n is.value (omega arith) is.spelt.fits in
    let value : magnitude z ≡ mag (twos_complement n is.value) = magnitude-mag z ∙ ap mag is.is in
    fewest_below 14 2 (magnitude z) n some (omega arith)

few_length : (tag : ℕ) (z : ℤ) → length ((32 * (length (bytes_of z) - 2) + 24 + tag) ∷ bytes_of z) ≤ fewest z + 1
few_length tag z = omega (arith, bytes_of_length z)

short_length : (tag : ℕ) (z : ℤ) → length (canonical_short tag z) ≤ fewest z + 1
unfolding canonical_short
short_length tag (pos m) =
    let least = fewest_least 14 2 m in
    elim (cases_lt m 16) [
      | inl four ↦ rw (lt-ltb _ _ four) (omega arith)
      | inr more ↦ elim (cases_lt m 2048) [
        | inl eleven ↦ rw (le-ltb _ _ more, lt-ltb _ _ eleven) (omega arith)
        | inr wide ↦ rw (le-ltb _ _ more, le-ltb _ _ wide) (few_length tag (pos m))
      ]
    ]
short_length tag (negsuc m) = few_length tag (negsuc m)

-- eleven bits take two bytes at most
eleven_length : (tag n : ℕ) → n < 2048 → length (canonical_short tag (pos n)) ≤ 2
eleven_length tag n lt =
    elim (cases_lt n 16) [
      | inl four ↦ rw (four_bits tag n four) (omega arith)
      | inr more ↦ rw (eleven_bits tag n more lt) (omega arith)
    ]

-- a number in one of the forms of up to eight bytes
pub record Shorter (tag : ℕ) (z : ℤ) (bytes : List ℕ) : Type 0 where
  pub few : fewest z ≤ 8
  pub shorter : length (canonical_short tag z) ≤ length bytes

short_shortest : (tag : ℕ) (z : ℤ) (bytes : List ℕ) → IsShort tag z bytes → Shorter tag z bytes
short_shortest tag z bytes (inl four) =
    let fits = four.fits in
    let form : length (canonical_short tag z) ≡ 1 = ap (λ (y : ℤ). length (canonical_short tag y)) four.is ∙ ap length (four_bits tag four.value fits) in
    let size : length bytes ≡ 1 = ap length four.spelt in
    let few = small_fewest four.value (omega arith) in
    record { few = rw four.is few; shorter = omega arith }
short_shortest tag z bytes (inr (inl eleven)) =
    let high = eleven.high_fits in
    let low = eleven.low_fits in
    let number = 256 * eleven.high + eleven.low in
    let few = small_fewest number (omega arith) in
    let form : length (canonical_short tag z) ≡ length (canonical_short tag (pos number)) = ap (λ (y : ℤ). length (canonical_short tag y)) eleven.is in
    let most = eleven_length tag number (omega arith) in
    let size : length bytes ≡ 2 = ap length eleven.spelt in
    record { few = rw eleven.is few; shorter = omega arith }
short_shortest tag z bytes (inr (inr few)) =
    let fits = few.fits in
    let less = enough (few.more + 2) z few.number (omega arith) few.is in
    let most = short_length tag z in
    let number = number_length (few.more + 2) few.is.value few.number few.is.spelt in
    let size = ap length few.spelt in
    record { few = omega arith; shorter = omega arith }

takes_a_byte : (tag : ℕ) (z : ℤ) (bytes : List ℕ) → IsShort tag z bytes → 1 ≤ length bytes
takes_a_byte tag z bytes (inl four) = let size = ap length four.spelt in omega arith
takes_a_byte tag z bytes (inr (inl eleven)) = let size = ap length eleven.spelt in omega arith
takes_a_byte tag z bytes (inr (inr few)) = let size = ap length few.spelt in omega arith

-- at most two bytes stand before the bytes of a number
chosen_length : (tag : ℕ) (z : ℤ) → fewest z ≤ 16 → length (canonical_number tag z) ≤ fewest z + 2
unfolding canonical_number
chosen_length tag z most =
    elim (cases_lt 8 (fewest z)) [
      | inl many ↦ (
          let test : leb (fewest z) 8 ≡ false = grind arith in
          let size = bytes_of_length z in
          let less : length (bytes_of z) - 9 < 16 = omega arith in
          let count = ap length (four_bits 0 (length (bytes_of z) - 9) less) in
          let both = length-append (canonical_short 0 (pos (length (bytes_of z) - 9))) (bytes_of z) in
          rw test (omega arith))
      | inr few ↦ (let test : leb (fewest z) 8 ≡ true = grind arith in let short = short_length tag z in rw test (omega arith))
    ]

pub number_small : (tag : ℕ) (z : ℤ) → length (canonical_number tag z) ≤ 18
number_small tag z =
    let most = fewest_most 14 2 (magnitude z) in
    let size = chosen_length tag z (omega arith) in
    omega arith

pub integer_small : (w : List ℕ) → length (in_many_bytes 1 w) ≤ length w + 18
integer_small w =
    let most = fewest_most 14 2 (length w - 9) in
    let count = short_length 0 (pos (length w - 9)) in
    omega (arith, length-append (canonical_short 0 (pos (length w - 9))) w)

short_chosen : (tag : ℕ) (z : ℤ) → fewest z ≤ 8 → canonical_number tag z ≡ canonical_short tag z
unfolding canonical_number
short_chosen tag z few = let test : leb (fewest z) 8 ≡ true = grind arith in rw test refl

number_shortest : (tag : ℕ) (z : ℤ) (bytes : List ℕ) → IsNumber tag z bytes → length (canonical_number tag z) ≤ length bytes
number_shortest tag z bytes (inl short) = let s = short_shortest tag z bytes short in rw (short_chosen tag z s.few) s.shorter
number_shortest tag z bytes (inr many) =
    let whole = many.spelt.whole in
    let few = many.few in
    let less = enough (length many.number) z many.number (omega arith) many.is in
    let most = chosen_length tag z (omega arith) in
    let count = (short_shortest 0 (pos many.spelt.more) many.spelt.count many.spelt.counts).shorter in
    let some = takes_a_byte 0 (pos many.spelt.more) many.spelt.count many.spelt.counts in
    let both = length-append many.spelt.count many.number in
    let size = ap length many.spelt.spelt in
    omega arith

long_shortest : (tag : ℕ) (number bytes : List ℕ) → IsLong tag number bytes → length (in_many_bytes tag number) ≤ length bytes
long_shortest tag number bytes long =
    let whole = long.whole in
    let is : length number - 9 ≡ long.more = omega arith in
    let shorter = (short_shortest 0 (pos long.more) long.count long.counts).shorter in
    let same : length (canonical_short 0 (pos (length number - 9))) ≡ length (canonical_short 0 (pos long.more)) = ap (λ (k : ℕ). length (canonical_short 0 (pos k))) is in
    let chosen = length-append (canonical_short 0 (pos (length number - 9))) number in
    let other = length-append long.count number in
    let size = ap length long.spelt in
    omega arith

-- ---- operands

-- one part after another
parts_shortest : {P Q : List ℕ → Type 0} (a b bytes : List ℕ) → ((front : List ℕ) → P front → length a ≤ length front) → ((back : List ℕ) → Q back → length b ≤ length back)
    → Then P Q bytes → length (a ++ b) ≤ length bytes
parts_shortest a b bytes first second parts =
    let front = first parts.front parts.front_is in
    let back = second parts.back parts.back_is in
    let chosen = length-append a b in
    let whole = ap length parts.joined ∙ length-append parts.front parts.back in
    omega arith

pub each_shortest : {A : Type 0} (R : A → List ℕ → Type 0) (f : A → List ℕ) → ((x : A) (bytes : List ℕ) → R x bytes → length (f x) ≤ length bytes)
    → (xs : List A) (bytes : List ℕ) → SpellsMany R xs bytes → length (flat_map f xs) ≤ length bytes
each_shortest R f one [] bytes is = omega arith
each_shortest R f one (x ∷ xs) bytes is = parts_shortest (f x) (flat_map f xs) bytes (one x) (each_shortest R f one xs) is

u_shortest : (n : ℕ) (bytes : List ℕ) → IsU n bytes → length (canonical_u n) ≤ length bytes
u_shortest n bytes is = number_shortest 0 (pos n) bytes is.0

z_shortest : (n : ℕ) (bytes : List ℕ) → IsZ n bytes → length (canonical_z n) ≤ length bytes
z_shortest n bytes is = number_shortest 7 (pos n) bytes is.0

reg_shortest : (r : Reg) (bytes : List ℕ) → SpellsReg r bytes → length (canonical_reg r) ≤ length bytes
reg_shortest (regs.X n) bytes is = number_shortest 3 (pos n) bytes is.0
reg_shortest (regs.Y n) bytes is = number_shortest 4 (pos n) bytes is.0

plain_shortest : (p : Plain) (bytes : List ℕ) → SpellsPlain p bytes → length (canonical_plain p) ≤ length bytes
plain_shortest (plains.U n) bytes is = u_shortest n bytes is
plain_shortest (plains.I z) bytes is = number_shortest 1 z bytes is
plain_shortest (plains.Wide w) bytes is = long_shortest 1 w bytes is.1
plain_shortest (plains.A n) bytes is = number_shortest 2 (pos n) bytes is.0
plain_shortest (plains.X n) bytes is = number_shortest 3 (pos n) bytes is.0
plain_shortest (plains.Y n) bytes is = number_shortest 4 (pos n) bytes is.0
plain_shortest (plains.F n) bytes is = number_shortest 5 (pos n) bytes is.0
plain_shortest (plains.H n) bytes is = number_shortest 6 (pos n) bytes is.0
plain_shortest (plains.Fr n) bytes is = parts_shortest (canonical_z 2) (canonical_u n) bytes (z_shortest 2) (u_shortest n) is
plain_shortest (plains.Lit n) bytes is = parts_shortest (canonical_z 4) (canonical_u n) bytes (z_shortest 4) (u_shortest n) is
plain_shortest (plains.Typed r n) bytes is =
    parts_shortest (canonical_z 5) (canonical_reg r ++ canonical_u n) bytes (z_shortest 5) (λ back. parts_shortest (canonical_reg r) (canonical_u n) back (reg_shortest r) (u_shortest n)) is

pair_shortest : (p : ℕ × ℕ) (bytes : List ℕ) → SpellsPair p bytes → length (canonical_pair p) ≤ length bytes
pair_shortest p bytes is = parts_shortest (canonical_u p.0) (canonical_u p.1) bytes (u_shortest p.0) (u_shortest p.1) is

-- the number of tag z, a count, and as many values
counted_shortest : {A : Type 0} (R : A → List ℕ → Type 0) (f : A → List ℕ) → ((x : A) (bytes : List ℕ) → R x bytes → length (f x) ≤ length bytes)
    → (z : ℕ) (xs : List A) (bytes : List ℕ) → Then (IsZ z) (Then (IsU (length xs)) (SpellsMany R xs)) bytes
    → length (canonical_z z ++ (canonical_u (length xs) ++ flat_map f xs)) ≤ length bytes
counted_shortest R f one z xs bytes is =
    parts_shortest (canonical_z z) (canonical_u (length xs) ++ flat_map f xs) bytes (z_shortest z)
    (λ back. parts_shortest (canonical_u (length xs)) (flat_map f xs) back (u_shortest (length xs)) (each_shortest R f one xs)) is

pub canonical_shortest : (o : Operand) (bytes : List ℕ) → Spells o bytes → length (canonical o) ≤ length bytes
canonical_shortest (operands.One p) bytes is = plain_shortest p bytes is
canonical_shortest (operands.List ps) bytes is = counted_shortest SpellsPlain canonical_plain plain_shortest 1 ps bytes is
canonical_shortest (operands.Alloc ps) bytes is = counted_shortest SpellsPair canonical_pair pair_shortest 3 ps bytes is

-- nor is what stands at the front of bytes shorter
pub front_is_no_shorter : (o : Operand) (bytes rest : List ℕ) → Begins (Spells o) bytes rest → length (canonical o) ≤ length bytes
front_is_no_shorter o bytes rest begins =
    let shorter = canonical_shortest o begins.text begins.is in
    let whole = ap length begins.joined ∙ length-append begins.text rest in
    omega arith
