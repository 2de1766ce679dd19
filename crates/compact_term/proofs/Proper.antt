-- What bytes spell meets its type, and what is spelled is proper.
use Rattle.std.proofs.Common.{◌≡◌, ℕ, ◌^◌, ◌<◌, ◌≤◌, ◌+◌, ◌-◌, ◌*◌, List, [], ◌∷◌, ◌++◌, length, ℤ, pos, ◌-ℤ◌, zero, suc, SFits, refl, sym, ap, subst, ◌∙◌, arith, inl, inr, All}
use Rattle.std.proofs.lemmas.Bool.{cases_lt, lt-ltb, le-ltb}
use Rattle.std.proofs.lemmas.Int.{ints}
use Rattle.std.proofs.lemmas.List.Elements.{All-nil, All-cons}
use Rattle.std.proofs.Math.Nat.{pow-le-pow_right, pow-suc, pow-succ'}
use Rattle.std.proofs.lemmas.Nat.{pow-add}
use Rattle.std.specs.Int.{w128}
use Rattle.std.specs.Int.Signed.{mag}
use Rattle.byteorder.specs.Endian.{twos_complement}
use Rattle.bk_codec.specs.Spelling.{IsBytes, Then, SpellsMany}
use Rattle.bk_codec.proofs.Agreement.{IsBytes-front, IsBytes-back, IsBytes-tail}
use Rattle.compact_term.specs.declared.operand.Reg.{Reg}
use Rattle.compact_term.specs.declared.operand.Reg.TheVariants as regs
use Rattle.compact_term.specs.declared.operand.Plain.{Plain}
use Rattle.compact_term.specs.declared.operand.Plain.TheVariants as plains
use Rattle.compact_term.specs.declared.operand.Operand.{Operand}
use Rattle.compact_term.specs.declared.operand.Operand.TheVariants as operands
use Rattle.compact_term.specs.Spelling.{InTwosComplement, IsNumber, SpellsReg, SpellsPlain, SpellsPair, Spells}
use Rattle.compact_term.specs.Operand.{RegMeetsType, PlainMeetsType, PairMeetsType, MeetsType, PlainIsProper, IsProper}

-- ---- numbers

mag-less : (x whole half : ℕ) → x < whole → whole ≤ x + half → mag (pos x -ℤ pos whole) < half
mag-less x whole half below le = grind (arith, ints)

pub pow256 : (n : ℕ) → 256 ^ n ≡ 2 ^ (8 * n)
pow256 zero = refl
pow256 (suc n) =
    let more : 8 * suc n ≡ 8 * n + 8 = omega arith in
    pow-suc 256 n ∙ ap (λ (p : ℕ). p * 256) (pow256 n) ∙ sym (ap (λ (e : ℕ). 2 ^ e) more ∙ pow-add 2 (8 * n) 8)

-- half of the numbers of n bytes
pub twice_half : (n : ℕ) → 0 < n → 2 ^ (8 * n) ≡ 2 * 2 ^ (8 * n - 1)
twice_half n some =
    let whole : 8 * n ≡ suc (8 * n - 1) = omega arith in
    ap (λ (e : ℕ). 2 ^ e) whole ∙ pow-succ' 2 (8 * n - 1)

-- n bytes hold less than half of 256 ^ n
pub mag-twos_complement : (n x : ℕ) → 0 < n → x < 256 ^ n → mag (twos_complement n x) < 2 ^ (8 * n - 1)
mag-twos_complement n x some fits =
    let twice = twice_half n some in
    let below : x < 2 ^ (8 * n) = rw (pow256 n) at fits in
    elim (cases_lt x (2 ^ (8 * n - 1))) [
      | inl lt ↦ rw (lt-ltb _ _ lt) lt
      | inr le ↦ rw (le-ltb _ _ le) (mag-less x (2 ^ (8 * n)) (2 ^ (8 * n - 1)) below (omega arith))
    ]

fits128 : (n : ℕ) (z : ℤ) (bytes : List ℕ) → 0 < n → n ≤ 16 → InTwosComplement n z bytes → SFits w128 z
fits128 n z bytes some few is =
    let small : mag (twos_complement n is.value) < 2 ^ (8 * n - 1) = mag-twos_complement n is.value some is.spelt.fits in
    let bits : 8 * n - 1 ≤ 127 = omega arith in
    let power : 2 ^ (8 * n - 1) ≤ 2 ^ 127 = pow-le-pow_right {n = 2} (omega arith) bits in
    let value : mag z ≡ mag (twos_complement n is.value) = ap mag is.is in
    record { sfits = omega arith }

number_fits : (z : ℤ) (bytes : List ℕ) → IsNumber 1 z bytes → SFits w128 z
number_fits z bytes (inl (inl four)) = let fits = four.fits in rw four.is (record { sfits = omega arith })
number_fits z bytes (inl (inr (inl eleven))) = let high = eleven.high_fits in let low = eleven.low_fits in rw eleven.is (record { sfits = omega arith })
number_fits z bytes (inl (inr (inr few))) = let fits = few.fits in fits128 (few.more + 2) z few.number (omega arith) (omega arith) few.is
number_fits z bytes (inr many) = let whole = many.spelt.whole in fits128 (length many.number) z many.number (omega arith) many.few many.is

-- ---- what is spelled by bytes meets its type

reg_meets_type : (r : Reg) (bytes : List ℕ) → SpellsReg r bytes → RegMeetsType r
reg_meets_type (regs.X n) bytes is = is.1
reg_meets_type (regs.Y n) bytes is = is.1

plain_meets_type : (p : Plain) (bytes : List ℕ) → IsBytes bytes → SpellsPlain p bytes → PlainMeetsType p
plain_meets_type (plains.U n) bytes fits is = is.1
plain_meets_type (plains.I z) bytes fits is = number_fits z bytes is
plain_meets_type (plains.Wide w) bytes fits is =
    let whole : IsBytes ((248 + 1) ∷ (is.1.count ++ w)) = subst IsBytes is.1.spelt fits in
    IsBytes-back is.1.count w (IsBytes-tail (248 + 1) (is.1.count ++ w) whole)
plain_meets_type (plains.A n) bytes fits is = is.1
plain_meets_type (plains.X n) bytes fits is = is.1
plain_meets_type (plains.Y n) bytes fits is = is.1
plain_meets_type (plains.F n) bytes fits is = is.1
plain_meets_type (plains.H n) bytes fits is = is.1
plain_meets_type (plains.Fr n) bytes fits is = is.back_is.1
plain_meets_type (plains.Lit n) bytes fits is = is.back_is.1
plain_meets_type (plains.Typed r n) bytes fits is = (reg_meets_type r is.back_is.front is.back_is.front_is, is.back_is.back_is.1)

pair_meets_type : (p : ℕ × ℕ) (bytes : List ℕ) → IsBytes bytes → SpellsPair p bytes → PairMeetsType p
pair_meets_type p bytes fits is = (is.front_is.1, is.back_is.1)

-- what holds of each value that is spelled by bytes holds of each of many
pub many_are : {A : Type 0} (R : A → List ℕ → Type 0) (P : A → Type 0) → ((x : A) (bytes : List ℕ) → IsBytes bytes → R x bytes → P x)
    → (xs : List A) (bytes : List ℕ) → IsBytes bytes → SpellsMany R xs bytes → All P xs
many_are R P one [] bytes fits is = All-nil P
many_are R P one (x ∷ xs) bytes fits is =
    let whole : IsBytes (is.front ++ is.back) = subst IsBytes is.joined fits in
    All-cons P x xs (one x is.front (IsBytes-front is.front is.back whole) is.front_is) (many_are R P one xs is.back (IsBytes-back is.front is.back whole) is.back_is)

-- the bytes of what stands behind the first two parts
third_fits : {P Q R : List ℕ → Type 0} (bytes : List ℕ) → IsBytes bytes → (is : Then P (Then Q R) bytes) → IsBytes is.back_is.back
third_fits bytes fits is =
    let behind : IsBytes (is.back_is.front ++ is.back_is.back) = subst IsBytes is.back_is.joined (IsBytes-back is.front is.back (subst IsBytes is.joined fits)) in
    IsBytes-back is.back_is.front is.back_is.back behind

pub operand_meets_type : (o : Operand) (bytes : List ℕ) → IsBytes bytes → Spells o bytes → MeetsType o
operand_meets_type (operands.One p) bytes fits is = plain_meets_type p bytes fits is
operand_meets_type (operands.List ps) bytes fits is = (many_are SpellsPlain PlainMeetsType plain_meets_type ps is.back_is.back (third_fits bytes fits is) is.back_is.back_is, is.back_is.front_is.1)
operand_meets_type (operands.Alloc ps) bytes fits is = (many_are SpellsPair PairMeetsType pair_meets_type ps is.back_is.back (third_fits bytes fits is) is.back_is.back_is, is.back_is.front_is.1)

-- ---- what is spelled is proper

plain_proper : (p : Plain) (bytes : List ℕ) → SpellsPlain p bytes → PlainIsProper p
plain_proper (plains.Wide w) bytes is = is.0
plain_proper _ bytes is = tt

members_proper : (ps : List Plain) (bytes : List ℕ) → SpellsMany SpellsPlain ps bytes → All PlainIsProper ps
members_proper [] bytes is = All-nil PlainIsProper
members_proper (p ∷ ps) bytes is = All-cons PlainIsProper p ps (plain_proper p is.front is.front_is) (members_proper ps is.back is.back_is)

pub operand_proper : (o : Operand) (bytes : List ℕ) → Spells o bytes → IsProper o
operand_proper (operands.One p) bytes is = plain_proper p bytes is
operand_proper (operands.List ps) bytes is = members_proper ps is.back_is.back is.back_is.back_is
operand_proper (operands.Alloc ps) bytes is = tt
