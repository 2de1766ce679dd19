-- What spells an operand that meets its type is bytes.
use Rattle.std.proofs.Common.{ℕ, zero, suc, ◌+◌, ◌*◌, ◌^◌, ◌<◌, ℤ, pos, List, [], ◌∷◌, ◌++◌, length, sym, subst, arith, inl, inr, All}
use Rattle.std.proofs.lemmas.List.Elements.{All-tail}
use Rattle.std.specs.Int.{byte_at, bytes_high_first}
use Rattle.byteorder.specs.Endian.{big_bytes}
use Rattle.bk_codec.specs.Spelling.{IsBytes, Then, SpellsMany}
use Rattle.bk_codec.proofs.Agreement.{IsBytes-tail}
use Rattle.compact_term.specs.declared.operand.Reg.{Reg}
use Rattle.compact_term.specs.declared.operand.Reg.TheVariants as regs
use Rattle.compact_term.specs.declared.operand.Plain.{Plain}
use Rattle.compact_term.specs.declared.operand.Plain.TheVariants as plains
use Rattle.compact_term.specs.declared.operand.Operand.{Operand}
use Rattle.compact_term.specs.declared.operand.Operand.TheVariants as operands
use Rattle.compact_term.specs.Spelling.{IsShort, IsLong, IsNumber, IsBelow, IsU, IsZ, SpellsReg, SpellsPlain, SpellsPair, Spells}
use Rattle.compact_term.specs.Operand.{PlainMeetsType, PairMeetsType, MeetsType}

-- ---- lists of bytes

pub bytes_none : IsBytes []
bytes_none i = omega arith

pub bytes_cons : (b : ℕ) (bytes : List ℕ) → b < 256 → IsBytes bytes → IsBytes (b ∷ bytes)
bytes_cons b bytes below are zero = below
bytes_cons b bytes below are (suc i) = are i

pub bytes_joined : (a b : List ℕ) → IsBytes a → IsBytes b → IsBytes (a ++ b)
bytes_joined [] b first second = second
bytes_joined (x ∷ a) b first second = bytes_cons x (a ++ b) (first 0) (bytes_joined a b (IsBytes-tail x a first) second)

byte_below : (k n : ℕ) → byte_at k n < 256
byte_below zero n = omega arith
byte_below (suc k) n = omega arith

pub big_bytes_are : (n x : ℕ) → IsBytes (big_bytes n x)
big_bytes_are zero x = bytes_none
big_bytes_are (suc n) x = bytes_cons _ (bytes_high_first n x) (byte_below n x) (big_bytes_are n x)

pub then_bytes : {P Q : List ℕ → Type 0} → ((text : List ℕ) → P text → IsBytes text) → ((text : List ℕ) → Q text → IsBytes text)
    → (text : List ℕ) → Then P Q text → IsBytes text
then_bytes first second text is = subst IsBytes (sym is.joined) (bytes_joined is.front is.back (first is.front is.front_is) (second is.back is.back_is))

pub each_bytes : {A : Type 0} (R : A → List ℕ → Type 0) (M : A → Type 0) → ((x : A) (text : List ℕ) → M x → R x text → IsBytes text)
    → (xs : List A) (text : List ℕ) → All M xs → SpellsMany R xs text → IsBytes text
each_bytes R M one [] text meets is = subst IsBytes (sym is) bytes_none
each_bytes R M one (x ∷ xs) text meets is =
    then_bytes (λ front. one x front (meets 0 x (omega arith))) (λ back. each_bytes R M one xs back (All-tail M x xs meets)) text is

-- ---- numbers

short_bytes : (tag : ℕ) (z : ℤ) (bytes : List ℕ) → tag < 8 → IsShort tag z bytes → IsBytes bytes
short_bytes tag z bytes low (inl four) = let fits = four.fits in subst IsBytes (sym four.spelt) (bytes_cons (16 * four.value + tag) [] (omega arith) bytes_none)
short_bytes tag z bytes low (inr (inl eleven)) =
    let fits = eleven.high_fits in
    subst IsBytes (sym eleven.spelt) (bytes_cons (32 * eleven.high + 8 + tag) (eleven.low ∷ []) (omega arith) (bytes_cons eleven.low [] eleven.low_fits bytes_none))
short_bytes tag z bytes low (inr (inr few)) =
    let fits = few.fits in
    let number : IsBytes few.number = subst IsBytes (sym few.is.spelt.is) (big_bytes_are (few.more + 2) few.is.value) in
    subst IsBytes (sym few.spelt) (bytes_cons (32 * few.more + 24 + tag) few.number (omega arith) number)

long_bytes : (tag : ℕ) (number bytes : List ℕ) → tag < 8 → IsBytes number → IsLong tag number bytes → IsBytes bytes
long_bytes tag number bytes low are is =
    let count : IsBytes is.count = short_bytes 0 (pos is.more) is.count (omega arith) is.counts in
    subst IsBytes (sym is.spelt) (bytes_cons (248 + tag) (is.count ++ number) (omega arith) (bytes_joined is.count number count are))

number_bytes : (tag : ℕ) (z : ℤ) (bytes : List ℕ) → tag < 8 → IsNumber tag z bytes → IsBytes bytes
number_bytes tag z bytes low (inl short) = short_bytes tag z bytes low short
number_bytes tag z bytes low (inr many) = long_bytes tag many.number bytes low (subst IsBytes (sym many.is.spelt.is) (big_bytes_are _ many.is.value)) many.spelt

below_bytes : (limit tag n : ℕ) → tag < 8 → (bytes : List ℕ) → IsBelow limit tag n bytes → IsBytes bytes
below_bytes limit tag n low bytes is = number_bytes tag (pos n) bytes low is.0

u_bytes : (n : ℕ) (bytes : List ℕ) → IsU n bytes → IsBytes bytes
u_bytes n = below_bytes (2 ^ 64) 0 n (omega arith)

z_bytes : (n : ℕ) (bytes : List ℕ) → IsZ n bytes → IsBytes bytes
z_bytes n = below_bytes (2 ^ 64) 7 n (omega arith)

-- ---- operands

reg_bytes : (r : Reg) (bytes : List ℕ) → SpellsReg r bytes → IsBytes bytes
reg_bytes (regs.X n) bytes is = below_bytes (2 ^ 32) 3 n (omega arith) bytes is
reg_bytes (regs.Y n) bytes is = below_bytes (2 ^ 32) 4 n (omega arith) bytes is

plain_bytes : (p : Plain) (bytes : List ℕ) → PlainMeetsType p → SpellsPlain p bytes → IsBytes bytes
plain_bytes (plains.U n) bytes meets is = u_bytes n bytes is
plain_bytes (plains.I z) bytes meets is = number_bytes 1 z bytes (omega arith) is
plain_bytes (plains.Wide w) bytes meets is = long_bytes 1 w bytes (omega arith) meets is.1
plain_bytes (plains.A n) bytes meets is = below_bytes (2 ^ 32) 2 n (omega arith) bytes is
plain_bytes (plains.X n) bytes meets is = below_bytes (2 ^ 32) 3 n (omega arith) bytes is
plain_bytes (plains.Y n) bytes meets is = below_bytes (2 ^ 32) 4 n (omega arith) bytes is
plain_bytes (plains.F n) bytes meets is = below_bytes (2 ^ 32) 5 n (omega arith) bytes is
plain_bytes (plains.H n) bytes meets is = below_bytes (2 ^ 32) 6 n (omega arith) bytes is
plain_bytes (plains.Fr n) bytes meets is = then_bytes (z_bytes 2) (u_bytes n) bytes is
plain_bytes (plains.Lit n) bytes meets is = then_bytes (z_bytes 4) (u_bytes n) bytes is
plain_bytes (plains.Typed r n) bytes meets is = then_bytes (z_bytes 5) (then_bytes (reg_bytes r) (u_bytes n)) bytes is

pair_bytes : (p : ℕ × ℕ) (bytes : List ℕ) → SpellsPair p bytes → IsBytes bytes
pair_bytes p bytes is = then_bytes (u_bytes p.0) (u_bytes p.1) bytes is

pub operand_bytes : (o : Operand) (bytes : List ℕ) → MeetsType o → Spells o bytes → IsBytes bytes
operand_bytes (operands.One p) bytes meets is = plain_bytes p bytes meets is
operand_bytes (operands.List ps) bytes meets is =
    then_bytes (z_bytes 1) (then_bytes (u_bytes (length ps)) (λ back. each_bytes SpellsPlain PlainMeetsType plain_bytes ps back meets.0)) bytes is
operand_bytes (operands.Alloc ps) bytes meets is =
    then_bytes (z_bytes 3) (then_bytes (u_bytes (length ps)) (λ back. each_bytes SpellsPair PairMeetsType (λ p text _ spelt. pair_bytes p text spelt) ps back meets.0)) bytes is
