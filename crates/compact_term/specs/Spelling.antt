-- How operands are spelled as bytes: every spelling that the format has, and not only the shortest.
use Rattle.std.specs.Prelude.{◌≡◌, ◌⊎◌, ℕ, ◌+◌, ◌*◌, ◌^◌, ◌<◌, ◌≤◌, ℤ, pos, List, [], ◌∷◌, ◌++◌, length}
use Rattle.byteorder.specs.Endian.{twos_complement}
use Rattle.bk_codec.specs.Spelling.{Then, SpellsMany, SpellsNumber}
use Rattle.compact_term.specs.declared.operand.Reg.{Reg}
use Rattle.compact_term.specs.declared.operand.Reg.TheVariants as regs
use Rattle.compact_term.specs.declared.operand.Plain.{Plain}
use Rattle.compact_term.specs.declared.operand.Plain.TheVariants as plains
use Rattle.compact_term.specs.declared.operand.Operand.{Operand}
use Rattle.compact_term.specs.declared.operand.Operand.TheVariants as operands

-- ---- numbers: the low three bits of the first byte are the tag, and the others tell the form

-- four bits: the value stands above a clear bit
pub record InFourBits (tag : ℕ) (z : ℤ) (bytes : List ℕ) : Type 0 where
  pub value : ℕ
  pub fits : value < 16
  pub is : z ≡ pos value
  pub spelt : bytes ≡ (16 * value + tag) ∷ []

-- eleven bits: three above the bits 01, and eight in a second byte
pub record InElevenBits (tag : ℕ) (z : ℤ) (bytes : List ℕ) : Type 0 where
  pub high : ℕ
  pub low : ℕ
  pub high_fits : high < 8
  pub low_fits : low < 256
  pub is : z ≡ pos (256 * high + low)
  pub spelt : bytes ≡ (32 * high + 8 + tag) ∷ low ∷ []

-- n bytes of a number with sign, in two's complement, the highest first
pub record InTwosComplement (n : ℕ) (z : ℤ) (bytes : List ℕ) : Type 0 where
  pub value : ℕ
  pub is : z ≡ twos_complement n value
  pub spelt : SpellsNumber n value bytes

-- two to eight bytes: above the bits 11 stands how many there are, less two
pub record InFewBytes (tag : ℕ) (z : ℤ) (bytes : List ℕ) : Type 0 where
  pub more : ℕ
  pub number : List ℕ
  pub fits : more < 7
  pub is : InTwosComplement (more + 2) z number
  pub spelt : bytes ≡ (32 * more + 24 + tag) ∷ number

abbrev pub IsShort : ℕ → ℤ → List ℕ → Type 0
IsShort tag z bytes = InFourBits tag z bytes ⊎ InElevenBits tag z bytes ⊎ InFewBytes tag z bytes

-- nine bytes or more: all five bits are set, and a u in one of the forms above is their number, less nine
pub record IsLong (tag : ℕ) (number bytes : List ℕ) : Type 0 where
  pub more : ℕ
  pub count : List ℕ
  pub counts : IsShort 0 (pos more) count
  pub whole : length number ≡ more + 9
  pub spelt : bytes ≡ (248 + tag) ∷ (count ++ number)

-- nine to sixteen bytes of a number with sign
pub record InManyBytes (tag : ℕ) (z : ℤ) (bytes : List ℕ) : Type 0 where
  pub number : List ℕ
  pub few : length number ≤ 16
  pub is : InTwosComplement (length number) z number
  pub spelt : IsLong tag number bytes

abbrev pub IsNumber : ℕ → ℤ → List ℕ → Type 0
IsNumber tag z bytes = IsShort tag z bytes ⊎ InManyBytes tag z bytes

-- a number without sign, below a limit
abbrev pub IsBelow : ℕ → ℕ → ℕ → List ℕ → Type 0
IsBelow limit tag n bytes = IsNumber tag (pos n) bytes × (n < limit)

-- ---- operands, by their tags: u 0, i 1, a 2, x 3, y 4, f 5, h 6, and z 7, whose number says what follows

abbrev pub IsU : ℕ → List ℕ → Type 0
IsU = IsBelow (2 ^ 64) 0

abbrev pub IsZ : ℕ → List ℕ → Type 0
IsZ = IsBelow (2 ^ 64) 7

abbrev pub SpellsReg : Reg → List ℕ → Type 0
SpellsReg (regs.X n) bytes = IsBelow (2 ^ 32) 3 n bytes
SpellsReg (regs.Y n) bytes = IsBelow (2 ^ 32) 4 n bytes

abbrev pub SpellsPlain : Plain → List ℕ → Type 0
SpellsPlain (plains.U n) bytes = IsU n bytes
SpellsPlain (plains.I z) bytes = IsNumber 1 z bytes
SpellsPlain (plains.Wide w) bytes = (17 ≤ length w) × IsLong 1 w bytes
SpellsPlain (plains.A n) bytes = IsBelow (2 ^ 32) 2 n bytes
SpellsPlain (plains.X n) bytes = IsBelow (2 ^ 32) 3 n bytes
SpellsPlain (plains.Y n) bytes = IsBelow (2 ^ 32) 4 n bytes
SpellsPlain (plains.F n) bytes = IsBelow (2 ^ 32) 5 n bytes
SpellsPlain (plains.H n) bytes = IsBelow (2 ^ 32) 6 n bytes
SpellsPlain (plains.Fr n) bytes = Then (IsZ 2) (IsU n) bytes
SpellsPlain (plains.Lit n) bytes = Then (IsZ 4) (IsU n) bytes
SpellsPlain (plains.Typed r n) bytes = Then (IsZ 5) (Then (SpellsReg r) (IsU n)) bytes

abbrev pub SpellsPair : ℕ × ℕ → List ℕ → Type 0
SpellsPair p bytes = Then (IsU p.0) (IsU p.1) bytes

abbrev pub Spells : Operand → List ℕ → Type 0
Spells (operands.One p) bytes = SpellsPlain p bytes
Spells (operands.List ps) bytes = Then (IsZ 1) (Then (IsU (length ps)) (SpellsMany SpellsPlain ps)) bytes
Spells (operands.Alloc ps) bytes = Then (IsZ 3) (Then (IsU (length ps)) (SpellsMany SpellsPair ps)) bytes
