-- What holds of every operand that a program holds, and which of these are proper.
use Rattle.std.specs.Prelude.{ℕ, ◌^◌, ◌<◌, ◌≤◌, length, All, FitsSigned, ⊤}
use Rattle.std.specs.Int.{w128}
use Rattle.bk_codec.specs.Spelling.{IsBytes}
use Rattle.compact_term.specs.declared.operand.Reg.{Reg}
use Rattle.compact_term.specs.declared.operand.Reg.TheVariants as regs
use Rattle.compact_term.specs.declared.operand.Plain.{Plain}
use Rattle.compact_term.specs.declared.operand.Plain.TheVariants as plains
use Rattle.compact_term.specs.declared.operand.Operand.{Operand}
use Rattle.compact_term.specs.declared.operand.Operand.TheVariants as operands

-- ---- an operand meets its type: each number and each count is in the range of its type, and bytes are bytes

abbrev pub RegMeetsType : Reg → Type 0
RegMeetsType (regs.X n) = n < 2 ^ 32
RegMeetsType (regs.Y n) = n < 2 ^ 32

abbrev pub PlainMeetsType : Plain → Type 0
PlainMeetsType (plains.U n) = n < 2 ^ 64
PlainMeetsType (plains.I z) = FitsSigned w128 z
PlainMeetsType (plains.Wide w) = IsBytes w
PlainMeetsType (plains.A n) = n < 2 ^ 32
PlainMeetsType (plains.X n) = n < 2 ^ 32
PlainMeetsType (plains.Y n) = n < 2 ^ 32
PlainMeetsType (plains.F n) = n < 2 ^ 32
PlainMeetsType (plains.H n) = n < 2 ^ 32
PlainMeetsType (plains.Fr n) = n < 2 ^ 64
PlainMeetsType (plains.Lit n) = n < 2 ^ 64
PlainMeetsType (plains.Typed r n) = RegMeetsType r × (n < 2 ^ 64)

-- a kind and an amount
abbrev pub PairMeetsType : ℕ × ℕ → Type 0
PairMeetsType p = (p.0 < 2 ^ 64) × (p.1 < 2 ^ 64)

abbrev pub MeetsType : Operand → Type 0
MeetsType (operands.One p) = PlainMeetsType p
MeetsType (operands.List ps) = All PlainMeetsType ps × (length ps < 2 ^ 64)
MeetsType (operands.Alloc ps) = All PairMeetsType ps × (length ps < 2 ^ 64)

-- ---- an operand is proper: each wide integer has 17 bytes or more

abbrev pub PlainIsProper : Plain → Type 0
PlainIsProper (plains.Wide w) = 17 ≤ length w
PlainIsProper _ = ⊤

abbrev pub IsProper : Operand → Type 0
IsProper (operands.One p) = PlainIsProper p
IsProper (operands.List ps) = All PlainIsProper ps
IsProper (operands.Alloc ps) = ⊤
