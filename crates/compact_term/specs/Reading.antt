-- How an operand is read from the left, and which refusal comes first where none is spelled there.
use Rattle.std.specs.Prelude.{ℕ, ◌+◌, ◌*◌, ◌/◌, ◌%◌, ◌^◌, ℤ, pos, negsuc, List, ◌==◌, nat_lt, if◌then◌else◌, Result, Ok, Err}
use Rattle.byteorder.specs.Endian.{twos_complement}
use Rattle.bk_codec.specs.Reading.{◌>>=◌, giving, made_of, byte_at, bytes_at, number_at, many_at}
use Rattle.compact_term.specs.declared.operand.Reg.{Reg}
use Rattle.compact_term.specs.declared.operand.Reg.TheVariants as regs
use Rattle.compact_term.specs.declared.operand.Plain.{Plain}
use Rattle.compact_term.specs.declared.operand.Plain.TheVariants as plains
use Rattle.compact_term.specs.declared.operand.Operand.{Operand}
use Rattle.compact_term.specs.declared.operand.Operand.TheVariants as operands
use Rattle.compact_term.specs.declared.reader.Head.{Head}
use Rattle.compact_term.specs.declared.reader.Head.TheVariants as heads
use Rattle.compact_term.specs.declared.refusal.OperandRefusal.{OperandRefusal}
use Rattle.compact_term.specs.declared.refusal.OperandRefusal.TheVariants.{Cut, Inner, Wide, Negative, Extended, Nested}

-- ---- numbers, behind their first byte

-- the forms of up to eight bytes
unfoldable pub short_at : ℕ → List ℕ → Result (ℤ × List ℕ) OperandRefusal
short_at first bytes =
    if first / 8 % 2 == 0 then giving (pos (first / 16)) bytes
    else if first / 16 % 2 == 0 then made_of (λ low. pos (256 * (first / 32) + low)) (byte_at Cut bytes)
    else made_of (twos_complement (first / 32 + 2)) (number_at Cut (first / 32 + 2) bytes)

-- a number that isn't negative and stays below a limit
abbrev pub natural : ℕ → ℕ → ℤ → Result ℕ OperandRefusal
natural limit tag (pos n) = if nat_lt n limit then Ok n else Err (Wide tag)
natural limit tag (negsuc n) = Err (Negative tag)

-- how many bytes the longest form has; its length isn't itself in that form
unfoldable pub length_at : List ℕ → Result (ℕ × List ℕ) OperandRefusal
length_at bytes = do
  first ← byte_at Cut bytes
  if first.0 % 8 == 0
      then (if nat_lt first.0 248
      then (short_at first.0 first.1 >>= λ z. natural (2 ^ 64) 0 z.0 >>= λ more. giving (more + 9) z.1)
      else Err (Wide 0))
      else Err Inner

-- a number of up to 16 bytes; a longer one is refused before its bytes are looked at
unfoldable pub whole_at : ℕ → List ℕ → Result (ℤ × List ℕ) OperandRefusal
whole_at first bytes =
    if nat_lt first 248 then short_at first bytes
    else length_at bytes >>= λ n. if nat_lt 16 n.0 then Err (Wide (first % 8)) else made_of (twos_complement n.0) (number_at Cut n.0 n.1)

-- the bound is looked at after the bytes
unfoldable pub below_at : ℕ → ℕ → List ℕ → Result (ℕ × List ℕ) OperandRefusal
below_at limit first bytes = whole_at first bytes >>= λ z. natural limit (first % 8) z.0 >>= λ n. giving n z.1

-- an integer of any length
unfoldable pub integer_at : ℕ → List ℕ → Result (Plain × List ℕ) OperandRefusal
integer_at first bytes =
    if nat_lt first 248 then made_of plains.I (short_at first bytes)
    else length_at bytes >>= λ n. if nat_lt 16 n.0 then made_of plains.Wide (bytes_at Cut n.0 n.1)
    else made_of (λ x. plains.I (twos_complement n.0 x)) (number_at Cut n.0 n.1)

-- ---- parts

-- the tag is looked at before the number
unfoldable pub u_at : List ℕ → Result (ℕ × List ℕ) OperandRefusal
u_at bytes = byte_at Cut bytes >>= λ first. if first.0 % 8 == 0 then below_at (2 ^ 64) first.0 first.1 else Err Inner

unfoldable pub reg_at : List ℕ → Result (Reg × List ℕ) OperandRefusal
reg_at bytes = byte_at Cut bytes >>= λ first.
    if first.0 % 8 == 3 then made_of regs.X (below_at (2 ^ 32) first.0 first.1)
    else if first.0 % 8 == 4 then made_of regs.Y (below_at (2 ^ 32) first.0 first.1)
    else Err Inner

-- what follows tag z, by its number
unfoldable pub extended_by : ℕ → List ℕ → Result (Head × List ℕ) OperandRefusal
extended_by z bytes =
    if z == 1 then giving heads.List bytes
    else if z == 2 then made_of (λ n. heads.Plain (plains.Fr n)) (u_at bytes)
    else if z == 3 then giving heads.Alloc bytes
    else if z == 4 then made_of (λ n. heads.Plain (plains.Lit n)) (u_at bytes)
    else if z == 5 then (reg_at bytes >>= λ r. made_of (λ n. heads.Plain (plains.Typed r.0 n)) (u_at r.1))
    else Err (Extended z)

-- by the tag, behind the first byte
unfoldable pub tagged : ℕ → ℕ → List ℕ → Result (Head × List ℕ) OperandRefusal
tagged tag first bytes =
    if tag == 0 then made_of (λ n. heads.Plain (plains.U n)) (below_at (2 ^ 64) first bytes)
    else if tag == 1 then made_of heads.Plain (integer_at first bytes)
    else if tag == 2 then made_of (λ n. heads.Plain (plains.A n)) (below_at (2 ^ 32) first bytes)
    else if tag == 3 then made_of (λ n. heads.Plain (plains.X n)) (below_at (2 ^ 32) first bytes)
    else if tag == 4 then made_of (λ n. heads.Plain (plains.Y n)) (below_at (2 ^ 32) first bytes)
    else if tag == 5 then made_of (λ n. heads.Plain (plains.F n)) (below_at (2 ^ 32) first bytes)
    else if tag == 6 then made_of (λ n. heads.Plain (plains.H n)) (below_at (2 ^ 32) first bytes)
    else (below_at (2 ^ 64) first bytes >>= λ z. extended_by z.0 z.1)

-- a whole plain operand, or what begins a list or an allocation list
unfoldable pub head_at : List ℕ → Result (Head × List ℕ) OperandRefusal
head_at bytes = byte_at Cut bytes >>= λ first. tagged (first.0 % 8) first.0 first.1

-- ---- operands

abbrev pub member_of : Head → List ℕ → Result (Plain × List ℕ) OperandRefusal
member_of (heads.Plain p) bytes = giving p bytes
member_of heads.List bytes = Err Nested
member_of heads.Alloc bytes = Err Nested

unfoldable pub member_at : List ℕ → Result (Plain × List ℕ) OperandRefusal
member_at bytes = head_at bytes >>= λ head. member_of head.0 head.1

unfoldable pub pair_at : List ℕ → Result ((ℕ × ℕ) × List ℕ) OperandRefusal
pair_at bytes = u_at bytes >>= λ kind. made_of (λ amount. (kind.0, amount)) (u_at kind.1)

abbrev pub operand_of : Head → List ℕ → Result (Operand × List ℕ) OperandRefusal
operand_of (heads.Plain p) bytes = giving (operands.One p) bytes
operand_of heads.List bytes = u_at bytes >>= λ n. made_of operands.List (many_at member_at n.0 n.1)
operand_of heads.Alloc bytes = u_at bytes >>= λ n. made_of operands.Alloc (many_at pair_at n.0 n.1)

-- the operand at the front of the bytes, with the bytes behind it, or the first refusal from the left
unfoldable pub operand_at : List ℕ → Result (Operand × List ℕ) OperandRefusal
operand_at bytes = head_at bytes >>= λ head. operand_of head.0 head.1
