-- An operand that is read leaves no more bytes than there were.
use Rattle.std.proofs.Common.{ℕ, ◌+◌, ◌/◌, ◌%◌, ◌*◌, ◌^◌, eqb, ltb, pos}
use Rattle.byteorder.specs.Endian.{twos_complement}
use Rattle.bk_codec.proofs.Keeps.{Keeps, keeps_none, keeps_giving, keeps_byte, keeps_bytes, keeps_number, keeps_if, keeps_made, keeps_then, keeps_step, keeps_many}
use Rattle.compact_term.specs.declared.refusal.OperandRefusal.TheVariants.{Cut, Inner, Wide, Extended, Nested}
use Rattle.compact_term.specs.declared.operand.Reg.TheVariants as regs
use Rattle.compact_term.specs.declared.operand.Plain.TheVariants as plains
use Rattle.compact_term.specs.declared.operand.Operand.TheVariants as operands
use Rattle.compact_term.specs.declared.reader.Head.{Head}
use Rattle.compact_term.specs.declared.reader.Head.TheVariants as heads
use Rattle.compact_term.specs.Reading.{short_at, natural, length_at, whole_at, below_at, integer_at, u_at, reg_at, extended_by, tagged, head_at, member_of, member_at, pair_at, operand_of, operand_at}

short_keeps : (first : ℕ) → Keeps (short_at first)
unfolding short_at
short_keeps first =
    keeps_if (eqb (first / 8 % 2) 0) (keeps_giving (pos (first / 16)))
    (keeps_if (eqb (first / 16 % 2) 0) (keeps_made (λ low. pos (256 * (first / 32) + low)) (keeps_byte Cut))
    (keeps_made (twos_complement (first / 32 + 2)) (keeps_number Cut (first / 32 + 2))))

length_keeps : Keeps length_at
unfolding length_at
length_keeps =
    keeps_then (keeps_byte Cut) (λ first. keeps_if (eqb (first % 8) 0)
    (keeps_if (ltb first 248) (keeps_then (short_keeps first) (λ z. keeps_step (natural (2 ^ 64) 0 z) (λ more. keeps_giving (more + 9)))) (keeps_none (Wide 0)))
    (keeps_none Inner))

whole_keeps : (first : ℕ) → Keeps (whole_at first)
unfolding whole_at
whole_keeps first =
    keeps_if (ltb first 248) (short_keeps first)
    (keeps_then length_keeps (λ n. keeps_if (ltb 16 n) (keeps_none (Wide (first % 8))) (keeps_made (twos_complement n) (keeps_number Cut n))))

below_keeps : (limit first : ℕ) → Keeps (below_at limit first)
unfolding below_at
below_keeps limit first = keeps_then (whole_keeps first) (λ z. keeps_step (natural limit (first % 8) z) (λ n. keeps_giving n))

integer_keeps : (first : ℕ) → Keeps (integer_at first)
unfolding integer_at
integer_keeps first =
    keeps_if (ltb first 248) (keeps_made plains.I (short_keeps first))
    (keeps_then length_keeps (λ n. keeps_if (ltb 16 n) (keeps_made plains.Wide (keeps_bytes Cut n)) (keeps_made (λ x. plains.I (twos_complement n x)) (keeps_number Cut n))))

u_keeps : Keeps u_at
unfolding u_at
u_keeps = keeps_then (keeps_byte Cut) (λ first. keeps_if (eqb (first % 8) 0) (below_keeps (2 ^ 64) first) (keeps_none Inner))

reg_keeps : Keeps reg_at
unfolding reg_at
reg_keeps =
    keeps_then (keeps_byte Cut) (λ first.
    keeps_if (eqb (first % 8) 3) (keeps_made regs.X (below_keeps (2 ^ 32) first))
    (keeps_if (eqb (first % 8) 4) (keeps_made regs.Y (below_keeps (2 ^ 32) first)) (keeps_none Inner)))

extended_keeps : (z : ℕ) → Keeps (extended_by z)
unfolding extended_by
extended_keeps z =
    keeps_if (eqb z 1) (keeps_giving heads.List)
    (keeps_if (eqb z 2) (keeps_made (λ n. heads.Plain (plains.Fr n)) u_keeps)
    (keeps_if (eqb z 3) (keeps_giving heads.Alloc)
    (keeps_if (eqb z 4) (keeps_made (λ n. heads.Plain (plains.Lit n)) u_keeps)
    (keeps_if (eqb z 5) (keeps_then reg_keeps (λ r. keeps_made (λ n. heads.Plain (plains.Typed r n)) u_keeps))
    (keeps_none (Extended z))))))

tagged_keeps : (tag first : ℕ) → Keeps (tagged tag first)
unfolding tagged
tagged_keeps tag first =
    keeps_if (eqb tag 0) (keeps_made (λ n. heads.Plain (plains.U n)) (below_keeps (2 ^ 64) first))
    (keeps_if (eqb tag 1) (keeps_made heads.Plain (integer_keeps first))
    (keeps_if (eqb tag 2) (keeps_made (λ n. heads.Plain (plains.A n)) (below_keeps (2 ^ 32) first))
    (keeps_if (eqb tag 3) (keeps_made (λ n. heads.Plain (plains.X n)) (below_keeps (2 ^ 32) first))
    (keeps_if (eqb tag 4) (keeps_made (λ n. heads.Plain (plains.Y n)) (below_keeps (2 ^ 32) first))
    (keeps_if (eqb tag 5) (keeps_made (λ n. heads.Plain (plains.F n)) (below_keeps (2 ^ 32) first))
    (keeps_if (eqb tag 6) (keeps_made (λ n. heads.Plain (plains.H n)) (below_keeps (2 ^ 32) first))
    (keeps_then (below_keeps (2 ^ 64) first) extended_keeps)))))))

head_keeps : Keeps head_at
unfolding head_at
head_keeps = keeps_then (keeps_byte Cut) (λ first. tagged_keeps (first % 8) first)

member_of_keeps : (head : Head) → Keeps (member_of head)
member_of_keeps (heads.Plain p) = keeps_giving p
member_of_keeps heads.List = keeps_none Nested
member_of_keeps heads.Alloc = keeps_none Nested

member_keeps : Keeps member_at
unfolding member_at
member_keeps = keeps_then head_keeps member_of_keeps

pair_keeps : Keeps pair_at
unfolding pair_at
pair_keeps = keeps_then u_keeps (λ kind. keeps_made (λ amount. (kind, amount)) u_keeps)

operand_of_keeps : (head : Head) → Keeps (operand_of head)
operand_of_keeps (heads.Plain p) = keeps_giving (operands.One p)
operand_of_keeps heads.List = keeps_then u_keeps (λ n. keeps_made operands.List (keeps_many member_keeps n))
operand_of_keeps heads.Alloc = keeps_then u_keeps (λ n. keeps_made operands.Alloc (keeps_many pair_keeps n))

pub operand_keeps : Keeps operand_at
unfolding operand_at
operand_keeps = keeps_then head_keeps operand_of_keeps
