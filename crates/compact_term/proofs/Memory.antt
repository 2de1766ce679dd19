-- Reading on lists never wants memory.
use Rattle.std.proofs.Common.{◌≡◌, ℕ, ◌+◌, ◌/◌, ◌%◌, ◌*◌, ◌^◌, eqb, ltb, ℤ, pos, negsuc, Err, inl, inr}
use Rattle.std.proofs.lemmas.Bool.{cases_lt, lt-ltb, le-ltb}
use Rattle.byteorder.specs.Endian.{twos_complement}
use Rattle.bk_codec.proofs.Never.{Never, never_none, never_giving, never_byte, never_bytes, never_number, never_if, never_made, never_then, never_step, never_many}
use Rattle.compact_term.specs.declared.refusal.OperandRefusal.TheVariants.{Cut, Inner, Wide, Extended, Nested, NoMemory}
use Rattle.compact_term.specs.declared.operand.Reg.TheVariants as regs
use Rattle.compact_term.specs.declared.operand.Plain.TheVariants as plains
use Rattle.compact_term.specs.declared.operand.Operand.TheVariants as operands
use Rattle.compact_term.specs.declared.reader.Head.{Head}
use Rattle.compact_term.specs.declared.reader.Head.TheVariants as heads
use Rattle.compact_term.specs.Reading.{short_at, natural, length_at, whole_at, below_at, integer_at, u_at, reg_at, extended_by, tagged, head_at, member_of, member_at, pair_at, operand_of, operand_at}

short_never : (first : ℕ) → Never NoMemory (short_at first)
unfolding short_at
short_never first =
    never_if NoMemory (eqb (first / 8 % 2) 0) (never_giving NoMemory (pos (first / 16)))
    (never_if NoMemory (eqb (first / 16 % 2) 0) (never_made NoMemory (λ low. pos (256 * (first / 32) + low)) (never_byte NoMemory Cut (λ h. cc)))
    (never_made NoMemory (twos_complement (first / 32 + 2)) (never_number NoMemory Cut (first / 32 + 2) (λ h. cc))))

natural_never : (limit tag : ℕ) (z : ℤ) → natural limit tag z ≡ Err NoMemory → ⊥
natural_never limit tag (pos n) h =
    elim (cases_lt n limit) [
      | inl lt ↦ let read = rw (lt-ltb _ _ lt) at h in cc
      | inr le ↦ let refused = rw (le-ltb _ _ le) at h in cc
    ]
natural_never limit tag (negsuc n) h = cc

length_never : Never NoMemory length_at
unfolding length_at
length_never =
    never_then NoMemory (never_byte NoMemory Cut (λ h. cc)) (λ first. never_if NoMemory (eqb (first % 8) 0)
    (never_if NoMemory (ltb first 248)
    (never_then NoMemory (short_never first) (λ z. never_step NoMemory (natural (2 ^ 64) 0 z) (natural_never (2 ^ 64) 0 z) (λ more. never_giving NoMemory (more + 9))))
    (never_none NoMemory (Wide 0) (λ h. cc)))
    (never_none NoMemory Inner (λ h. cc)))

whole_never : (first : ℕ) → Never NoMemory (whole_at first)
unfolding whole_at
whole_never first =
    never_if NoMemory (ltb first 248) (short_never first)
    (never_then NoMemory length_never (λ n. never_if NoMemory (ltb 16 n) (never_none NoMemory (Wide (first % 8)) (λ h. cc))
    (never_made NoMemory (twos_complement n) (never_number NoMemory Cut n (λ h. cc)))))

below_never : (limit first : ℕ) → Never NoMemory (below_at limit first)
unfolding below_at
below_never limit first =
    never_then NoMemory (whole_never first) (λ z. never_step NoMemory (natural limit (first % 8) z) (natural_never limit (first % 8) z) (λ n. never_giving NoMemory n))

integer_never : (first : ℕ) → Never NoMemory (integer_at first)
unfolding integer_at
integer_never first =
    never_if NoMemory (ltb first 248) (never_made NoMemory plains.I (short_never first))
    (never_then NoMemory length_never (λ n. never_if NoMemory (ltb 16 n) (never_made NoMemory plains.Wide (never_bytes NoMemory Cut n (λ h. cc)))
    (never_made NoMemory (λ x. plains.I (twos_complement n x)) (never_number NoMemory Cut n (λ h. cc)))))

u_never : Never NoMemory u_at
unfolding u_at
u_never = never_then NoMemory (never_byte NoMemory Cut (λ h. cc)) (λ first. never_if NoMemory (eqb (first % 8) 0) (below_never (2 ^ 64) first) (never_none NoMemory Inner (λ h. cc)))

reg_never : Never NoMemory reg_at
unfolding reg_at
reg_never =
    never_then NoMemory (never_byte NoMemory Cut (λ h. cc)) (λ first.
    never_if NoMemory (eqb (first % 8) 3) (never_made NoMemory regs.X (below_never (2 ^ 32) first))
    (never_if NoMemory (eqb (first % 8) 4) (never_made NoMemory regs.Y (below_never (2 ^ 32) first)) (never_none NoMemory Inner (λ h. cc))))

extended_never : (z : ℕ) → Never NoMemory (extended_by z)
unfolding extended_by
extended_never z =
    never_if NoMemory (eqb z 1) (never_giving NoMemory heads.List)
    (never_if NoMemory (eqb z 2) (never_made NoMemory (λ n. heads.Plain (plains.Fr n)) u_never)
    (never_if NoMemory (eqb z 3) (never_giving NoMemory heads.Alloc)
    (never_if NoMemory (eqb z 4) (never_made NoMemory (λ n. heads.Plain (plains.Lit n)) u_never)
    (never_if NoMemory (eqb z 5) (never_then NoMemory reg_never (λ r. never_made NoMemory (λ n. heads.Plain (plains.Typed r n)) u_never))
    (never_none NoMemory (Extended z) (λ h. cc))))))

tagged_never : (tag first : ℕ) → Never NoMemory (tagged tag first)
unfolding tagged
tagged_never tag first =
    never_if NoMemory (eqb tag 0) (never_made NoMemory (λ n. heads.Plain (plains.U n)) (below_never (2 ^ 64) first))
    (never_if NoMemory (eqb tag 1) (never_made NoMemory heads.Plain (integer_never first))
    (never_if NoMemory (eqb tag 2) (never_made NoMemory (λ n. heads.Plain (plains.A n)) (below_never (2 ^ 32) first))
    (never_if NoMemory (eqb tag 3) (never_made NoMemory (λ n. heads.Plain (plains.X n)) (below_never (2 ^ 32) first))
    (never_if NoMemory (eqb tag 4) (never_made NoMemory (λ n. heads.Plain (plains.Y n)) (below_never (2 ^ 32) first))
    (never_if NoMemory (eqb tag 5) (never_made NoMemory (λ n. heads.Plain (plains.F n)) (below_never (2 ^ 32) first))
    (never_if NoMemory (eqb tag 6) (never_made NoMemory (λ n. heads.Plain (plains.H n)) (below_never (2 ^ 32) first))
    (never_then NoMemory (below_never (2 ^ 64) first) extended_never)))))))

head_never : Never NoMemory head_at
unfolding head_at
head_never = never_then NoMemory (never_byte NoMemory Cut (λ h. cc)) (λ first. tagged_never (first % 8) first)

member_of_never : (head : Head) → Never NoMemory (member_of head)
member_of_never (heads.Plain p) = never_giving NoMemory p
member_of_never heads.List = never_none NoMemory Nested (λ h. cc)
member_of_never heads.Alloc = never_none NoMemory Nested (λ h. cc)

member_never : Never NoMemory member_at
unfolding member_at
member_never = never_then NoMemory head_never member_of_never

pair_never : Never NoMemory pair_at
unfolding pair_at
pair_never = never_then NoMemory u_never (λ kind. never_made NoMemory (λ amount. (kind, amount)) u_never)

operand_of_never : (head : Head) → Never NoMemory (operand_of head)
operand_of_never (heads.Plain p) = never_giving NoMemory (operands.One p)
operand_of_never heads.List = never_then NoMemory u_never (λ n. never_made NoMemory operands.List (never_many NoMemory member_never n))
operand_of_never heads.Alloc = never_then NoMemory u_never (λ n. never_made NoMemory operands.Alloc (never_many NoMemory pair_never n))

pub operand_never : Never NoMemory operand_at
unfolding operand_at
operand_never = never_then NoMemory head_never operand_of_never
