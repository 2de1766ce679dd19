-- More bytes behind do not change what is read of an operand.
use Rattle.std.proofs.Common.{◌≡◌, ◌≢◌, ◌⊎◌, ℕ, ◌+◌, ◌/◌, ◌%◌, ◌*◌, ◌^◌, eqb, ltb, pos, List, [], Ok, refl, sym, ap, ◌∙◌, inl, inr}
use Rattle.std.proofs.lemmas.List.{append-nil}
use Rattle.byteorder.specs.Endian.{twos_complement}
use Rattle.bk_codec.specs.Exact.{RefusalsStand, FrontsAreCut}
use Rattle.bk_codec.proofs.Steady.{Steady, steady_none, steady_giving, steady_byte, steady_bytes, steady_number, steady_if, steady_made, steady_then, steady_step, steady_many, fronts_are_cut}
use Rattle.compact_term.specs.declared.refusal.OperandRefusal.{OperandRefusal}
use Rattle.compact_term.specs.declared.refusal.OperandRefusal.TheVariants.{Cut, Inner, Wide, Negative, Extended, Nested, NoMemory}
use Rattle.compact_term.specs.declared.operand.Reg.TheVariants as regs
use Rattle.compact_term.specs.declared.operand.Plain.TheVariants as plains
use Rattle.compact_term.specs.declared.operand.Operand.{Operand}
use Rattle.compact_term.specs.declared.operand.Operand.TheVariants as operands
use Rattle.compact_term.specs.declared.reader.Head.{Head}
use Rattle.compact_term.specs.declared.reader.Head.TheVariants as heads
use Rattle.compact_term.specs.Spelling.{Spells}
use Rattle.compact_term.specs.Reading.{short_at, natural, length_at, whole_at, below_at, integer_at, u_at, reg_at, extended_by, tagged, head_at, member_of, member_at, pair_at, operand_of, operand_at}
use Rattle.compact_term.proofs.Operands.{operand_agrees}

module _ (more : List ℕ) where
  short_steady : (first : ℕ) → Steady Cut more (short_at first) (short_at first)
  unfolding short_at
  short_steady first =
      steady_if Cut more (eqb (first / 8 % 2) 0) (steady_giving Cut more (pos (first / 16)))
      (steady_if Cut more (eqb (first / 16 % 2) 0) (steady_made Cut more (λ low. pos (256 * (first / 32) + low)) (steady_byte Cut more))
      (steady_made Cut more (twos_complement (first / 32 + 2)) (steady_number Cut more (first / 32 + 2))))

  length_steady : Steady Cut more length_at length_at
  unfolding length_at
  length_steady =
      steady_then Cut more (steady_byte Cut more) (λ first. steady_if Cut more (eqb (first % 8) 0)
      (steady_if Cut more (ltb first 248)
      (steady_then Cut more (short_steady first) (λ z. steady_step Cut more (natural (2 ^ 64) 0 z) (λ n. steady_giving Cut more (n + 9))))
      (steady_none Cut more (Wide 0)))
      (steady_none Cut more Inner))

  whole_steady : (first : ℕ) → Steady Cut more (whole_at first) (whole_at first)
  unfolding whole_at
  whole_steady first =
      steady_if Cut more (ltb first 248) (short_steady first)
      (steady_then Cut more length_steady (λ n. steady_if Cut more (ltb 16 n) (steady_none Cut more (Wide (first % 8))) (steady_made Cut more (twos_complement n) (steady_number Cut more n))))

  below_steady : (limit first : ℕ) → Steady Cut more (below_at limit first) (below_at limit first)
  unfolding below_at
  below_steady limit first = steady_then Cut more (whole_steady first) (λ z. steady_step Cut more (natural limit (first % 8) z) (λ n. steady_giving Cut more n))

  integer_steady : (first : ℕ) → Steady Cut more (integer_at first) (integer_at first)
  unfolding integer_at
  integer_steady first =
      steady_if Cut more (ltb first 248) (steady_made Cut more plains.I (short_steady first))
      (steady_then Cut more length_steady (λ n. steady_if Cut more (ltb 16 n) (steady_made Cut more plains.Wide (steady_bytes Cut more n))
      (steady_made Cut more (λ x. plains.I (twos_complement n x)) (steady_number Cut more n))))

  u_steady : Steady Cut more u_at u_at
  unfolding u_at
  u_steady = steady_then Cut more (steady_byte Cut more) (λ first. steady_if Cut more (eqb (first % 8) 0) (below_steady (2 ^ 64) first) (steady_none Cut more Inner))

  reg_steady : Steady Cut more reg_at reg_at
  unfolding reg_at
  reg_steady =
      steady_then Cut more (steady_byte Cut more) (λ first.
      steady_if Cut more (eqb (first % 8) 3) (steady_made Cut more regs.X (below_steady (2 ^ 32) first))
      (steady_if Cut more (eqb (first % 8) 4) (steady_made Cut more regs.Y (below_steady (2 ^ 32) first)) (steady_none Cut more Inner)))

  extended_steady : (z : ℕ) → Steady Cut more (extended_by z) (extended_by z)
  unfolding extended_by
  extended_steady z =
      steady_if Cut more (eqb z 1) (steady_giving Cut more heads.List)
      (steady_if Cut more (eqb z 2) (steady_made Cut more (λ n. heads.Plain (plains.Fr n)) u_steady)
      (steady_if Cut more (eqb z 3) (steady_giving Cut more heads.Alloc)
      (steady_if Cut more (eqb z 4) (steady_made Cut more (λ n. heads.Plain (plains.Lit n)) u_steady)
      (steady_if Cut more (eqb z 5) (steady_then Cut more reg_steady (λ r. steady_made Cut more (λ n. heads.Plain (plains.Typed r n)) u_steady))
      (steady_none Cut more (Extended z))))))

  tagged_steady : (tag first : ℕ) → Steady Cut more (tagged tag first) (tagged tag first)
  unfolding tagged
  tagged_steady tag first =
      steady_if Cut more (eqb tag 0) (steady_made Cut more (λ n. heads.Plain (plains.U n)) (below_steady (2 ^ 64) first))
      (steady_if Cut more (eqb tag 1) (steady_made Cut more heads.Plain (integer_steady first))
      (steady_if Cut more (eqb tag 2) (steady_made Cut more (λ n. heads.Plain (plains.A n)) (below_steady (2 ^ 32) first))
      (steady_if Cut more (eqb tag 3) (steady_made Cut more (λ n. heads.Plain (plains.X n)) (below_steady (2 ^ 32) first))
      (steady_if Cut more (eqb tag 4) (steady_made Cut more (λ n. heads.Plain (plains.Y n)) (below_steady (2 ^ 32) first))
      (steady_if Cut more (eqb tag 5) (steady_made Cut more (λ n. heads.Plain (plains.F n)) (below_steady (2 ^ 32) first))
      (steady_if Cut more (eqb tag 6) (steady_made Cut more (λ n. heads.Plain (plains.H n)) (below_steady (2 ^ 32) first))
      (steady_then Cut more (below_steady (2 ^ 64) first) extended_steady)))))))

  head_steady : Steady Cut more head_at head_at
  unfolding head_at
  head_steady = steady_then Cut more (steady_byte Cut more) (λ first. tagged_steady (first % 8) first)

  member_of_steady : (head : Head) → Steady Cut more (member_of head) (member_of head)
  member_of_steady (heads.Plain p) = steady_giving Cut more p
  member_of_steady heads.List = steady_none Cut more Nested
  member_of_steady heads.Alloc = steady_none Cut more Nested

  member_steady : Steady Cut more member_at member_at
  unfolding member_at
  member_steady = steady_then Cut more head_steady member_of_steady

  pair_steady : Steady Cut more pair_at pair_at
  unfolding pair_at
  pair_steady = steady_then Cut more u_steady (λ kind. steady_made Cut more (λ amount. (kind, amount)) u_steady)

  operand_of_steady : (head : Head) → Steady Cut more (operand_of head) (operand_of head)
  operand_of_steady (heads.Plain p) = steady_giving Cut more (operands.One p)
  operand_of_steady heads.List = steady_then Cut more u_steady (λ n. steady_made Cut more operands.List (steady_many Cut more member_steady n))
  operand_of_steady heads.Alloc = steady_then Cut more u_steady (λ n. steady_made Cut more operands.Alloc (steady_many Cut more pair_steady n))

  pub operand_steady : Steady Cut more operand_at operand_at
  unfolding operand_at
  operand_steady = steady_then Cut more head_steady operand_of_steady

-- ---- what follows

pub operand_refusals_stand : RefusalsStand Cut operand_at
operand_refusals_stand bytes more e refused other = (operand_steady more).stands bytes e refused other

cut_or_other : (e : OperandRefusal) → (e ≡ Cut) ⊎ (e ≢ Cut)
cut_or_other Cut = inl refl
cut_or_other Inner = inr (λ same. cc)
cut_or_other (Wide tag) = inr (λ same. cc)
cut_or_other (Negative tag) = inr (λ same. cc)
cut_or_other (Extended value) = inr (λ same. cc)
cut_or_other Nested = inr (λ same. cc)
cut_or_other NoMemory = inr (λ same. cc)

-- what is spelled is read with nothing behind it
operand_whole : (o : Operand) (text : List ℕ) → Spells o text → operand_at text ≡ Ok (o, [])
operand_whole o text is = ap operand_at (sym (append-nil text)) ∙ operand_agrees.again o text [] is

pub operand_fronts_are_cut : FrontsAreCut Cut operand_at Spells
operand_fronts_are_cut = fronts_are_cut Cut operand_at Spells cut_or_other operand_steady operand_whole
