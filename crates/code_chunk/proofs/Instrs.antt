-- Instructions are read where they are spelled, and nowhere else.
use Rattle.std.proofs.Common.{◌≡◌, ℕ, ◌-◌, ◌<◌, Option, Some, None, List, [], ◌∷◌, ◌++◌, length, Ok, refl, sym, ap, subst, ◌∙◌, arith, All}
use Rattle.bk_codec.specs.Reading.{many_at}
use Rattle.bk_codec.specs.Spelling.{IsBytes, SpellsMany}
use Rattle.bk_codec.proofs.Steps.{made_ok}
use Rattle.bk_codec.proofs.Agreement.{Agrees, Takes, many_agree, IsBytes-back, IsBytes-tail}
use Rattle.bk_codec.proofs.ToTheEnd.{AgreesOnAll, all_agree}
use Rattle.compact_term.specs.Spelling.{Spells}
use Rattle.compact_term.specs.Operand.{MeetsType, IsProper}
use Rattle.compact_term.specs.Reading.{operand_at}
use Rattle.compact_term.proofs.Operands.{operand_agrees}
use Rattle.compact_term.proofs.Proper.{operand_meets_type, operand_proper, many_are}
use Rattle.op_table.specs.Table.{arity_of}
use Rattle.op_table.specs.Instruction.{Instruction}
use Rattle.code_chunk.specs.Spelling.{SpellsInstr}
use Rattle.code_chunk.specs.Code.{InstrMeetsType, IsProperInstr}
use Rattle.code_chunk.specs.Reading.{located, operand_in, instr_with}
use Rattle.code_chunk.proofs.Front.{instr_at}
use Rattle.code_chunk.proofs.Shrinking.{located_ok, instr_shrinks}

pub operand_in_agrees : (size : ℕ) → Agrees (operand_in size) Spells
operand_in_agrees size = record {
  takes = λ bytes o rest fits e. operand_agrees.takes bytes o rest fits (located_ok (size - length bytes) (operand_at bytes) (o, rest) e);
  again = λ o text rest is. ap (located (size - length (text ++ rest))) (operand_agrees.again o text rest is);
}

-- ---- one instruction

instr_with_takes : (size op : ℕ) (has : Option ℕ) (bytes : List ℕ) (i : Instruction) (rest : List ℕ) → arity_of op ≡ has → IsBytes bytes
    → instr_with size op has bytes ≡ Ok (i, rest) → Takes (SpellsInstr i) (op ∷ bytes) rest
instr_with_takes size op (Some arity) bytes i rest is fits e =
    let m = made_ok (λ operands. record { op = op; operands = operands }) (many_at (operand_in size) arity bytes) i rest e in
    let many = (many_agree (operand_in_agrees size)).takes arity bytes m.0 rest fits m.1 in
    subst (λ (j : Instruction). Takes (SpellsInstr j) (op ∷ bytes) rest) m.2
    (record {
      text = op ∷ many.1.text;
      is = (is ∙ ap (λ (n : ℕ). Some n) (sym many.0), record { front = op ∷ []; back = many.1.text; front_is = refl; back_is = many.1.is; joined = refl });
      joined = ap (λ (t : List ℕ). op ∷ t) many.1.joined;
      fits = many.1.fits;
    })
instr_with_takes size op None bytes i rest is fits e = absurd cc

instr_takes : (size : ℕ) (bytes : List ℕ) (i : Instruction) (rest : List ℕ) → IsBytes bytes → instr_at size bytes ≡ Ok (i, rest) → Takes (SpellsInstr i) bytes rest
unfolding instr_at
instr_takes size [] i rest fits e = absurd cc
instr_takes size (op ∷ bytes) i rest fits e = instr_with_takes size op (arity_of op) bytes i rest refl (IsBytes-tail op bytes fits) e

-- an instruction is its opcode and the rest
pub instr_joined : (i : Instruction) (text : List ℕ) → (is : SpellsInstr i text) → text ≡ i.op ∷ is.1.back
instr_joined i text is = is.1.joined ∙ ap (λ (t : List ℕ). t ++ is.1.back) is.1.front_is

instr_again : (size : ℕ) (i : Instruction) (text rest : List ℕ) → SpellsInstr i text → instr_at size (text ++ rest) ≡ Ok (i, rest)
unfolding instr_at
instr_again size i text rest is =
    let whole : text ++ rest ≡ i.op ∷ (is.1.back ++ rest) = ap (λ (t : List ℕ). t ++ rest) (instr_joined i text is) in
    let many : many_at (operand_in size) (length i.operands) (is.1.back ++ rest) ≡ Ok (i.operands, rest) = (many_agree (operand_in_agrees size)).again i.operands is.1.back rest is.1.back_is in
    rw (whole, is.0, many) refl

pub instr_agrees : (size : ℕ) → Agrees (instr_at size) SpellsInstr
instr_agrees size = record { takes = instr_takes size; again = instr_again size }

pub instr_some : (i : Instruction) (text : List ℕ) → SpellsInstr i text → 0 < length text
instr_some i text is = let lengths = ap length (instr_joined i text is) in omega arith

instr_back : (i : Instruction) (bytes : List ℕ) → IsBytes bytes → (is : SpellsInstr i bytes) → IsBytes is.1.back
instr_back i bytes fits is = IsBytes-back is.1.front is.1.back (subst IsBytes is.1.joined fits)

instr_meets_type : (i : Instruction) (bytes : List ℕ) → IsBytes bytes → SpellsInstr i bytes → InstrMeetsType i
instr_meets_type i bytes fits is = record { arity = is.0; operands = many_are Spells MeetsType operand_meets_type i.operands is.1.back (instr_back i bytes fits is) is.1.back_is }

instr_proper : (i : Instruction) (bytes : List ℕ) → IsBytes bytes → SpellsInstr i bytes → IsProperInstr i
instr_proper i bytes fits is = many_are Spells IsProper (λ o text _ spelt. operand_proper o text spelt) i.operands is.1.back (instr_back i bytes fits is) is.1.back_is

-- ---- all of them

pub instrs_agree : (size : ℕ) → AgreesOnAll (instr_at size) SpellsInstr
instrs_agree size = all_agree (instr_agrees size) (instr_shrinks size) instr_some

pub instrs_meet_type : (is : List Instruction) (bytes : List ℕ) → IsBytes bytes → SpellsMany SpellsInstr is bytes → All InstrMeetsType is
instrs_meet_type is bytes fits spelt = many_are SpellsInstr InstrMeetsType instr_meets_type is bytes fits spelt

pub instrs_proper : (is : List Instruction) (bytes : List ℕ) → IsBytes bytes → SpellsMany SpellsInstr is bytes → All IsProperInstr is
instrs_proper is bytes fits spelt = many_are SpellsInstr IsProperInstr instr_proper is bytes fits spelt
