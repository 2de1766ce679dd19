-- The row of an opcode is of that opcode, and the walk over instructions goes on behind each that is read.
use Rattle.std.proofs.Common.{◌≡◌, ℕ, suc, ◌-◌, inl, inr, ◌≤◌, ◌<◌, Bool, true, eqb, List, [], ◌∷◌, length, Option, Some, None, Ok, Err, sym, ap, ◌∙◌, arith}
use Rattle.std.specs.List.{find}
use Rattle.std.specs.Option.{option_map}
use Rattle.std.proofs.lemmas.Bool.{eqb-true}
use Rattle.bk_codec.proofs.Steps.{chosen}
use Rattle.bk_codec.proofs.ToTheEnd.{whole_of-step, whole_of-refused}
use Rattle.op_table.specs.Table.{Row, table, row_with, arity_of}
use Rattle.op_table.specs.Instruction.{Instruction}
use Rattle.code_chunk.specs.declared.refusal.CodeRefusal.{CodeRefusal}
use Rattle.code_chunk.specs.declared.refusal.CodeRefusal.TheVariants as refusals
use Rattle.code_chunk.specs.Reading.{before, instr_with, instrs_at}
use Rattle.code_chunk.proofs.Front.{instr_at, front_is, whole_is}
use Rattle.code_chunk.proofs.Shrinking.{instr_shrinks}

found_holds : (p : Row → Bool) (rows : List Row) (r : Row) → find p rows ≡ Some r → p r ≡ true
found_holds p [] r found = absurd cc
found_holds p (q ∷ rows) r found =
    elim (chosen (p q) (Some q) (find p rows) (Some r) found) [
      | inl here ↦ let same : q ≡ r = cc in sym (ap p same) ∙ here.0
      | inr later ↦ found_holds p rows r later.1
    ]

pub row_op : (op : ℕ) (r : Row) → row_with op ≡ Some r → r.op ≡ op
row_op op r found = eqb-true r.op op (found_holds (λ q. eqb q.op op) table r found)

-- ---- the walk

pub read_next : (size op : ℕ) (bytes rest : List ℕ) (i : Instruction) → instr_with size op (arity_of op) bytes ≡ Ok (i, rest)
    → instrs_at size (length (op ∷ bytes)) (op ∷ bytes) ≡ before i (instrs_at size (length rest) rest)
read_next size op bytes rest i read =
    whole_is size (op ∷ bytes)
    ∙ whole_of-step (instr_at size) (instr_shrinks size) (op ∷ bytes) rest i (omega arith) (front_is size op bytes ∙ read)
    ∙ ap (before i) (sym (whole_is size rest))

pub refused_next : (size op : ℕ) (bytes : List ℕ) (e : CodeRefusal) → instr_with size op (arity_of op) bytes ≡ Err e
    → instrs_at size (length (op ∷ bytes)) (op ∷ bytes) ≡ Err e
refused_next size op bytes e refused =
    whole_is size (op ∷ bytes) ∙ whole_of-refused (instr_at size) (op ∷ bytes) e (omega arith) (front_is size op bytes ∙ refused)

pub shorter_next : (size op : ℕ) (bytes rest : List ℕ) (i : Instruction) → instr_with size op (arity_of op) bytes ≡ Ok (i, rest) → length rest ≤ length bytes
shorter_next size op bytes rest i read =
    let less : length rest < length (op ∷ bytes) = instr_shrinks size (op ∷ bytes) i rest (front_is size op bytes ∙ read) in omega arith

-- a byte that is no opcode, by its offset
pub no_opcode : (size op at : ℕ) (bytes : List ℕ) → row_with op ≡ None → at ≡ size - suc (length bytes) → instrs_at size (length (op ∷ bytes)) (op ∷ bytes) ≡ Err (refusals.Opcode at op)
no_opcode size op at bytes none is =
    refused_next size op bytes (refusals.Opcode at op)
    (ap (λ (r : Option Row). instr_with size op (option_map (λ row. row.arity) r) bytes) none ∙ ap (λ (n : ℕ). Err (refusals.Opcode n op)) (sym is))
