-- An instruction at the front of bytes, and the walk over all of them as one of values up to the end.
use Rattle.std.proofs.Common.{◌≡◌, ℕ, zero, suc, ◌+◌, ◌<◌, List, [], ◌∷◌, length, drop, get_or, Result, Ok, Err, refl, sym, ap, ◌∙◌, arith}
use Rattle.std.specs.Prelude.{Some, IsNone, ◌↔◌}
use Rattle.bk_base.specs.Place.{Place, moved, end_of}
use Rattle.bk_codec.specs.Reading.{◌>>=◌, all_at, whole_of}
use Rattle.bk_codec.proofs.Steps.{bind_same}
use Rattle.op_table.specs.Table.{arity_of}
use Rattle.op_table.specs.Instruction.{Instruction}
use Rattle.code_chunk.specs.declared.refusal.CodeRefusal.{CodeRefusal}
use Rattle.code_chunk.specs.declared.refusal.CodeRefusal.TheVariants as refusals
use Rattle.code_chunk.specs.Reading.{instr_with, instrs_at}

-- an instruction in a payload of this size; what it says of no bytes doesn't matter, since the walk ends there
unfoldable pub instr_at : ℕ → List ℕ → Result (Instruction × List ℕ) CodeRefusal
instr_at size [] = Err refusals.Header
instr_at size (op ∷ bytes) = instr_with size op (arity_of op) bytes

pub front_is : (size op : ℕ) (bytes : List ℕ) → instr_at size (op ∷ bytes) ≡ instr_with size op (arity_of op) bytes
unfolding instr_at
front_is size op bytes = refl

walk_is : (size n : ℕ) (bytes : List ℕ) → instrs_at size n bytes ≡ all_at (instr_at size) n bytes
unfolding instr_at instrs_at
walk_is size n [] = refl
walk_is size zero (op ∷ bytes) = refl
walk_is size (suc n) (op ∷ bytes) =
    bind_same (instr_with size op (arity_of op) bytes) (λ i. instrs_at size n i.1 >>= λ others. Ok (i.0 ∷ others)) (λ i. all_at (instr_at size) n i.1 >>= λ others. Ok (i.0 ∷ others))
    (λ i read. ap (λ (r : Result (List Instruction) CodeRefusal). r >>= λ others. Ok (i.0 ∷ others)) (walk_is size n i.1))

pub whole_is : (size : ℕ) (bytes : List ℕ) → instrs_at size (length bytes) bytes ≡ whole_of (instr_at size) bytes
whole_is size bytes = walk_is size (length bytes) bytes

-- a byte that was read stands in front of those that are left
first_byte : (bytes : List ℕ) (b : ℕ) → (IsNone (Some b) ↔ (length bytes < 1)) → b ≡ get_or bytes 0 0 → bytes ≡ b ∷ drop 1 bytes
first_byte [] b none is = let some = none.1 (omega arith) in absurd cc
first_byte (c ∷ bytes) b none is = ap (λ (x : ℕ). x ∷ bytes) (sym is)

-- what a read of a byte says of the bytes before it
pub record Behind (old new : Place) (b : ℕ) : Type 0 where
  pub front : old.rest ≡ b ∷ new.rest
  pub end : end_of new ≡ end_of old
  pub later : 0 < new.offset

pub byte_read : (old new : Place) (b : ℕ) → (IsNone (Some b) ↔ (length old.rest < 1)) → b ≡ get_or old.rest 0 0 → new ≡ moved 1 old → Behind old new b
byte_read old new b none is moves =
    let front : old.rest ≡ b ∷ new.rest = first_byte old.rest b none is ∙ ap (λ (p : Place). b ∷ p.rest) (sym moves) in
    let offset : new.offset ≡ old.offset + 1 = ap (λ (p : Place). p.offset) moves in
    let lengths : length old.rest ≡ suc (length new.rest) = ap length front in
    record { front = front; end = omega arith; later = omega arith }
