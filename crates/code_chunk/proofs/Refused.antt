-- A payload is refused for what is wrong with it.
use Rattle.std.proofs.Common.{◌≡◌, ◌⊎◌, ℕ, zero, suc, ◌+◌, ◌-◌, ◌<◌, Option, List, [], ◌∷◌, ◌++◌, length, take, drop, Result, Ok, Err, refl, sym, ap, ◌∙◌, append_assoc, arith, inl, inr, length-append}
use Rattle.std.proofs.lemmas.List.{drop-drop, take-append-drop, length-drop}
use Rattle.byteorder.specs.Endian.{big_number}
use Rattle.bk_codec.specs.Reading.{◌>>=◌, many_at, whole_of}
use Rattle.bk_codec.specs.Spelling.{SpellsMany}
use Rattle.bk_codec.proofs.Steps.{bind_at_ok, bind_at_err}
use Rattle.bk_codec.proofs.Agreement.{Agrees}
use Rattle.bk_codec.proofs.ToTheEnd.{Shrinks, with_items, whole_of-step, whole_of-refused}
use Rattle.compact_term.specs.declared.refusal.OperandRefusal.{OperandRefusal}
use Rattle.compact_term.specs.Spelling.{Spells}
use Rattle.op_table.specs.Table.{arity_of}
use Rattle.op_table.specs.Instruction.{Instruction}
use Rattle.code_chunk.specs.declared.code.CodeVal.{CodeVal}
use Rattle.code_chunk.specs.declared.refusal.CodeRefusal.{CodeRefusal}
use Rattle.code_chunk.specs.declared.refusal.CodeRefusal.TheVariants as refusals
use Rattle.code_chunk.specs.Spelling.{SpellsInstr}
use Rattle.code_chunk.specs.Reading.{located, operand_in, instr_with, instrs_at, header_at, code_of, code_at}
use Rattle.code_chunk.specs.Stop.{IsStop, HasHeader, IsNoOpcode, IsNoOperand, instrs_from, IsWrong}
use Rattle.code_chunk.proofs.Front.{instr_at, front_is, whole_is}
use Rattle.code_chunk.proofs.Instrs.{operand_in_agrees, instr_agrees}
use Rattle.code_chunk.proofs.Shrinking.{instr_shrinks}
use Rattle.code_chunk.proofs.Wrong.{header_found, header_ok, header_only}

-- ---- values one after another, and then what is refused

module _ {E A : Type 0} (p : List ℕ → Result (A × List ℕ) E) (R : A → List ℕ → Type 0) (agrees : Agrees p R) where
  -- as many as a count says
  many_stopped : (n : ℕ) (xs : List A) (text rest : List ℕ) (e : E) → SpellsMany R xs text → length xs < n → p rest ≡ Err e → many_at p n (text ++ rest) ≡ Err e
  many_stopped zero xs text rest e are fewer refused = absurd (omega arith)
  many_stopped (suc n) [] text rest e are fewer refused = rw (are, refused) refl
  many_stopped (suc n) (x ∷ xs) text rest e are fewer refused =
      let whole : text ++ rest ≡ are.front ++ (are.back ++ rest) = ap (λ (t : List ℕ). t ++ rest) are.joined ∙ append_assoc are.front are.back rest in
      let first : p (are.front ++ (are.back ++ rest)) ≡ Ok (x, are.back ++ rest) = agrees.again x are.front (are.back ++ rest) are.front_is in
      let others : many_at p n (are.back ++ rest) ≡ Err e = many_stopped n xs are.back rest e are.back_is (omega arith) refused in
      rw (whole, first, others) refl

  -- up to the end
  whole_stopped : Shrinks p → (xs : List A) (text rest : List ℕ) (e : E) → SpellsMany R xs text → 0 < length rest → p rest ≡ Err e → whole_of p (text ++ rest) ≡ Err e
  whole_stopped shrinks [] text rest e are some refused = ap (λ (t : List ℕ). whole_of p (t ++ rest)) are ∙ whole_of-refused p rest e some refused
  whole_stopped shrinks (x ∷ xs) text rest e are some refused =
      let whole : text ++ rest ≡ are.front ++ (are.back ++ rest) = ap (λ (t : List ℕ). t ++ rest) are.joined ∙ append_assoc are.front are.back rest in
      let first : p (text ++ rest) ≡ Ok (x, are.back ++ rest) = ap p whole ∙ agrees.again x are.front (are.back ++ rest) are.front_is in
      whole_of-step p shrinks (text ++ rest) (are.back ++ rest) x (omega (arith, length-append text rest)) first
      ∙ ap (with_items (x ∷ [])) (whole_stopped shrinks xs are.back rest e are.back_is some refused)

-- ---- the sub-header

abbrev behind_header : List ℕ → List ℕ × List ℕ → Result CodeVal CodeRefusal
behind_header payload header = instrs_at (length payload) (length header.1) header.1 >>= λ instrs. Ok (code_of header.0 instrs)

either : {A : Type 0} (r : Result A CodeRefusal) → ((x : A) × (r ≡ Ok x)) ⊎ ((e : CodeRefusal) × (r ≡ Err e))
either (Ok x) = inl (x, refl)
either (Err e) = inr (e, refl)

no_header : (payload : List ℕ) → ¬ HasHeader payload → header_at payload ≡ Err refusals.Header
no_header payload none =
    elim (either (header_at payload)) [
      | inl h ↦ absurd (none (header_ok payload h.0.0 h.0.1 h.1).0)
      | inr e ↦ e.1 ∙ ap (λ (d : CodeRefusal). Err d) (header_only payload e.0 e.1)
    ]

-- ---- the instructions

-- where no instruction stands behind the longest front of instructions
stopped : (payload : List ℕ) (stop op : ℕ) (after : List ℕ) (e : CodeRefusal) → HasHeader payload → IsStop stop (drop (instrs_from payload) payload)
    → drop (instrs_from payload + stop) payload ≡ op ∷ after → instr_with (length payload) op (arity_of op) after ≡ Err e → code_at payload ≡ Err e
unfolding code_at
stopped payload stop op after e has is left refused =
    let size : ℕ = length payload in
    let bytes : List ℕ = drop (instrs_from payload) payload in
    let behind : drop stop bytes ≡ op ∷ after = drop-drop stop (instrs_from payload) payload ∙ left in
    let parts : bytes ≡ take stop bytes ++ (op ∷ after) = sym (take-append-drop stop bytes) ∙ ap (λ (t : List ℕ). take stop bytes ++ t) behind in
    let walk : instrs_at size (length bytes) bytes ≡ Err e =
    whole_is size bytes ∙ ap (whole_of (instr_at size)) parts
    ∙ whole_stopped (instr_at size) SpellsInstr (instr_agrees size) (instr_shrinks size) is.whole.0 (take stop bytes) (op ∷ after) e is.whole.1 (omega arith) (front_is size op after ∙ refused) in
    bind_at_ok (header_at payload) (behind_header payload) (take (big_number 4 payload) (drop 4 payload), bytes) (header_found payload has)
    ∙ bind_at_err (instrs_at size (length bytes) bytes) (λ (instrs : List Instruction). Ok (code_of (take (big_number 4 payload) (drop 4 payload)) instrs)) e walk

wrong_opcode : (payload : List ℕ) (at op : ℕ) → IsNoOpcode at op payload → code_at payload ≡ Err (refusals.Opcode at op)
wrong_opcode payload at op is =
    let left : drop (instrs_from payload + is.stop) payload ≡ op ∷ is.after = ap (λ (n : ℕ). drop n payload) (sym is.place) ∙ is.left in
    let place : length payload - suc (length is.after) ≡ at = omega (arith, is.place, ap length is.left, length-drop at payload) in
    stopped payload is.stop op is.after (refusals.Opcode at op) is.header is.is_stop left
    (ap (λ (has : Option ℕ). instr_with (length payload) op has is.after) is.none ∙ ap (λ (n : ℕ). Err (refusals.Opcode n op)) place)

wrong_operand : (payload : List ℕ) (at : ℕ) (why : OperandRefusal) → IsNoOperand at why payload → code_at payload ≡ Err (refusals.Operand at why)
wrong_operand payload at why is =
    let size : ℕ = length payload in
    let place : size - length is.after ≡ at =
    omega (arith, is.place, ap length is.left, length-drop (instrs_from payload + is.stop) payload, length-append is.text is.after) in
    let refused : operand_in size is.after ≡ Err (refusals.Operand at why) =
    ap (located (size - length is.after)) is.refused ∙ ap (λ (n : ℕ). Err (refusals.Operand n why)) place in
    let many : many_at (operand_in size) is.arity (is.text ++ is.after) ≡ Err (refusals.Operand at why) =
    many_stopped (operand_in size) Spells (operand_in_agrees size) is.arity is.operands is.text is.after (refusals.Operand at why) is.spelt is.fewer refused in
    stopped payload is.stop is.op (is.text ++ is.after) (refusals.Operand at why) is.header is.is_stop is.left
    (ap (λ (has : Option ℕ). instr_with size is.op has (is.text ++ is.after)) is.has
    ∙ bind_at_err (many_at (operand_in size) is.arity (is.text ++ is.after)) _ (refusals.Operand at why) many)

pub code_refused : (payload : List ℕ) (e : CodeRefusal) → IsWrong e payload → code_at payload ≡ Err e
unfolding code_at
code_refused payload refusals.Header is = bind_at_err (header_at payload) (behind_header payload) refusals.Header (no_header payload is)
code_refused payload (refusals.Opcode at op) is = wrong_opcode payload at op is
code_refused payload (refusals.Operand at why) is = wrong_operand payload at why is.0
code_refused payload refusals.NoMemory is = absurd is
