-- The canonical spelling of code is a spelling of it, and no other one is shorter.
use Rattle.std.proofs.Common.{◌≡◌, ℕ, ◌+◌, ◌^◌, ◌<◌, ◌≤◌, List, [], ◌∷◌, ◌++◌, length, refl, ap, ◌∙◌, arith, length-append, get_or, take}
use Rattle.std.specs.List.{flat_map}
use Rattle.std.proofs.lemmas.List.Folds.{length-flat_map-take}
use Rattle.byteorder.specs.Endian.{big_bytes}
use Rattle.bk_codec.specs.Spelling.{Then, SpellsMany, SpellsWord}
use Rattle.compact_term.specs.declared.operand.Operand.{Operand}
use Rattle.compact_term.specs.Operand.{MeetsType, IsProper}
use Rattle.compact_term.specs.Spelling.{Spells}
use Rattle.compact_term.specs.Canonical.{canonical}
use Rattle.compact_term.proofs.Chosen.{each_spelled}
use Rattle.compact_term.proofs.Shortest.{canonical_shortest, each_shortest}
use Rattle.op_table.specs.Instruction.{Instruction}
use Rattle.code_chunk.specs.declared.code.CodeVal.{CodeVal}
use Rattle.code_chunk.specs.Spelling.{SpellsInstr, SpellsCode}
use Rattle.code_chunk.specs.Code.{InstrMeetsType, CodeMeetsType, IsProperInstr, IsProperCode}
use Rattle.code_chunk.proofs.Codes.{word_length}
use Rattle.code_chunk.specs.Canonical.{canonical_instr, canonical_header, canonical_code}

-- ---- values one after another

then_length : {P Q : List ℕ → Type 0} {bytes : List ℕ} → (is : Then P Q bytes) → length bytes ≡ length is.front + length is.back
then_length is = ap length is.joined ∙ length-append is.front is.back

-- what one value and those before it take is no more than what all of them take
one_within : {A : Type 0} (f : A → List ℕ) (xs : List A) (i : ℕ) (x : A) → x ≡ get_or xs i x → i < length xs → length (flat_map f (take i xs)) + length (f x) ≤ length (flat_map f xs)
one_within f xs i x is here =
    let part = length-flat_map-take f xs i x here in
    let one = ap (λ y. length (f y)) is in
    omega arith

pub operands_within : (operands : List Operand) (i : ℕ) (o : Operand) → o ≡ get_or operands i o → i < length operands
    → length (flat_map canonical (take i operands)) + length (canonical o) ≤ length (flat_map canonical operands)
operands_within = one_within canonical

-- the same of the instructions of code, whose sub-header stands before them
pub instrs_within : (c : CodeVal) (instrs : List Instruction) (n : ℕ) (i : Instruction) → instrs ≡ c.instrs → i ≡ get_or instrs n i → n < length instrs
    → 20 + length c.extra + length (flat_map canonical_instr (take n instrs)) + length (canonical_instr i) ≤ length (canonical_code c)
instrs_within c instrs n i same is here =
    let within = rw same at (one_within canonical_instr instrs n i is here) in
    let whole = length-append c.extra (flat_map canonical_instr c.instrs) in
    rw same (omega arith)

-- ---- code, where this is known of operands

word_first : (n : ℕ) (Q : List ℕ → Type 0) (back : List ℕ) → n < 2 ^ 32 → Q back → Then (SpellsWord n) Q (big_bytes 4 n ++ back)
word_first n Q back below is = record { front = big_bytes 4 n; back = back; front_is = record { fits = below; is = refl }; back_is = is; joined = refl }

module _ (operand_spelled : (o : Operand) → MeetsType o → IsProper o → length (canonical o) < 2 ^ 63 → Spells o (canonical o)) where
  pub instr_spelled : (i : Instruction) → InstrMeetsType i → IsProperInstr i → length (canonical_instr i) < 2 ^ 63 → SpellsInstr i (canonical_instr i)
  instr_spelled i meets proper fits =
      let operands = each_spelled Spells canonical (λ o. MeetsType o × IsProper o) (λ o is. operand_spelled o is.0 is.1) i.operands (λ k d lt. (meets.operands k d lt, proper k d lt)) (omega arith) in
      (meets.arity, record { front = i.op ∷ []; back = flat_map canonical i.operands; front_is = refl; back_is = operands; joined = refl })

  pub code_spelled : (c : CodeVal) → CodeMeetsType c → IsProperCode c → length (canonical_code c) < 2 ^ 32 → SpellsCode c (canonical_code c)
  code_spelled c meets proper fits =
      let size = length-append (canonical_header c) (flat_map canonical_instr c.instrs) in
      let instrs = each_spelled SpellsInstr canonical_instr (λ i. InstrMeetsType i × IsProperInstr i) (λ i is. instr_spelled i is.0 is.1) c.instrs (λ k d lt. (meets.instrs k d lt, proper.instrs k d lt)) (omega arith) in
      let extra : Then (λ extra. extra ≡ c.extra) (SpellsMany SpellsInstr c.instrs) (c.extra ++ flat_map canonical_instr c.instrs) =
      record { front = c.extra; back = flat_map canonical_instr c.instrs; front_is = refl; back_is = instrs; joined = refl } in
      word_first _ _ _ proper.size (word_first 0 _ _ (omega arith) (word_first _ _ _ meets.max_op (word_first _ _ _ meets.labels (word_first _ _ _ meets.functions extra))))

-- ---- no spelling is shorter

module _ (operand_shortest : (o : Operand) (bytes : List ℕ) → Spells o bytes → length (canonical o) ≤ length bytes) where
  instr_shortest : (i : Instruction) (text : List ℕ) → SpellsInstr i text → length (canonical_instr i) ≤ length text
  instr_shortest i text is =
      let operands = each_shortest Spells canonical operand_shortest i.operands is.1.back is.1.back_is in
      omega (arith, ap length is.1.front_is, then_length is.1)

  pub code_shortest : (c : CodeVal) (payload : List ℕ) → SpellsCode c payload → length (canonical_code c) ≤ length payload
  code_shortest c payload is =
      let format = is.back_is in
      let max_op = format.back_is in
      let labels = max_op.back_is in
      let functions = labels.back_is in
      let extra = functions.back_is in
      let instrs = each_shortest SpellsInstr canonical_instr instr_shortest c.instrs extra.back extra.back_is in
      omega (
        arith,
        length-append c.extra (flat_map canonical_instr c.instrs),
        then_length is,
        then_length format,
        then_length max_op,
        then_length labels,
        then_length functions,
        then_length extra,
        word_length _ _ is.front_is,
        word_length _ _ format.front_is,
        word_length _ _ max_op.front_is,
        word_length _ _ labels.front_is,
        word_length _ _ functions.front_is,
        ap length extra.front_is,
      )

pub code_is_shortest : (c : CodeVal) (payload : List ℕ) → SpellsCode c payload → length (canonical_code c) ≤ length payload
code_is_shortest = code_shortest canonical_shortest

-- ---- how many instructions there are

-- each instruction takes at least a byte
instrs_fit : (instrs : List Instruction) (bytes : List ℕ) → SpellsMany SpellsInstr instrs bytes → length instrs ≤ length bytes
instrs_fit [] bytes is = omega arith
instrs_fit (i ∷ instrs) bytes is =
    let first : SpellsInstr i is.front = is.front_is in
    omega (arith, then_length is, then_length first.1, ap length first.1.front_is, instrs_fit instrs is.back is.back_is)

pub code_fits : (c : CodeVal) (payload : List ℕ) → SpellsCode c payload → length c.instrs < length payload
code_fits c payload is =
    let format = is.back_is in
    let max_op = format.back_is in
    let labels = max_op.back_is in
    let functions = labels.back_is in
    let extra = functions.back_is in
    omega (
      arith,
      then_length is,
      then_length format,
      then_length max_op,
      then_length labels,
      then_length functions,
      then_length extra,
      word_length _ _ is.front_is,
      instrs_fit c.instrs extra.back extra.back_is,
    )
