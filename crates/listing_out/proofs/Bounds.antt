-- How long the canonical form of a file is beside a listing of it.
use Rattle.std.proofs.Common.{◌≡◌, ℕ, zero, suc, ◌+◌, ◌*◌, ◌^◌, ◌<◌, ◌≤◌, min, eqb, List, [], ◌∷◌, ◌++◌, length, length-append, take, drop, map, codes, refl, sym, ap, ◌∙◌, arith, inl, inr}
use Rattle.std.proofs.lemmas.Bool.{cases_Bool}
use Rattle.std.proofs.lemmas.Grind.{flat_map-append}
use Rattle.std.proofs.lemmas.List.{length-take, take-append-drop}
use Rattle.std.proofs.lemmas.List.Elements.{All-weaker}
use Rattle.std.proofs.lemmas.List.Sums.{sum_by-cons}
use Rattle.std.specs.Prelude.{sum_by, decimal}
use Rattle.std.specs.List.{AllByRecursion, flat_map, onto_first}
use Rattle.hex.specs.Hex.{encode_lower, lower_digits}
use Rattle.hex.proofs.HexLemmas.{length-encode_with}
use Rattle.bk_parse.specs.Parts.{parts_at}
use Rattle.iff_form.specs.Chunk.{chunk_size}
use Rattle.iff_form.specs.Form.{form_size}
use Rattle.iff_form.specs.Text.{id_text}
use Rattle.compact_term.specs.declared.operand.Operand.{Operand}
use Rattle.compact_term.specs.declared.operand.Operand.TheVariants as operands
use Rattle.compact_term.specs.Canonical.{canonical}
use Rattle.compact_term.specs.Operand.{IsProper, PlainIsProper}
use Rattle.op_table.specs.Instruction.{Instruction}
use Rattle.op_table.specs.Table.{row_name, row_with}
use Rattle.operand_text.specs.Listed.{IsListed, PlainIsListed}
use Rattle.operand_text.specs.Operand.{operand_text}
use Rattle.code_chunk.specs.Canonical.{canonical_header, canonical_instr}
use Rattle.code_chunk.specs.Code.{IsProperInstr}
use Rattle.code_chunk.specs.declared.code.CodeVal.{CodeVal}
use Rattle.beam_module.specs.Canonical.{HasProperOperands, IsWritable, canonical_chunk_of, canonical_chunks}
use Rattle.beam_module.specs.File.{FileChunk}
use Rattle.beam_module.specs.declared.chunk_value.ChunkVal.TheVariants.{Code, Raw}
use Rattle.listing_out.specs.Lines.{chunk_lines, code_line, extra_text, instruction_line, lines, payload_lines, text_of}
use Rattle.listing_out.specs.Listable.{ChunkIsListed, InstrIsListed, IsListable}
use Rattle.listing_out.specs.Listing.{IsListing, bare, before_line, has_text, kept, raw_lines, trimmed, uncommented}
use Rattle.listing_out.proofs.Rows.{lines-first}

-- ---- the lines that are kept are no longer than the text

size_cons : (line : List ℕ) (ls : List (List ℕ)) → length (text_of (line ∷ ls)) ≡ suc (length line) + length (text_of ls)
size_cons line ls = omega (arith, length-append (line ++ codes "\n") (text_of ls), length-append line (codes "\n"))

size_append : (a b : List (List ℕ)) → length (text_of (a ++ b)) ≡ length (text_of a) + length (text_of b)
size_append a b = ap length (flat_map-append (λ (line : List ℕ). line ++ codes "\n") a b) ∙ length-append (text_of a) (text_of b)

size_onto : (x : ℕ) (ls : List (List ℕ)) → 0 < length (text_of ls) → length (text_of (onto_first x ls)) ≡ suc (length (text_of ls))
size_onto x [] some = absurd (omega arith)
size_onto x (line ∷ ls) some = omega (arith, size_cons line ls, size_cons (x ∷ line) ls)

size_parts : (text : List ℕ) → length (text_of (parts_at 10 text)) ≡ suc (length text)
size_parts [] = refl
size_parts (b ∷ text) =
    let others = size_parts text in
    elim (cases_Bool (eqb b 10)) [
      | inl newline ↦ rw newline (omega (arith, size_cons [] (parts_at 10 text)))
      | inr other ↦ rw other (omega (arith, size_onto b (parts_at 10 text) (omega arith)))
    ]

size_uncommented : (line : List ℕ) → length (uncommented line) ≤ length line
size_uncommented [] = omega arith
size_uncommented (b ∷ line) =
    elim (cases_Bool (eqb b 59)) [
      | inl comment ↦ rw comment (omega arith)
      | inr other ↦ let others = size_uncommented line in rw other (omega arith)
    ]

size_before : (b : ℕ) (line : List ℕ) → length (before_line b line) ≤ suc (length line)
size_before b [] =
    elim (cases_Bool (eqb b 32)) [
      | inl space ↦ rw space (omega arith)
      | inr other ↦ rw other (omega arith)
    ]
size_before b (c ∷ line) = omega arith

size_trimmed : (line : List ℕ) → length (trimmed line) ≤ length line
size_trimmed [] = omega arith
size_trimmed (b ∷ line) = let one = size_before b (trimmed line) in let others = size_trimmed line in omega arith

size_bare : (line : List ℕ) → length (bare line) ≤ length line
size_bare line = let one = size_uncommented line in let two = size_trimmed (uncommented line) in omega arith

size_kept : (ls : List (List ℕ)) → length (text_of (kept ls)) ≤ length (text_of ls)
size_kept [] = omega arith
size_kept (line ∷ ls) =
    let others = size_kept ls in
    let one = size_bare line in
    let all = size_cons line ls in
    elim (cases_Bool (has_text (bare line))) [
      | inl some ↦ rw some (omega (arith, size_cons (bare line) (kept ls)))
      | inr none ↦ rw none (omega arith)
    ]

-- ---- payloads

payload_near : (k : ℕ) (payload : List ℕ) → length payload ≤ k → length payload ≤ length (text_of (payload_lines payload))
payload_near k [] few = omega arith
payload_near zero (b ∷ payload) few = absurd (omega arith)
payload_near (suc k) (b ∷ payload) few =
    let row = take 32 (b ∷ payload) in
    let rest = drop 32 (b ∷ payload) in
    let parts : b ∷ payload ≡ row ++ rest = sym (take-append-drop 32 (b ∷ payload)) in
    let size : length row ≡ min 32 (length (b ∷ payload)) = length-take 32 (b ∷ payload) in
    let whole : length (b ∷ payload) ≡ length row + length rest = ap length parts ∙ length-append row rest in
    let others = payload_near k rest (omega arith) in
    let first = ap (λ (ls : List (List ℕ)). length (text_of ls)) (lines-first (b ∷ payload) row rest parts size (omega arith)) in
    omega (arith, size_cons (codes "  " ++ encode_lower row) (payload_lines rest), length-encode_with lower_digits row)

-- ---- code

extra_near : (extra : List ℕ) → length extra ≤ length (extra_text extra)
extra_near [] = omega arith
extra_near (b ∷ bytes) = omega (arith, length-encode_with lower_digits (b ∷ bytes))

header_near : (c : CodeVal) → length (canonical_header c) + 11 ≤ 18 * suc (length (code_line c))
header_near c =
    let extra = extra_near c.extra in
    omega (arith, length-append (codes "code " ++ decimal c.max_op ++ codes " " ++ decimal c.labels ++ codes " " ++ decimal c.functions ++ codes " ") (extra_text c.extra))

module _ (near : (o : Operand) → length (canonical o) ≤ 18 * length (operand_text o)) where
  operands_near : (os : List Operand) → length (flat_map canonical os) ≤ 18 * length (flat_map (λ o. codes " " ++ operand_text o) os)
  operands_near [] = omega arith
  operands_near (o ∷ os) =
      let one = near o in
      let others = operands_near os in
      omega (arith, length-append (canonical o) (flat_map canonical os), length-append (codes " " ++ operand_text o) (flat_map (λ o. codes " " ++ operand_text o) os))

  instr_near : (i : Instruction) → length (canonical_instr i) ≤ 18 * length (instruction_line i)
  instr_near i =
      let os = operands_near i.operands in
      omega (arith, length-append (codes "  " ++ row_name (row_with i.op)) (flat_map (λ o. codes " " ++ operand_text o) i.operands))

  instrs_near : (is : List Instruction) → length (flat_map canonical_instr is) ≤ 18 * length (text_of (map instruction_line is))
  instrs_near [] = omega arith
  instrs_near (i ∷ is) =
      let one = instr_near i in
      let others = instrs_near is in
      omega (arith, length-append (canonical_instr i) (flat_map canonical_instr is), size_cons (instruction_line i) (map instruction_line is))

  -- ---- files

  chunk_near : (c : FileChunk) → chunk_size (canonical_chunk_of c) ≤ 18 * length (text_of (chunk_lines c))
  chunk_near (id, Code c) =
      let header = header_near c in
      let code = instrs_near c.instrs in
      omega (arith, size_cons (code_line c) (map instruction_line c.instrs), length-append (canonical_header c) (flat_map canonical_instr c.instrs))
  chunk_near (id, Raw payload) =
      let rows = payload_near (length payload) payload (omega arith) in
      omega (arith, size_cons (codes "chunk " ++ id_text id) (payload_lines payload))

  chunks_near : (v : List FileChunk) → sum_by chunk_size (canonical_chunks v) ≤ 18 * length (text_of (flat_map chunk_lines v))
  chunks_near [] = omega arith
  chunks_near (c ∷ v) =
      let one = chunk_near c in
      let others = chunks_near v in
      omega (arith, size_append (chunk_lines c) (flat_map chunk_lines v), sum_by-cons chunk_size (canonical_chunk_of c) (canonical_chunks v))

  pub file_near : (v : List FileChunk) (text : List ℕ) → IsListing v text → form_size (canonical_chunks v) ≤ 18 * (length text + 1)
  file_near v text listing =
      let chunks = chunks_near v in
      let shown : length (text_of (kept (raw_lines text))) ≡ length (text_of (lines v)) = ap (λ (ls : List (List ℕ)). length (text_of ls)) listing in
      let shorter = size_kept (raw_lines text) in
      omega (arith, size_parts text, size_cons (codes "beam 1") (flat_map chunk_lines v))

-- ---- operands are proper

operand_proper : (o : Operand) → IsListed o → IsProper o
operand_proper (operands.One p) is = is.1
operand_proper (operands.List ps) is = All-weaker PlainIsListed PlainIsProper (λ p listed. listed.1) ps is
operand_proper (operands.Alloc ps) is = tt

chunk_proper : (c : FileChunk) → ChunkIsListed c → HasProperOperands c.1
chunk_proper (id, Code c) is =
    All-weaker InstrIsListed IsProperInstr (λ i listed. All-weaker IsListed IsProper operand_proper i.operands listed.operands) c.instrs is.value.instrs
chunk_proper (id, Raw payload) is = tt

pub chunks_proper : (v : List FileChunk) → AllByRecursion ChunkIsListed v → AllByRecursion (λ c. HasProperOperands c.1) v
chunks_proper [] is = tt
chunks_proper (c ∷ v) is = (chunk_proper c is.0, chunks_proper v is.1)

pub file_writable : ((o : Operand) → length (canonical o) ≤ 18 * length (operand_text o)) → (v : List FileChunk) (text : List ℕ) → IsListable v → IsListing v text → length text ≤ 2 ^ 24 → IsWritable v
file_writable near v text listable listing short =
    let size = file_near near v text listing in
    record { operands = chunks_proper v listable.listed; size = omega arith }
