-- The lines of a file that can be read back are clean.
use Rattle.std.proofs.Common.{◌≡◌, ◌⊎◌, ℕ, zero, suc, ◌<◌, ◌≤◌, true, List, [], ◌∷◌, ◌++◌, Option, Some, None, length, take, drop, All, refl, sym, ap, subst, ◌∙◌, inl, inr, arith}
use Rattle.std.proofs.lemmas.Bool.{cond_both}
use Rattle.std.proofs.lemmas.List.{append-nil, length-drop, length-take, take-append-drop}
use Rattle.std.proofs.lemmas.List.Elements.{All-head, All-tail}
use Rattle.std.specs.Prelude.{codes, decimal, option_map}
use Rattle.std.specs.Char.{is_ascii_alphanumeric}
use Rattle.std.specs.List.{flat_map, list_all}
use Rattle.hex.specs.Hex.{encode_lower}
use Rattle.bk_codec.specs.Spelling.{IsBytes}
use Rattle.bk_codec.proofs.Agreement.{IsBytes-drop, IsBytes-front}
use Rattle.bk_parse.proofs.Passing.{passes_append, passes_weaker}
use Rattle.compact_term.specs.declared.operand.Operand.{Operand}
use Rattle.iff_form.specs.declared.id.Id.{Id}
use Rattle.iff_form.specs.Text.{id_text, is_plain_id}
use Rattle.op_table.specs.Instruction.{Instruction}
use Rattle.op_table.specs.Table.{Row, is_name_byte, row_name, row_with}
use Rattle.operand_text.specs.Listed.{IsListed}
use Rattle.operand_text.specs.Operand.{operand_text}
use Rattle.operand_text.specs.Words.{is_word_byte}
use Rattle.code_chunk.specs.declared.code.CodeVal.{CodeVal}
use Rattle.listing_out.specs.Lines.{code_line, extra_text, instruction_line, payload_lines}
use Rattle.listing_out.specs.Listable.{InstrIsListed}
use Rattle.listing_out.specs.Listing.{has_text}
use Rattle.listing_out.proofs.Clean.{IsClean, alphanumeric_word, clean_behind, decimal_word, has_text_ended, hex_some, hex_word, is_inline, is_line_byte, name_byte_word, no_newline, word_clean, word_line}
use Rattle.listing_out.proofs.Raw.{IsReadAs, bare_clean, line_read, none_read}
use Rattle.listing_out.proofs.Rows.{lines-first}

some_text : (text : List ℕ) → 0 < length text → has_text text ≡ true
some_text [] some = absurd (omega (arith, some))
some_text (b ∷ text) some = refl

-- a clean line, and what may be nothing
clean_before : (front back : List ℕ) → IsClean front → (back ≡ []) ⊎ IsClean back → IsClean (front ++ back)
clean_before front back clean (inl none) = subst IsClean (sym (append-nil front) ∙ ap (λ (t : List ℕ). front ++ t) (sym none)) clean
clean_before front back clean (inr behind) = clean_behind front back clean.bytes behind

-- a clean line is read as itself
pub clean_read : (line : List ℕ) (raws ls : List (List ℕ)) → IsClean line → IsReadAs raws ls → IsReadAs (line ∷ raws) (line ∷ ls)
clean_read line raws ls clean others =
    line_read line line raws ls (bare_clean line clean) (has_text_ended line clean.ended) (passes_weaker is_line_byte is_inline (no_newline is_line_byte refl) line clean.bytes) others

-- ---- ids and payloads

pub id_clean : (id : Id) → length id.0 ≡ 4 → IsBytes id.0 → IsClean (id_text id)
id_clean id four fits =
    cond_both (is_plain_id id) id.0 (codes "#" ++ encode_lower id.0) IsClean
    (λ plain. word_clean id.0 (some_text id.0 (omega (arith, four))) (passes_weaker is_ascii_alphanumeric is_word_byte alphanumeric_word id.0 plain))
    (λ other. clean_behind (codes "#") (encode_lower id.0) refl (digits_clean id.0 four fits))
  where
    digits_clean : (bytes : List ℕ) → length bytes ≡ 4 → IsBytes bytes → IsClean (encode_lower bytes)
    digits_clean [] four fits = absurd (omega (arith, four))
    digits_clean (b ∷ bytes) four fits = word_clean (encode_lower (b ∷ bytes)) (hex_some b bytes) (hex_word (b ∷ bytes) fits)

payload_read_within : (n : ℕ) (payload : List ℕ) → length payload ≤ n → IsBytes payload → IsReadAs (payload_lines payload) (payload_lines payload)
payload_read_within n [] within fits = none_read
payload_read_within zero (b ∷ payload) within fits = absurd (omega (arith, within))
payload_read_within (suc n) (b ∷ payload) within fits =
    let all = b ∷ payload in
    let row = take 32 all in
    let rest = drop 32 all in
    let parts : all ≡ row ++ rest = sym (take-append-drop 32 all) in
    let lines = lines-first all row rest parts (length-take 32 all) (omega arith) in
    let digits = word_clean (encode_lower row) (hex_some b (take 31 payload)) (hex_word row (IsBytes-front row rest (subst IsBytes parts fits))) in
    let others = payload_read_within n rest (omega (arith, within, length-drop 32 all)) (IsBytes-drop 32 all fits) in
    subst (λ (ls : List (List ℕ)). IsReadAs ls ls) (sym lines)
    (clean_read (codes "  " ++ encode_lower row) (payload_lines rest) (payload_lines rest) (clean_behind (codes "  ") (encode_lower row) refl digits) others)

pub payload_read : (payload : List ℕ) → IsBytes payload → IsReadAs (payload_lines payload) (payload_lines payload)
payload_read payload fits = payload_read_within (length payload) payload (omega arith) fits

-- ---- code

extra_clean : (extra : List ℕ) → IsBytes extra → IsClean (extra_text extra)
extra_clean [] fits = record { bytes = refl; ended = refl }
extra_clean (b ∷ extra) fits = word_clean (encode_lower (b ∷ extra)) (hex_some b extra) (hex_word (b ∷ extra) fits)

decimal_line : (n : ℕ) → list_all is_line_byte (decimal n) ≡ true
decimal_line n = passes_weaker is_word_byte is_line_byte word_line (decimal n) (decimal_word n)

-- a number and a space behind what stands before
number_line : (front : List ℕ) (n : ℕ) → list_all is_line_byte front ≡ true → list_all is_line_byte (front ++ decimal n ++ codes " ") ≡ true
number_line front n h = passes_append is_line_byte (front ++ decimal n) (codes " ") (passes_append is_line_byte front (decimal n) h (decimal_line n)) refl

pub code_clean : (c : CodeVal) → IsBytes c.extra → IsClean (code_line c)
code_clean c fits =
    let first = codes "code " ++ decimal c.max_op ++ codes " " in
    let second = first ++ decimal c.labels ++ codes " " in
    let third = second ++ decimal c.functions ++ codes " " in
    clean_behind third (extra_text c.extra) (number_line second c.functions (number_line first c.labels (number_line (codes "code ") c.max_op refl))) (extra_clean c.extra fits)

-- a name of the table is a word
abbrev IsWord : Row → Type 0
IsWord r = (0 < length r.name) × (list_all is_name_byte r.name ≡ true)

abbrev pub NamesAreWords : Type 0
NamesAreWords = (op : ℕ) (r : Row) → row_with op ≡ Some r → IsWord r

name_clean : (o : Option Row) (n : ℕ) → ((r : Row) → o ≡ Some r → IsWord r) → option_map (λ r. r.arity) o ≡ Some n → IsClean (row_name o)
name_clean None n words arity = absurd cc
name_clean (Some r) n words arity =
    let word = words r refl in
    word_clean r.name (some_text r.name word.0) (passes_weaker is_name_byte is_word_byte name_byte_word r.name word.1)

module _ (names_are_words : NamesAreWords)
    (operand_bytes : (o : Operand) → IsListed o → list_all is_word_byte (operand_text o) ≡ true) (operand_some : (o : Operand) → IsListed o → 0 < length (operand_text o)) where
  operands_clean : (os : List Operand) → All IsListed os → (flat_map (λ o. codes " " ++ operand_text o) os ≡ []) ⊎ IsClean (flat_map (λ o. codes " " ++ operand_text o) os)
  operands_clean [] are = inl refl
  operands_clean (o ∷ os) are =
      let listed = All-head IsListed o os are in
      let text = word_clean (operand_text o) (some_text (operand_text o) (operand_some o listed)) (operand_bytes o listed) in
      inr (clean_before (codes " " ++ operand_text o) (flat_map (λ o. codes " " ++ operand_text o) os) (clean_behind (codes " ") (operand_text o) refl text) (operands_clean os (All-tail IsListed o os are)))

  pub instruction_clean : (i : Instruction) → InstrIsListed i → IsClean (instruction_line i)
  instruction_clean i is =
      let name = name_clean (row_with i.op) (length i.operands) (names_are_words i.op) is.arity in
      clean_before (codes "  " ++ row_name (row_with i.op)) (flat_map (λ o. codes " " ++ operand_text o) i.operands) (clean_behind (codes "  ") (row_name (row_with i.op)) refl name) (operands_clean i.operands is.operands)
