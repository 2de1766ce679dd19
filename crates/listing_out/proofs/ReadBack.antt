-- The listing of a file, with its comments, is a listing of it.
use Rattle.std.proofs.Common.{◌≡◌, ℕ, ◌<◌, true, false, List, [], ◌∷◌, ◌++◌, length, map, All, refl}
use Rattle.std.proofs.lemmas.List.Elements.{All-head, All-tail}
use Rattle.std.specs.Prelude.{codes}
use Rattle.std.specs.List.{flat_map, list_all}
use Rattle.bk_codec.specs.Spelling.{IsBytes}
use Rattle.bk_parse.proofs.Passing.{passes_append, passes_weaker}
use Rattle.compact_term.specs.declared.operand.Operand.{Operand}
use Rattle.iff_form.specs.declared.id.Id.{Id}
use Rattle.iff_form.specs.Text.{id_text}
use Rattle.op_table.specs.Instruction.{Instruction}
use Rattle.operand_text.specs.Listed.{IsListed}
use Rattle.operand_text.specs.Operand.{operand_text}
use Rattle.operand_text.specs.Words.{is_word_byte}
use Rattle.beam_module.specs.File.{FileChunk}
use Rattle.beam_module.specs.declared.chunk_value.ChunkVal.TheVariants.{Code, Raw}
use Rattle.listing_out.specs.declared.names.Names.{Names}
use Rattle.listing_out.specs.Comments.{commented_chunk, commented_instruction, commented_listing, instruction_items, items_text, names_in}
use Rattle.listing_out.specs.Lines.{chunk_lines, code_line, instruction_line, payload_lines}
use Rattle.listing_out.specs.Listable.{ChunkIsListed, InstrIsListed, IsListable}
use Rattle.listing_out.specs.Listing.{IsListing, trimmed, uncommented}
use Rattle.listing_out.proofs.Clean.{IsClean, clean_behind, has_text_ended, is_inline, is_line_byte, no_newline}
use Rattle.listing_out.proofs.CleanLines.{NamesAreWords, clean_read, code_clean, id_clean, instruction_clean, payload_read}
use Rattle.listing_out.proofs.Inline.{AreInline, comment_inline, items_inline, names_inline}
use Rattle.listing_out.proofs.Raw.{IsReadAs, all_read, bare_front, line_read, none_read, text_read}

-- nothing but spaces stands before a comment
comment_apart : (items : List (List ℕ)) → trimmed (uncommented (items_text false items)) ≡ []
comment_apart [] = refl
comment_apart (item ∷ items) = refl

chunk_read : (id : Id) (payload : List ℕ) → length id.0 ≡ 4 → IsBytes id.0 → IsBytes payload
    → IsReadAs ((codes "chunk " ++ id_text id) ∷ payload_lines payload) ((codes "chunk " ++ id_text id) ∷ payload_lines payload)
chunk_read id payload four id_fits fits =
    clean_read (codes "chunk " ++ id_text id) (payload_lines payload) (payload_lines payload) (clean_behind (codes "chunk ") (id_text id) refl (id_clean id four id_fits)) (payload_read payload fits)

module _ (names_are_words : NamesAreWords)
    (operand_bytes : (o : Operand) → IsListed o → list_all is_word_byte (operand_text o) ≡ true) (operand_some : (o : Operand) → IsListed o → 0 < length (operand_text o)) where
  module _ (names : Names) (are_inline : AreInline names) where
    commented_instructions : (is : List Instruction) → All InstrIsListed is → IsReadAs (map (commented_instruction names) is) (map instruction_line is)
    commented_instructions [] are = none_read
    commented_instructions (i ∷ is) are =
        let line = instruction_line i in
        let items = instruction_items names i in
        let clean = instruction_clean names_are_words operand_bytes operand_some i (All-head InstrIsListed i is are) in
        let inline = passes_weaker is_line_byte is_inline (no_newline is_line_byte refl) line clean.bytes in
        line_read (commented_instruction names i) line (map (commented_instruction names) is) (map instruction_line is) (bare_front line (items_text false items) clean (comment_apart items)) (has_text_ended line clean.ended)
        (passes_append is_inline line (items_text false items) inline (comment_inline false items (items_inline names are_inline i.op 0 i.operands))) (commented_instructions is (All-tail InstrIsListed i is are))

    chunk_with_comments : (c : FileChunk) → ChunkIsListed c → IsReadAs (commented_chunk names c) (chunk_lines c)
    chunk_with_comments (id, Code c) is =
        clean_read (code_line c) (map (commented_instruction names) c.instrs) (map instruction_line c.instrs) (code_clean c is.value.extra) (commented_instructions c.instrs is.value.instrs)
    chunk_with_comments (id, Raw payload) is = chunk_read id payload is.id is.id_bytes is.value

  pub commented_is_a_listing : (v : List FileChunk) → IsListable v → IsListing v (commented_listing v)
  commented_is_a_listing v is =
      let chunk = commented_chunk (names_in v) in
      let chunks = all_read chunk chunk_lines ChunkIsListed (chunk_with_comments (names_in v) (names_inline v)) v is.listed in
      let head : IsClean (codes "beam 1") = record { bytes = refl; ended = refl } in
      text_read (codes "beam 1" ∷ flat_map chunk v) (codes "beam 1" ∷ flat_map chunk_lines v) (clean_read (codes "beam 1") (flat_map chunk v) (flat_map chunk_lines v) head chunks)
