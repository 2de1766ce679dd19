-- A line that is read adds itself to the lines of what was read before it.
use Rattle.std.proofs.Common.{◌≡◌, ℕ, ◌%◌, ◌<◌, ◌≤◌, ◌==◌, ◌&&◌, List, [], ◌∷◌, ◌++◌, length, map, Option, Some, None, Result, Ok, Err, refl, sym, ap, subst, ◌∙◌, inl, inr, arith, ltb-true, leb-true, eqb-true}
use Rattle.std.specs.Prelude.{codes, nat_lt, nat_le}
use Rattle.std.proofs.lemmas.Bool.{and_parts}
use Rattle.std.proofs.lemmas.List.{map-append}
use Rattle.std.proofs.lemmas.List.Elements.{All-push}
use Rattle.std.proofs.lemmas.Option.{cond_some, option_and_then_some}
use Rattle.bk_codec.specs.Reading.{refused_as}
use Rattle.bk_codec.proofs.Steps.{bind_ok, chosen, ok_is, refused_as_ok}
use Rattle.bk_parse.specs.HexBytes.{bytes_of}
use Rattle.iff_form.specs.declared.id.Id.{Id}
use Rattle.iff_form.specs.Text.{id_text}
use Rattle.code_chunk.specs.declared.code.CodeVal.{CodeVal}
use Rattle.beam_module.specs.File.{FileChunk, code_id}
use Rattle.beam_module.specs.declared.chunk_value.ChunkVal.TheVariants.{Code, Raw}
use Rattle.listing_out.specs.Lines.{chunk_lines, code_line, instruction_line, lines, payload_lines}
use Rattle.listing_out.specs.Listable.{ChunkIsListed, CodeIsListed, InstrIsListed, IsListable}
use Rattle.listing_in.specs.declared.refusal.ListingWhy.TheVariants as whys
use Rattle.listing_in.specs.declared.stop.LineStop.{LineStop}
use Rattle.listing_in.specs.declared.stop.LineStop.TheVariants as stops
use Rattle.listing_in.specs.Instruction.{instruction_of}
use Rattle.listing_in.specs.State.{State, Start, Begun, Filling, Coding, lines_of, value_of}
use Rattle.listing_in.specs.Step.{coded, filled, row_of, row_with, within}
use Rattle.listing_in.proofs.FileLines.{MayFollow, front_listable, last_follows, line_added, push_listable}
use Rattle.listing_in.proofs.LineTexts.{LineTexts}
use Rattle.listing_in.proofs.PayloadRows.{IsBytes-append, row_added}

-- what was read is nothing, or a file that can be read back
abbrev pub IsRead : Option (List FileChunk) → Type 0
IsRead None = Unit
IsRead (Some v) = IsListable v

-- what was read has this line more
abbrev pub Adds : State → List (List ℕ) → List ℕ → Type 0
Adds t before line = IsRead (value_of t) × (lines_of (value_of t) ≡ before ++ line ∷ [])

abbrev pub answer : State → Result State LineStop
answer t = Ok t

pub not_answer : (e : LineStop) (t : State) → Err e ≡ answer t → ⊥
not_answer e t h = cc

-- ---- behind two spaces

-- the chunk d stands in place of the last
in_place : (closed : List FileChunk) (c d : FileChunk) (line : List ℕ) → IsListable (closed ++ c ∷ []) → MayFollow closed d → chunk_lines d ≡ chunk_lines c ++ line ∷ []
    → IsListable (closed ++ d ∷ []) × (lines (closed ++ d ∷ []) ≡ lines (closed ++ c ∷ []) ++ line ∷ [])
in_place closed c d line is follows more = (push_listable closed d (front_listable closed (c ∷ []) is) follows, line_added closed c d line more)

-- a row has 1 to 32 bytes
row_found : (text row : List ℕ) → row_of text ≡ Some row → (bytes_of text ≡ Some row) × (0 < length row) × (length row ≤ 32)
row_found text row e = option_and_then_some row_with (bytes_of text) row e (λ bytes read kept.
    let passed = cond_some (nat_lt 0 (length bytes) && nat_le (length bytes) 32) bytes row kept in
    let both = and_parts (nat_lt 0 (length bytes)) (nat_le (length bytes) 32) passed.0 in
    let some : 0 < length bytes = ltb-true 0 (length bytes) both.0 in
    let few : length bytes ≤ 32 = leb-true (length bytes) 32 both.1 in
    let size = ap length passed.1 in
    (read ∙ ap (λ (r : List ℕ). Some r) passed.1, omega arith, omega arith))

filled_found : (closed : List FileChunk) (id : Id) (payload : List ℕ) (o : Option (List ℕ)) (t : State) → filled closed id payload o ≡ answer t
    → (row : List ℕ) × (o ≡ Some row) × (Filling closed id (payload ++ row) ≡ t)
filled_found closed id payload None t e = absurd cc
filled_found closed id payload (Some row) t e = (row, refl, ok_is {E = LineStop} (Filling closed id (payload ++ row)) t e)

module _ (texts : LineTexts) where
  fills : (closed : List FileChunk) (id : Id) (payload text : List ℕ) (t : State) → IsListable (closed ++ (id, Raw payload) ∷ []) → within (Filling closed id payload) text ≡ answer t
      → Adds t (lines (closed ++ (id, Raw payload) ∷ [])) (codes "  " ++ text)
  fills closed id payload text t is e =
      let tested : (length payload % 32 ≡ 0) × (filled closed id payload (row_of text) ≡ answer t) =
      elim (chosen (length payload % 32 == 0) (filled closed id payload (row_of text)) (Err (stops.Wrong whys.Short)) (answer t) e) [
        | inl h ↦ (eqb-true (length payload % 32) 0 h.0, h.1)
        | inr h ↦ absurd (not_answer (stops.Wrong whys.Short) t h.1)
      ] in
      let more = filled_found closed id payload (row_of text) t tested.1 in
      let row = row_found text more.0 more.1 in
      let bytes = texts.hex.found text more.0 row.0 in
      let last = last_follows closed (id, Raw payload) is in
      let listed : ChunkIsListed (id, Raw (payload ++ more.0)) = record { id = last.listed.id; id_bytes = last.listed.id_bytes; value = IsBytes-append payload more.0 last.listed.value bytes.0 } in
      let follows : MayFollow closed (id, Raw (payload ++ more.0)) = record { new = last.new; kind = last.kind; listed = listed } in
      let grown : chunk_lines (id, Raw (payload ++ more.0)) ≡ chunk_lines (id, Raw payload) ++ (codes "  " ++ text) ∷ [] =
      ap (λ (ls : List (List ℕ)). (codes "chunk " ++ id_text id) ∷ ls)
      (row_added texts.rows payload more.0 tested.0 row.1 row.2 ∙ ap (λ (digits : List ℕ). payload_lines payload ++ (codes "  " ++ digits) ∷ []) bytes.1) in
      subst (λ (s : State). Adds s (lines (closed ++ (id, Raw payload) ∷ [])) (codes "  " ++ text)) more.2
      (in_place closed (id, Raw payload) (id, Raw (payload ++ more.0)) (codes "  " ++ text) is follows grown)

  codes_on : (closed : List FileChunk) (c : CodeVal) (text : List ℕ) (t : State) → IsListable (closed ++ (code_id, Code c) ∷ []) → within (Coding closed c) text ≡ answer t
      → Adds t (lines (closed ++ (code_id, Code c) ∷ [])) (codes "  " ++ text)
  codes_on closed c text t is e =
      let read = bind_ok (refused_as stops.Wrong (instruction_of text)) (λ i. answer (Coding closed (coded c i))) t e in
      let i = texts.instruction_found text read.0 (refused_as_ok stops.Wrong (instruction_of text) read.0 read.1) in
      let last = last_follows closed (code_id, Code c) is in
      let before : CodeIsListed c = last.listed.value in
      let code : CodeIsListed (coded c read.0) = record {
        extra = before.extra;
        max_op = before.max_op;
        labels = before.labels;
        functions = before.functions;
        instrs = All-push InstrIsListed c.instrs read.0 before.instrs i.0;
      } in
      let listed : ChunkIsListed (code_id, Code (coded c read.0)) = record { id = last.listed.id; id_bytes = last.listed.id_bytes; value = code } in
      let follows : MayFollow closed (code_id, Code (coded c read.0)) = record { new = last.new; kind = last.kind; listed = listed } in
      let grown : chunk_lines (code_id, Code (coded c read.0)) ≡ chunk_lines (code_id, Code c) ++ (codes "  " ++ text) ∷ [] =
      ap (λ (ls : List (List ℕ)). code_line c ∷ ls) (map-append instruction_line c.instrs (read.0 ∷ []) ∙ ap (λ (line : List ℕ). map instruction_line c.instrs ++ line ∷ []) (sym i.1)) in
      subst (λ (s : State). Adds s (lines (closed ++ (code_id, Code c) ∷ [])) (codes "  " ++ text)) (ok_is {E = LineStop} (Coding closed (coded c read.0)) t read.2)
      (in_place closed (code_id, Code c) (code_id, Code (coded c read.0)) (codes "  " ++ text) is follows grown)

  pub within_adds : (s : State) (text : List ℕ) (t : State) → IsRead (value_of s) → within s text ≡ answer t → Adds t (lines_of (value_of s)) (codes "  " ++ text)
  within_adds Start text t is e = absurd (not_answer (stops.Wrong whys.Keyword) t e)
  within_adds Begun text t is e = absurd (not_answer (stops.Wrong whys.Keyword) t e)
  within_adds (Filling closed id payload) text t is e = fills closed id payload text t is e
  within_adds (Coding closed c) text t is e = codes_on closed c text t is e
