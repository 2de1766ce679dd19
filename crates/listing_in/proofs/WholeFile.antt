-- The lines of each file are read, to that file.
use Rattle.std.proofs.Common.{◌≡◌, ℕ, List, [], ◌∷◌, ◌++◌, map, All, Option, Some, None, Result, Ok, refl, sym, ap, subst, ◌∙◌, append_assoc, append-nil}
use Rattle.std.specs.Prelude.{codes}
use Rattle.std.specs.List.{flat_map}
use Rattle.std.proofs.lemmas.List.Elements.{All-head, All-tail}
use Rattle.bk_codec.specs.Reading.{◌>>=◌, refused_as}
use Rattle.bk_codec.proofs.Steps.{bind_at_ok}
use Rattle.iff_form.specs.declared.id.Id.{Id}
use Rattle.iff_form.specs.Text.{id_text}
use Rattle.op_table.specs.Instruction.{Instruction}
use Rattle.code_chunk.specs.declared.code.CodeVal.{CodeVal}
use Rattle.beam_module.specs.File.{FileChunk, IsNew}
use Rattle.beam_module.specs.declared.chunk_value.ChunkVal.TheVariants.{Code, Raw}
use Rattle.listing_out.specs.Lines.{chunk_lines, code_line, instruction_line, payload_lines}
use Rattle.listing_out.specs.Listable.{InstrIsListed, IsListable}
use Rattle.listing_in.specs.declared.stop.LineStop.TheVariants as stops
use Rattle.listing_in.specs.Header.{begun_with}
use Rattle.listing_in.specs.State.{State, Start, Begun, Filling, Coding, lines_of, value_of}
use Rattle.listing_in.specs.Step.{coded, next_line}
use Rattle.listing_in.proofs.FileLines.{MayFollow, front_listable, last_follows}
use Rattle.listing_in.proofs.Growth.{Grows, through, through_more}
use Rattle.listing_in.proofs.KeywordLines.{code_opened, payload_opened}
use Rattle.listing_in.proofs.LineStep.{IsRead, answer}
use Rattle.listing_in.proofs.LineTexts.{LineTexts}
use Rattle.listing_in.proofs.NextLine.{line_adds, unindented}
use Rattle.listing_in.proofs.PayloadRows.{payload_read}

-- lines are read from a state on, to this file
pub record ReadsTo (s : State) (ls : List (List ℕ)) (v : List FileChunk) : Type 0 where
  pub state : State
  pub read : through next_line s ls ≡ Ok state
  pub value : value_of state ≡ Some v

-- code with these instructions more
abbrev coded_all : CodeVal → List Instruction → CodeVal
coded_all c is = record { extra = c.extra; max_op = c.max_op; labels = c.labels; functions = c.functions; instrs = c.instrs ++ is }

more_coded : (c : CodeVal) (i : Instruction) (is : List Instruction) → coded_all (coded c i) is ≡ coded_all c (i ∷ is)
more_coded c i is = ap (λ (all : List Instruction). record { extra = c.extra; max_op = c.max_op; labels = c.labels; functions = c.functions; instrs = all }) (append_assoc c.instrs (i ∷ []) is)

module _ (texts : LineTexts) where
  instruction_read : (closed : List FileChunk) (c : CodeVal) (i : Instruction) → InstrIsListed i → next_line (Coding closed c) (instruction_line i) ≡ answer (Coding closed (coded c i))
  instruction_read closed c i is = ap (λ (r : Result Instruction _). refused_as stops.Wrong r >>= λ j. answer (Coding closed (coded c j))) (texts.instruction_only i is)

  instructions_read : (closed : List FileChunk) (c : CodeVal) (is : List Instruction) → All InstrIsListed is
      → through next_line (Coding closed c) (map instruction_line is) ≡ answer (Coding closed (coded_all c is))
  instructions_read closed c [] all = ap (λ (is : List Instruction). answer (Coding closed (record { extra = c.extra; max_op = c.max_op; labels = c.labels; functions = c.functions; instrs = is }))) (sym (append-nil c.instrs))
  instructions_read closed c (i ∷ is) all =
      bind_at_ok (next_line (Coding closed c) (instruction_line i)) (λ s. through next_line s (map instruction_line is)) (Coding closed (coded c i)) (instruction_read closed c i (All-head InstrIsListed i is all))
      ∙ instructions_read closed (coded c i) is (All-tail InstrIsListed i is all)
      ∙ ap (λ (d : CodeVal). answer (Coding closed d)) (more_coded c i is)

  chunk_read : (s : State) (closed : List FileChunk) (c : FileChunk) → value_of s ≡ Some closed → MayFollow closed c → ReadsTo s (chunk_lines c) (closed ++ c ∷ [])
  chunk_read s closed (id, Raw payload) value follows =
      let first : next_line s (codes "chunk " ++ id_text id) ≡ answer (Filling closed id []) =
      unindented s closed (codes "chunk " ++ id_text id) value refl ∙ payload_opened texts closed id (follows.listed.id, follows.listed.id_bytes) follows.new follows.kind in
      record {
        state = Filling closed id payload;
        read =
            bind_at_ok (next_line s (codes "chunk " ++ id_text id)) (λ t. through next_line t (payload_lines payload)) (Filling closed id []) first
            ∙ payload_read texts.rows texts.hex closed id payload follows.listed.value;
        value = refl;
      }
  chunk_read s closed (id, Code c) value follows =
      let begun : CodeVal = begun_with c.max_op c.labels c.functions c.extra in
      let new = subst (λ (i : Id). IsNew i closed) follows.kind follows.new in
      let first : next_line s (code_line c) ≡ answer (Coding closed begun) = unindented s closed (code_line c) value refl ∙ code_opened texts closed c follows.listed.value new in
      record {
        state = Coding closed c;
        read =
            bind_at_ok (next_line s (code_line c)) (λ t. through next_line t (map instruction_line c.instrs)) (Coding closed begun) first
            ∙ instructions_read closed begun c.instrs follows.listed.value.instrs;
        value = ap (λ (i : Id). Some (closed ++ (i, Code c) ∷ [])) (sym follows.kind);
      }

  chunks_read : (s : State) (closed cs : List FileChunk) → value_of s ≡ Some closed → IsListable (closed ++ cs) → ReadsTo s (flat_map chunk_lines cs) (closed ++ cs)
  chunks_read s closed [] value is = record { state = s; read = refl; value = value ∙ ap (λ (v : List FileChunk). Some v) (sym (append-nil closed)) }
  chunks_read s closed (c ∷ cs) value is =
      let all : IsListable ((closed ++ c ∷ []) ++ cs) = subst IsListable (sym (append_assoc closed (c ∷ []) cs)) is in
      let first = chunk_read s closed c value (last_follows closed c (front_listable (closed ++ c ∷ []) cs all)) in
      let others = chunks_read first.state (closed ++ c ∷ []) cs first.value all in
      record {
        state = others.state;
        read = through_more next_line (chunk_lines c) (flat_map chunk_lines cs) s first.state first.read ∙ others.read;
        value = others.value ∙ ap (λ (v : List FileChunk). Some v) (append_assoc closed (c ∷ []) cs);
      }

  whole_read : (v : Option (List FileChunk)) → IsRead v → (s : State) × (through next_line Start (lines_of v) ≡ Ok s) × (value_of s ≡ v)
  whole_read None is = (Start, refl, refl)
  whole_read (Some v) is = let all = chunks_read Begun [] v refl is in (all.state, all.read, all.value)

  pub listings_grow : Grows lines_of IsRead value_of Start next_line
  listings_grow = record { begins = tt; blank = refl; step = line_adds texts; whole = whole_read }
