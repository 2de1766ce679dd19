-- A line with a keyword begins a chunk, and is the only line of that chunk.
use Rattle.std.proofs.Common.{◌≡◌, ℕ, zero, suc, Bool, false, cond, List, [], ◌∷◌, ◌++◌, map, Option, Some, None, Err, refl, sym, ap, subst, ◌∙◌, inl, inr, arith, append_assoc}
use Rattle.std.specs.Prelude.{codes, bytes_eq}
use Rattle.std.specs.Char.{is_ascii_lowercase}
use Rattle.std.specs.List.{AllByRecursion, join_with_byte}
use Rattle.std.proofs.lemmas.Bool.{false_from_ne_true}
use Rattle.std.proofs.lemmas.Bool.Decides.{not_from_Decides}
use Rattle.std.proofs.lemmas.List.Elements.{All-from_recursion}
use Rattle.std.proofs.lemmas.Slice.Eq.{bytes_eq-Decides}
use Rattle.bk_codec.specs.Spelling.{IsBytes}
use Rattle.bk_codec.proofs.Steps.{chosen, guard_ok, ok_is}
use Rattle.bk_parse.specs.Parts.{Lacks, parts_at}
use Rattle.bk_parse.proofs.Passing.{lacks_from}
use Rattle.bk_parse.proofs.Splitting.{joined_parts, parts_of_joined}
use Rattle.iff_form.specs.declared.id.Id.{Id}
use Rattle.iff_form.specs.Text.{id_text}
use Rattle.code_chunk.specs.declared.code.CodeVal.{CodeVal}
use Rattle.beam_module.specs.File.{FileChunk, IsNew, code_id}
use Rattle.beam_module.specs.declared.chunk_value.ChunkVal.TheVariants.{Code, Raw}
use Rattle.listing_out.specs.Lines.{chunk_lines, code_line, instruction_line, lines}
use Rattle.listing_out.specs.Listable.{ChunkIsListed, CodeIsListed, IsListable}
use Rattle.listing_in.specs.declared.refusal.ListingWhy.TheVariants as whys
use Rattle.listing_in.specs.declared.stop.LineStop.{LineStop}
use Rattle.listing_in.specs.declared.stop.LineStop.TheVariants as stops
use Rattle.listing_in.specs.Header.{begun_with, header_fields, header_of}
use Rattle.listing_in.specs.Ids.{IsFourBytes, id_of, id_with}
use Rattle.listing_in.specs.State.{State, Filling, Coding, value_of}
use Rattle.listing_in.specs.Step.{begun_as, chunk_begins, code_begins, is_seen, keyword_begins, payload_begins}
use Rattle.listing_in.proofs.FileLines.{MayFollow, lines_push, push_listable}
use Rattle.listing_in.proofs.LineStep.{Adds, answer, not_answer}
use Rattle.listing_in.proofs.LineTexts.{LineTexts}
use Rattle.listing_in.proofs.TextBytes.{no_bytes}

-- ---- lines and their parts

parts_joined : (word : List ℕ) (words : List (List ℕ)) → AllByRecursion (Lacks 32) (word ∷ words) → parts_at 32 (join_with_byte 32 (word ∷ words)) ≡ word ∷ words
parts_joined word words lack = parts_of_joined 32 (word ∷ words) (omega arith) (All-from_recursion (Lacks 32) (word ∷ words) lack)

chunk_lacks : Lacks 32 (codes "chunk")
chunk_lacks = lacks_from is_ascii_lowercase 32 (codes "chunk") refl refl

code_lacks : Lacks 32 (codes "code")
code_lacks = lacks_from is_ascii_lowercase 32 (codes "code") refl refl

-- the fields of a line of code, joined
code_line_joined : (c : CodeVal) → join_with_byte 32 (codes "code" ∷ header_fields c) ≡ code_line c
code_line_joined c = simp append_assoc

-- ---- what is read

code_id_fits : IsBytes (codes "Code")
code_id_fits zero = omega arith
code_id_fits (suc zero) = omega arith
code_id_fits (suc (suc zero)) = omega arith
code_id_fits (suc (suc (suc zero))) = omega arith
code_id_fits (suc (suc (suc (suc i)))) = omega arith

-- the chunk that a line with these parts begins
pub record Opens (chunks : List FileChunk) (parts : List (List ℕ)) (t : State) : Type 0 where
  pub chunk : FileChunk
  pub follows : MayFollow chunks chunk
  pub value : value_of t ≡ Some (chunks ++ chunk ∷ [])
  pub one : chunk_lines chunk ≡ join_with_byte 32 parts ∷ []

payload_found : (chunks : List FileChunk) (o : Option Id) (t : State) → payload_begins chunks o ≡ answer t
    → (id : Id) × (o ≡ Some id) × (id ≡ code_id → ⊥) × IsNew id chunks × (Filling chunks id [] ≡ t)
payload_found chunks None t e = absurd (not_answer (stops.Wrong whys.Id) t e)
payload_found chunks (Some id) t e =
    let other = guard_ok (bytes_eq id.0 code_id.0) (stops.Wrong whys.Id) (begun_as chunks id (Filling chunks id [])) t e in
    let new = guard_ok (is_seen id chunks) (stops.Twice id) (answer (Filling chunks id [])) t other.1 in (
      id,
      refl,
      λ same. not_from_Decides (bytes_eq id.0 code_id.0) (bytes_eq-Decides id.0 code_id.0) other.0 (ap (λ (i : Id). i.0) same),
      new.0,
      ok_is {E = LineStop} (Filling chunks id []) t new.1,
    )

code_found : (chunks : List FileChunk) (o : Option CodeVal) (t : State) → code_begins chunks o ≡ answer t → (c : CodeVal) × (o ≡ Some c) × IsNew code_id chunks × (Coding chunks c ≡ t)
code_found chunks None t e = absurd (not_answer (stops.Wrong whys.Number) t e)
code_found chunks (Some c) t e =
    let new = guard_ok (is_seen code_id chunks) (stops.Twice code_id) (answer (Coding chunks c)) t e in
    (c, refl, new.0, ok_is {E = LineStop} (Coding chunks c) t new.1)

same_id_from : (a b : Id) → a.0 ≡ b.0 → a ≡ b
same_id_from a b e = ap (λ (bytes : List ℕ). id_with bytes) e

module _ (texts : LineTexts) where
  opens_payload : (chunks : List FileChunk) (fields : List (List ℕ)) (t : State) → chunk_begins chunks fields ≡ answer t → Opens chunks (codes "chunk" ∷ fields) t
  opens_payload chunks [] t e = absurd (not_answer (stops.Wrong whys.Id) t e)
  opens_payload chunks (text ∷ other ∷ fields) t e = absurd (not_answer (stops.Wrong whys.Id) t e)
  opens_payload chunks (text ∷ []) t e =
      let read = payload_found chunks (id_of text) t e in
      let id = texts.ids.found text read.0 read.1 in
      let listed : ChunkIsListed (read.0, Raw []) = record { id = id.0.0; id_bytes = id.0.1; value = no_bytes } in
      record {
        chunk = (read.0, Raw []);
        follows = record { new = read.3; kind = read.2; listed = listed };
        value = ap value_of (sym read.4);
        one = ap (λ (bytes : List ℕ). (codes "chunk " ++ bytes) ∷ []) id.1;
      }

  opens_code : (chunks : List FileChunk) (fields : List (List ℕ)) (t : State) → code_begins chunks (header_of fields) ≡ answer t → Opens chunks (codes "code" ∷ fields) t
  opens_code chunks fields t e =
      let read = code_found chunks (header_of fields) t e in
      let code = texts.header_found fields read.0 read.1 in
      let listed : ChunkIsListed (code_id, Code read.0) = record { id = refl; id_bytes = code_id_fits; value = code.0 } in
      record {
        chunk = (code_id, Code read.0);
        follows = record { new = read.2; kind = refl; listed = listed };
        value = ap value_of (sym read.3);
        one =
            ap (λ (is : List _). code_line read.0 ∷ map instruction_line is) code.1
            ∙ ap (λ (line : List ℕ). line ∷ []) (sym (code_line_joined read.0) ∙ ap (λ (fs : List (List ℕ)). join_with_byte 32 (codes "code" ∷ fs)) (sym code.2));
      }

  opens : (chunks : List FileChunk) (parts : List (List ℕ)) (t : State) → keyword_begins chunks parts ≡ answer t → Opens chunks parts t
  opens chunks [] t e = absurd (not_answer (stops.Wrong whys.Keyword) t e)
  opens chunks (word ∷ fields) t e =
      elim (chosen (bytes_eq word (codes "chunk")) (chunk_begins chunks fields) (cond (bytes_eq word (codes "code")) (code_begins chunks (header_of fields)) (Err (stops.Wrong whys.Keyword))) (answer t) e) [
        | inl h ↦ subst (λ (w : List ℕ). Opens chunks (w ∷ fields) t) (sym ((bytes_eq-Decides word (codes "chunk")).0 h.0)) (opens_payload chunks fields t h.1)
        | inr h ↦
            elim (chosen (bytes_eq word (codes "code")) (code_begins chunks (header_of fields)) (Err (stops.Wrong whys.Keyword)) (answer t) h.1) [
              | inl k ↦ subst (λ (w : List ℕ). Opens chunks (w ∷ fields) t) (sym ((bytes_eq-Decides word (codes "code")).0 k.0)) (opens_code chunks fields t k.1)
              | inr k ↦ absurd (not_answer (stops.Wrong whys.Keyword) t k.1)
            ]
      ]

  -- a line with a keyword adds itself
  pub keyword_adds : (chunks : List FileChunk) (line : List ℕ) (t : State) → IsListable chunks → keyword_begins chunks (parts_at 32 line) ≡ answer t → Adds t (lines chunks) line
  keyword_adds chunks line t is e =
      let o = opens chunks (parts_at 32 line) t e in
      let own : chunk_lines o.chunk ≡ line ∷ [] = o.one ∙ ap (λ (l : List ℕ). l ∷ []) (joined_parts 32 line) in
      rw o.value (push_listable chunks o.chunk is o.follows, lines_push chunks o.chunk ∙ ap (λ (ls : List (List ℕ)). lines chunks ++ ls) own)

  -- ---- what is read from the texts

  new_begun : (chunks : List FileChunk) (id : Id) (s : State) → IsNew id chunks → begun_as chunks id s ≡ answer s
  new_begun chunks id s new = ap (λ (b : Bool). cond b (Err (stops.Twice id)) (answer s)) new

  pub payload_opened : (chunks : List FileChunk) (id : Id) → IsFourBytes id → IsNew id chunks → (id ≡ code_id → ⊥) → keyword_begins chunks (parts_at 32 (codes "chunk " ++ id_text id)) ≡ answer (Filling chunks id [])
  payload_opened chunks id four new other =
      let differs : bytes_eq id.0 code_id.0 ≡ false = false_from_ne_true (bytes_eq id.0 code_id.0) (λ e. other (same_id_from id code_id ((bytes_eq-Decides id.0 code_id.0).0 e))) in
      ap (keyword_begins chunks) (parts_joined (codes "chunk") (id_text id ∷ []) (chunk_lacks, (texts.id_lacks id four, tt)))
      ∙ ap (payload_begins chunks) (texts.ids.only id four)
      ∙ ap (λ (b : Bool). cond b (Err (stops.Wrong whys.Id)) (begun_as chunks id (Filling chunks id []))) differs
      ∙ new_begun chunks id (Filling chunks id []) new

  pub code_opened : (chunks : List FileChunk) (c : CodeVal) → CodeIsListed c → IsNew code_id chunks
      → keyword_begins chunks (parts_at 32 (code_line c)) ≡ answer (Coding chunks (begun_with c.max_op c.labels c.functions c.extra))
  code_opened chunks c listed new =
      ap (λ (line : List ℕ). keyword_begins chunks (parts_at 32 line)) (sym (code_line_joined c))
      ∙ ap (keyword_begins chunks) (parts_joined (codes "code") (header_fields c) (code_lacks, texts.header_lacks c listed))
      ∙ ap (code_begins chunks) (texts.header_only c listed)
      ∙ new_begun chunks code_id (Coding chunks (begun_with c.max_op c.labels c.functions c.extra)) new
