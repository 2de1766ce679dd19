-- The listing of a file whose chunks are listed as they are read.
use Rattle.std.proofs.Common.{◌≡◌, ℕ, false, List, [], ◌∷◌, ◌++◌, Result, Option, Some, Ok, refl, sym, ap, ◌∙◌, inl, inr}
use Rattle.std.proofs.lemmas.List.{append-nil}
use Rattle.std.proofs.lemmas.Slice.Eq.{bytes_eq-Decides}
use Rattle.std.specs.Prelude.{bytes_eq, codes, if◌then◌else◌}
use Rattle.std.specs.List.{flat_map}
use Rattle.bk_codec.specs.Reading.{◌>>=◌, refused_as, Fails}
use Rattle.bk_codec.proofs.Steps.{bind_ok, bind_err, bind_same, chosen, ok_is}
use Rattle.iff_form.specs.declared.id.Id.{Id}
use Rattle.iff_form.specs.declared.chunk.Chunk.{Chunk}
use Rattle.iff_form.specs.Chunk.{PlainChunk, plains}
use Rattle.iff_form.specs.Form.{payload_of}
use Rattle.code_chunk.specs.Reading.{code_at}
use Rattle.beam_module.specs.declared.chunk_value.ChunkVal.TheVariants as values
use Rattle.beam_module.specs.declared.refusal.ModuleRefusal.{ModuleRefusal}
use Rattle.beam_module.specs.declared.refusal.ModuleRefusal.TheVariants as refusals
use Rattle.beam_module.specs.File.{FileChunk}
use Rattle.beam_module.specs.Reading.{form_or, value_of, values_of}
use Rattle.listing_out.specs.declared.names.Names.{Names}
use Rattle.listing_out.specs.Comments.{commented_chunk, names_in, names_of, payload_in}
use Rattle.listing_out.specs.Lines.{text_of}
use Rattle.listing_out.specs.Reading.{behind, chunk_behind, chunks_behind, listing_of}
use Rattle.listing_out.proofs.Read.{behind_next}
use Rattle.listing_out.proofs.Texts.{text-flat_map}

-- ---- the names of a form are those of its value

module _ (id : Id) (other : bytes_eq (codes "Code") id.0 ≡ false) where
  payload_next : (c : PlainChunk) (v : FileChunk) (chunks : List PlainChunk) (vs : List FileChunk) → value_of c ≡ Ok v → payload_in id.0 vs ≡ payload_of id chunks → payload_in id.0 (v ∷ vs) ≡ payload_of id (c ∷ chunks)
  payload_next c v chunks vs read same =
      elim (chosen (bytes_eq c.id.0 (codes "Code")) (refused_as refusals.Code (code_at c.payload) >>= λ code. Ok (c.id, values.Code code)) (Ok (c.id, values.Raw c.payload)) (Ok v) read) [
        | inl code ↦
            let made = bind_ok (refused_as refusals.Code (code_at c.payload)) (λ code. Ok (c.id, values.Code code)) v code.1 in
            let is : (c.id, values.Code made.0) ≡ v = ok_is {E = ModuleRefusal} (c.id, values.Code made.0) v made.2 in
            let apart : bytes_eq c.id.0 id.0 ≡ false = ap (λ (i : List ℕ). bytes_eq i id.0) ((bytes_eq-Decides c.id.0 (codes "Code")).0 code.0) ∙ other in
            ap (λ (w : FileChunk). payload_in id.0 (w ∷ vs)) (sym is) ∙ same ∙ rw apart refl
        | inr raw ↦
            let is : (c.id, values.Raw c.payload) ≡ v = ok_is {E = ModuleRefusal} (c.id, values.Raw c.payload) v raw.1 in
            ap (λ (w : FileChunk). payload_in id.0 (w ∷ vs)) (sym is) ∙ ap (λ (p : Option (List ℕ)). if bytes_eq c.id.0 id.0 then Some c.payload else p) same
      ]

  payload_alike : (chunks : List PlainChunk) (v : List FileChunk) → values_of chunks ≡ Ok v → payload_in id.0 v ≡ payload_of id chunks
  payload_alike [] v read = ap (payload_in id.0) (sym (ok_is {E = ModuleRefusal} [] v read))
  payload_alike (c ∷ chunks) v read =
      let first = bind_ok (value_of c) (λ value. values_of chunks >>= λ others. Ok (value ∷ others)) v read in
      let others = bind_ok (values_of chunks) (λ others. Ok (first.0 ∷ others)) v first.2 in
      let whole : first.0 ∷ others.0 ≡ v = ok_is {E = ModuleRefusal} (first.0 ∷ others.0) v others.2 in
      ap (payload_in id.0) (sym whole) ∙ payload_next c first.0 chunks others.0 first.1 (payload_alike chunks others.0 others.1)

abbrev id_of : List ℕ → Id
id_of bytes = record { 0 = bytes }

-- what a form's tables call atoms and imports
abbrev pub form_names : List PlainChunk → Names
form_names chunks = names_of (payload_of (id_of (codes "AtU8")) chunks) (payload_of (id_of (codes "ImpT")) chunks)

names_alike : (chunks : List PlainChunk) (v : List FileChunk) → values_of chunks ≡ Ok v → names_in v ≡ form_names chunks
names_alike chunks v read =
    ap (λ (p : Option (List ℕ)). names_of p (payload_in (codes "ImpT") v)) (payload_alike (id_of (codes "AtU8")) refl chunks v read)
    ∙ ap (names_of (payload_of (id_of (codes "AtU8")) chunks)) (payload_alike (id_of (codes "ImpT")) refl chunks v read)

-- ---- chunks

pub chunk_read : (names : Names) (c : PlainChunk) (chunks : List PlainChunk) (out new : List ℕ) → chunk_behind names out c ≡ Ok new → chunks_behind names new chunks ≡ chunks_behind names out (c ∷ chunks)
chunk_read names c chunks out new read =
    let text = λ (v : FileChunk). text_of (commented_chunk names v) in
    let made = bind_ok (value_of c) (λ v. Ok (out ++ text v)) new read in
    let put : out ++ text made.0 ≡ new = ok_is {E = ModuleRefusal} (out ++ text made.0) new made.2 in
    ap (λ (t : List ℕ). chunks_behind names t chunks) (sym put)
    ∙ behind_next text out made.0 (values_of chunks)
    ∙ ap (λ (r : Result FileChunk ModuleRefusal). behind text out (r >>= λ value. values_of chunks >>= λ others. Ok (value ∷ others))) (sym made.1)

pub chunk_refused : (names : Names) (c : PlainChunk) (chunks : List PlainChunk) (out : List ℕ) (e : ModuleRefusal) → Fails refusals.NoMemory e (chunk_behind names out c) → Fails refusals.NoMemory e (chunks_behind names out (c ∷ chunks))
chunk_refused names c chunks out e (inl none) = inl none
chunk_refused names c chunks out e (inr refused) =
    let text = λ (v : FileChunk). text_of (commented_chunk names v) in
    elim (bind_err (value_of c) (λ v. Ok (out ++ text v)) e refused) [
      | inl first ↦ inr (ap (λ (r : Result FileChunk ModuleRefusal). behind text out (r >>= λ value. values_of chunks >>= λ others. Ok (value ∷ others))) first)
      | inr second ↦ let none : ⊥ = cc in absurd none
    ]

pub chunks_put : (names : Names) (out : List ℕ) → chunks_behind names out [] ≡ Ok out
chunks_put names out = ap (λ (t : List ℕ). Ok t) (append-nil out)

-- ---- files

pub listing_is : (bytes : List ℕ) (chunks : List PlainChunk) → form_or bytes ≡ Ok chunks → chunks_behind (form_names chunks) (codes "beam 1\n") chunks ≡ listing_of bytes
listing_is bytes chunks read =
    let names = form_names chunks in
    let text = λ (v : FileChunk). text_of (commented_chunk names v) in
    bind_same (values_of chunks) (λ v. Ok (codes "beam 1\n" ++ flat_map text v)) (λ v. Ok (text_of (codes "beam 1" ∷ flat_map (commented_chunk (names_in v)) v)))
    (λ v values. ap (λ (t : List ℕ). Ok (codes "beam 1\n" ++ t)) (sym (text-flat_map (commented_chunk names) v))
    ∙ ap (λ (n : Names). Ok (text_of (codes "beam 1" ∷ flat_map (commented_chunk n) v))) (sym (names_alike chunks v values)))
    ∙ ap (λ (r : Result (List PlainChunk) ModuleRefusal). (r >>= values_of) >>= λ v. Ok (text_of (codes "beam 1" ∷ flat_map (commented_chunk (names_in v)) v))) (sym read)

pub listing_refused : (bytes : List ℕ) (e : ModuleRefusal) → Fails refusals.NoMemory e (form_or bytes) → Fails refusals.NoMemory e (listing_of bytes)
listing_refused bytes e (inl none) = inl none
listing_refused bytes e (inr refused) = inr (ap (λ (r : Result (List PlainChunk) ModuleRefusal). (r >>= values_of) >>= λ v. Ok (text_of (codes "beam 1" ∷ flat_map (commented_chunk (names_in v)) v))) refused)

-- the text before the first chunk, and behind it the chunks
pub begins : (bytes : List ℕ) (items : List Chunk) (chunks : List PlainChunk) (names : Names) (start : List ℕ) → form_or bytes ≡ Ok chunks → plains items ≡ chunks → names ≡ form_names chunks → start ≡ codes "beam 1\n"
    → chunks_behind names start (plains items) ≡ listing_of bytes
begins bytes items chunks names start read same named first =
    ap (λ (n : Names). chunks_behind n start (plains items)) named
    ∙ ap (λ (t : List ℕ). chunks_behind (form_names chunks) t (plains items)) first
    ∙ ap (chunks_behind (form_names chunks) (codes "beam 1\n")) same
    ∙ listing_is bytes chunks read
