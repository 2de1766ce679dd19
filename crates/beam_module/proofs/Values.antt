-- The values of the chunks of a form are read exactly where these are their chunks.
use Rattle.std.proofs.Common.{◌≡◌, ℕ, Bool, true, false, List, [], ◌∷◌, Ok, refl, sym, ap, subst, ◌∙◌, inl, inr}
use Rattle.std.specs.Prelude.{bytes_eq, codes}
use Rattle.std.specs.Bool.{Decides}
use Rattle.std.specs.List.{AllByRecursion, AllZip}
use Rattle.std.proofs.lemmas.Bool.Decides.{not_from_Decides}
use Rattle.std.proofs.lemmas.Map.Keys.{IsDistinct-cons, IsDistinct-head, IsDistinct-tail}
use Rattle.std.proofs.lemmas.Slice.Eq.{bytes_eq-Decides}
use Rattle.bk_codec.specs.Exact.{IsExact}
use Rattle.bk_codec.specs.Reading.{◌>>=◌, refused_as}
use Rattle.bk_codec.specs.Spelling.{IsBytes}
use Rattle.bk_codec.proofs.Steps.{bind_ok, bind_at_ok, chosen, ok_is, refused_as_ok}
use Rattle.iff_form.specs.declared.id.Id.{Id}
use Rattle.iff_form.specs.Chunk.{PlainChunk, is_same_id as is_same_plain}
use Rattle.iff_form.specs.Form.{AreDistinct}
use Rattle.code_chunk.specs.Reading.{code_at}
use Rattle.code_chunk.specs.Spelling.{SpellsCode}
use Rattle.beam_module.specs.declared.chunk_value.ChunkVal.TheVariants as values
use Rattle.beam_module.specs.declared.refusal.ModuleRefusal.{ModuleRefusal}
use Rattle.beam_module.specs.declared.refusal.ModuleRefusal.TheVariants as refusals
use Rattle.beam_module.specs.File.{AreChunks, FileChunk, IsChunk, is_same_id}
use Rattle.beam_module.specs.Reading.{value_of, values_of}
use Rattle.beam_module.proofs.ChunkLemmas.{chunks_none}

-- ---- chunks of a form make chunks of a file

apart_from : (v : FileChunk) (c : PlainChunk) (vs : List FileChunk) (chunks : List PlainChunk) → c.id ≡ v.0 → AllByRecursion (λ d. is_same_plain c d ≡ false) chunks
    → AllZip IsChunk vs chunks → AllByRecursion (λ w. is_same_id v w ≡ false) vs
apart_from v c [] [] id apart are = tt
apart_from v c [] (d ∷ chunks) id apart are = absurd are
apart_from v c (w ∷ vs) [] id apart are = absurd are
apart_from v c (w ∷ vs) (d ∷ chunks) id apart are =
    let here : is_same_id v w ≡ false = ap (λ (i : Id). bytes_eq i.0 w.0.0) (sym id) ∙ ap (λ (i : Id). bytes_eq c.id.0 i.0) (sym are.0.id) ∙ apart.0 in
    (here, apart_from v c vs chunks id apart.1 are.1)

pub values_are : (vs : List FileChunk) (chunks : List PlainChunk) → AllZip IsChunk vs chunks → AreDistinct chunks → AreChunks vs
values_are [] chunks are distinct = chunks_none
values_are (v ∷ vs) [] are distinct = absurd are
values_are (v ∷ vs) (c ∷ chunks) are distinct =
    let others = values_are vs chunks are.1 (IsDistinct-tail is_same_plain c chunks distinct) in
    let apart = apart_from v c vs chunks are.0.id (IsDistinct-head is_same_plain c chunks distinct) are.1 in
    record { distinct = IsDistinct-cons is_same_id v vs apart others.distinct; kinds = (are.0.kind, others.kinds) }

-- ---- a chunk and its value

abbrev id_of : List ℕ → Id
id_of bytes = record { 0 = bytes }

is_code : (c : PlainChunk) → Decides (bytes_eq c.id.0 (codes "Code")) (c.id.0 ≡ codes "Code")
is_code c = bytes_eq-Decides c.id.0 (codes "Code")

false_from : (b : Bool) → (b ≡ true → ⊥) → b ≡ false
false_from true none = absurd (none refl)
false_from false none = refl

module _ (codes_exact : IsExact code_at SpellsCode) where
  value_takes : (c : PlainChunk) (v : FileChunk) → IsBytes c.payload → value_of c ≡ Ok v → IsChunk v c
  value_takes c v fits h =
      elim (chosen (bytes_eq c.id.0 (codes "Code")) (refused_as refusals.Code (code_at c.payload) >>= λ code. Ok (c.id, values.Code code)) (Ok (c.id, values.Raw c.payload)) (Ok v) h) [
        | inl code ↦
            let read = bind_ok (refused_as refusals.Code (code_at c.payload)) (λ code. Ok (c.id, values.Code code)) v code.1 in
            let spelled = (codes_exact.accepted c.payload read.0 fits).0 (refused_as_ok refusals.Code (code_at c.payload) read.0 read.1) in
            let made : IsChunk (c.id, values.Code read.0) c = record { id = refl; kind = ap id_of ((is_code c).0 code.0); payload = spelled } in
            subst (λ (w : FileChunk). IsChunk w c) (ok_is {E = ModuleRefusal} (c.id, values.Code read.0) v read.2) made
        | inr raw ↦
            let made : IsChunk (c.id, values.Raw c.payload) c =
            record { id = refl; kind = λ same. not_from_Decides (bytes_eq c.id.0 (codes "Code")) (is_code c) raw.0 (ap (λ (i : Id). i.0) same); payload = refl } in
            subst (λ (w : FileChunk). IsChunk w c) (ok_is {E = ModuleRefusal} (c.id, values.Raw c.payload) v raw.1) made
      ]

  value_again : (c : PlainChunk) (v : FileChunk) → IsBytes c.payload → IsChunk v c → value_of c ≡ Ok v
  value_again c (id, values.Code code) fits is =
      let tested : bytes_eq c.id.0 (codes "Code") ≡ true = (is_code c).1 (ap (λ (i : Id). i.0) (is.id ∙ is.kind)) in
      let read : code_at c.payload ≡ Ok code = (codes_exact.accepted c.payload code fits).1 is.payload in
      rw (tested, read) (ap (λ (i : Id). Ok (i, values.Code code)) is.id)
  value_again c (id, values.Raw bytes) fits is =
      let tested : bytes_eq c.id.0 (codes "Code") ≡ false = false_from _ (λ e. is.kind (sym is.id ∙ ap id_of ((is_code c).0 e))) in
      rw tested (ap (λ (i : Id). Ok (i, values.Raw c.payload)) is.id ∙ ap (λ (p : List ℕ). Ok (id, values.Raw p)) is.payload)

  -- ---- all of them

  pub values_take : (chunks : List PlainChunk) (vs : List FileChunk) → AllByRecursion (λ c. IsBytes c.payload) chunks → values_of chunks ≡ Ok vs → AllZip IsChunk vs chunks
  values_take [] vs fit h = subst (λ (ws : List FileChunk). AllZip IsChunk ws []) (ok_is {E = ModuleRefusal} [] vs h) tt
  values_take (c ∷ chunks) vs fit h =
      let first = bind_ok (value_of c) (λ value. values_of chunks >>= λ others. Ok (value ∷ others)) vs h in
      let rest = bind_ok (values_of chunks) (λ others. Ok (first.0 ∷ others)) vs first.2 in
      subst (λ (ws : List FileChunk). AllZip IsChunk ws (c ∷ chunks)) (ok_is {E = ModuleRefusal} (first.0 ∷ rest.0) vs rest.2)
      (value_takes c first.0 fit.0 first.1, values_take chunks rest.0 fit.1 rest.1)

  pub values_again : (chunks : List PlainChunk) (vs : List FileChunk) → AllByRecursion (λ c. IsBytes c.payload) chunks → AllZip IsChunk vs chunks → values_of chunks ≡ Ok vs
  values_again [] [] fit are = refl
  values_again [] (v ∷ vs) fit are = absurd are
  values_again (c ∷ chunks) [] fit are = absurd are
  values_again (c ∷ chunks) (v ∷ vs) fit are =
      bind_at_ok (value_of c) (λ value. values_of chunks >>= λ others. Ok (value ∷ others)) v (value_again c v fit.0 are.0)
      ∙ bind_at_ok (values_of chunks) (λ others. Ok (v ∷ others)) vs (values_again chunks vs fit.1 are.1)
