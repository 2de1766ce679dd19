-- Bytes are a file of one value.
use Rattle.std.proofs.Common.{◌≡◌, ℕ, List, [], ◌∷◌, ◌++◌, refl, sym, ap, subst, ◌∙◌}
use Rattle.std.specs.List.{AllZip}
use Rattle.iff_form.specs.declared.id.Id.{Id}
use Rattle.iff_form.specs.Chunk.{PlainChunk}
use Rattle.iff_form.specs.Form.{IsForm}
use Rattle.code_chunk.specs.declared.code.CodeVal.{CodeVal}
use Rattle.code_chunk.specs.Spelling.{SpellsCode}
use Rattle.beam_module.specs.declared.chunk_value.ChunkVal.TheVariants as values
use Rattle.beam_module.specs.File.{FileChunk, IsChunk, IsFile}

module _ (one_form : (a b x y : List ℕ) (chunks others : List PlainChunk) → IsForm chunks a → IsForm others b → a ++ x ≡ b ++ y → (a ≡ b) × (chunks ≡ others))
    (one_code : (payload : List ℕ) (c d : CodeVal) → SpellsCode c payload → SpellsCode d payload → c ≡ d) where
  same_value : (c : PlainChunk) (v w : FileChunk) → IsChunk v c → IsChunk w c → v ≡ w
  same_value c (id, values.Code a) (other, values.Code b) p q =
      ap (λ (i : Id). (i, values.Code a)) (sym p.id ∙ q.id) ∙ ap (λ (code : CodeVal). (other, values.Code code)) (one_code c.payload a b p.payload q.payload)
  same_value c (id, values.Code a) (other, values.Raw b) p q = absurd (q.kind (sym q.id ∙ p.id ∙ p.kind))
  same_value c (id, values.Raw a) (other, values.Code b) p q = absurd (p.kind (sym p.id ∙ q.id ∙ q.kind))
  same_value c (id, values.Raw a) (other, values.Raw b) p q =
      ap (λ (i : Id). (i, values.Raw a)) (sym p.id ∙ q.id) ∙ ap (λ (bytes : List ℕ). (other, values.Raw bytes)) (sym p.payload ∙ q.payload)

  same_values : (chunks : List PlainChunk) (vs ws : List FileChunk) → AllZip IsChunk vs chunks → AllZip IsChunk ws chunks → vs ≡ ws
  same_values [] [] [] p q = refl
  same_values [] [] (w ∷ ws) p q = absurd q
  same_values [] (v ∷ vs) ws p q = absurd p
  same_values (c ∷ chunks) [] ws p q = absurd p
  same_values (c ∷ chunks) (v ∷ vs) [] p q = absurd q
  same_values (c ∷ chunks) (v ∷ vs) (w ∷ ws) p q =
      ap (λ (x : FileChunk). x ∷ vs) (same_value c v w p.0 q.0) ∙ ap (λ (xs : List FileChunk). w ∷ xs) (same_values chunks vs ws p.1 q.1)

  pub one_file_lem : (bytes : List ℕ) (v w : List FileChunk) → IsFile v bytes → IsFile w bytes → v ≡ w
  one_file_lem bytes v w p q =
      let chunks : q.chunks ≡ p.chunks = (one_form bytes bytes [] [] q.chunks p.chunks q.form p.form refl).1 in
      same_values p.chunks v w p.values (subst (AllZip IsChunk w) chunks q.values)
