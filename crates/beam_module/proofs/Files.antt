-- The value of a file is read exactly where the bytes are a file of it.
use Rattle.std.proofs.Common.{◌≡◌, ◌⊎◌, ℕ, List, Result, Ok, Err, IfOk, sym, ap, ◌∙◌, inl, inr}
use Rattle.bk_codec.specs.Exact.{IsExact}
use Rattle.bk_codec.specs.Reading.{GivesAll}
use Rattle.bk_codec.specs.Spelling.{IsBytes}
use Rattle.bk_codec.proofs.Exact.{exact_from}
use Rattle.bk_codec.proofs.Steps.{bind_ok, refused_as_ok}
use Rattle.iff_form.specs.Form.{IsForm}
use Rattle.iff_form.specs.Reading.{form_of}
use Rattle.iff_form.proofs.Payloads.{payloads_fit}
use Rattle.code_chunk.specs.Reading.{code_at}
use Rattle.code_chunk.specs.Spelling.{SpellsCode}
use Rattle.beam_module.specs.declared.refusal.ModuleRefusal.{ModuleRefusal}
use Rattle.beam_module.specs.declared.refusal.ModuleRefusal.TheVariants as refusals
use Rattle.beam_module.specs.File.{FileChunk, IsFile}
use Rattle.beam_module.specs.Reading.{form_or, file_of, values_of}
use Rattle.beam_module.proofs.Values.{values_take, values_again}

module _ (forms_exact : IsExact form_of IsForm) (codes_exact : IsExact code_at SpellsCode) where
  file_takes : (bytes : List ℕ) (v : List FileChunk) → IsBytes bytes → file_of bytes ≡ Ok v → IsFile v bytes
  file_takes bytes v fits h =
      let form = bind_ok (form_or bytes) values_of v h in
      let is = (forms_exact.accepted bytes form.0 fits).0 (refused_as_ok refusals.Form (form_of bytes) form.0 form.1) in
      record { chunks = form.0; form = is; values = values_take codes_exact form.0 v (payloads_fit form.0 bytes is fits) form.2 }

  file_again : (bytes : List ℕ) (v : List FileChunk) → IsBytes bytes → IsFile v bytes → file_of bytes ≡ Ok v
  file_again bytes v fits is =
      let form : form_of bytes ≡ Ok is.chunks = (forms_exact.accepted bytes is.chunks fits).1 is.form in
      rw form (values_again codes_exact is.chunks v (payloads_fit is.chunks bytes is.form fits) is.values)

  -- a file of bytes
  abbrev OfBytes : List FileChunk → List ℕ → Type 0
  OfBytes v bytes = IsBytes bytes × IsFile v bytes

  pub file_is_exact : IsExact file_of IsFile
  file_is_exact =
      let exact : IsExact file_of OfBytes = exact_from (λ bytes v fits h. (fits, file_takes bytes v fits h)) (λ bytes v is. file_again bytes v is.0 is.1) in
      record {
        accepted = λ bytes v fits. (file_takes bytes v fits, file_again bytes v fits);
        refused = λ bytes fits. (λ e v is. (exact.refused bytes fits).0 e v (fits, is), λ none. (exact.refused bytes fits).1 (λ v is. none v is.1));
      }

-- ---- what a call answers that reads the whole of bytes

module _ {A : Type 0} {read : List ℕ → Result A ModuleRefusal} {R : A → List ℕ → Type 0} where
  pub answer_found : (bytes : List ℕ) (answer : Result A ModuleRefusal) → IsExact read R → IsBytes bytes → GivesAll refusals.NoMemory (λ v. v) answer (read bytes) → IfOk answer (λ v. R v bytes)
  answer_found bytes (Ok v) exact fits gives = (exact.accepted bytes v fits).0 gives
  answer_found bytes (Err e) exact fits gives = tt

  pub answer_only : (bytes : List ℕ) (answer : Result A ModuleRefusal) → IsExact read R → IsBytes bytes → GivesAll refusals.NoMemory (λ v. v) answer (read bytes)
      → (v : A) → R v bytes → (answer ≡ Ok v) ⊎ (answer ≡ Err refusals.NoMemory)
  answer_only bytes (Ok w) exact fits gives v is = inl (sym gives ∙ (exact.accepted bytes v fits).1 is)
  answer_only bytes (Err e) exact fits (inl none) v is = inr (ap (λ (d : ModuleRefusal). Err d) none)
  answer_only bytes (Err e) exact fits (inr refused) v is = let both = (exact.accepted bytes v fits).1 is in absurd cc
