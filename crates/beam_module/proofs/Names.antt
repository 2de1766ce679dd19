-- The name of a module is read exactly where it is the module's.
use Rattle.std.proofs.Common.{◌≡◌, ◌⊎◌, ℕ, List, [], ◌∷◌, Result, Ok, Err, refl, ap, ◌∙◌, inl, inr, arith}
use Rattle.std.specs.Prelude.{Option, None, Some, ◌↔◌, IsErr, IfOk, slice_get}
use Rattle.std.specs.Option.{ok_or}
use Rattle.std.specs.List.{AllByRecursion}
use Rattle.bk_codec.specs.Exact.{IsExact}
use Rattle.bk_codec.specs.Reading.{refused_as}
use Rattle.bk_codec.specs.Spelling.{IsBytes}
use Rattle.bk_codec.proofs.Exact.{exact_from}
use Rattle.bk_codec.proofs.Steps.{bind_ok, bind_at_ok, err_is, ok_is, refused_as_ok}
use Rattle.iff_form.specs.Chunk.{PlainChunk}
use Rattle.iff_form.specs.Form.{payload_of}
use Rattle.iff_form.proofs.Payloads.{payload_at_fits}
use Rattle.index_tables.specs.Atoms.{SpellsAtoms}
use Rattle.index_tables.specs.Reading.{all_atoms}
use Rattle.beam_module.specs.declared.refusal.ModuleRefusal.{ModuleRefusal}
use Rattle.beam_module.specs.declared.refusal.ModuleRefusal.TheVariants.{Missing, NoMemory}
use Rattle.beam_module.specs.Name.{AreAtoms, IsModuleName, atom_refusal, atoms_id, atoms_in, first_of, name_of}

abbrev HasBytes : List PlainChunk → Type 0
HasBytes chunks = AllByRecursion (λ c. IsBytes c.payload) chunks

first_is : (names : List (List ℕ)) (name : List ℕ) → first_of names ≡ Ok name → (others : List (List ℕ)) × (names ≡ name ∷ others)
first_is [] name h = absurd cc
first_is (x ∷ names) name h = (names, ap (λ (n : List ℕ). n ∷ names) (ok_is {E = ModuleRefusal} x name h))

module _ (atoms_exact : IsExact all_atoms SpellsAtoms) where
  atoms_take : (chunks : List PlainChunk) (found : Option (List ℕ)) (names : List (List ℕ)) → HasBytes chunks → payload_of atoms_id chunks ≡ found → atoms_in found ≡ Ok names → AreAtoms names chunks
  atoms_take chunks None names fits is h = absurd cc
  atoms_take chunks (Some payload) names fits is h = record {
    payload = payload;
    found = is;
    spelled = (atoms_exact.accepted payload names (payload_at_fits atoms_id chunks payload fits is)).0 (refused_as_ok atom_refusal (all_atoms payload) names h);
  }

  name_takes : (chunks : List PlainChunk) (name : List ℕ) → HasBytes chunks → name_of chunks ≡ Ok name → IsModuleName name chunks
  name_takes chunks name fits h =
      let atoms = bind_ok (atoms_in (payload_of atoms_id chunks)) first_of name h in
      let first = first_is atoms.0 name atoms.2 in
      (first.0, atoms_take chunks (payload_of atoms_id chunks) (name ∷ first.0) fits refl (atoms.1 ∙ ap (λ (names : List (List ℕ)). Ok names) first.1))

  name_again : (chunks : List PlainChunk) (name : List ℕ) → HasBytes chunks → IsModuleName name chunks → name_of chunks ≡ Ok name
  name_again chunks name fits is =
      let atoms = is.1 in
      let read : all_atoms atoms.payload ≡ Ok (name ∷ is.0) = (atoms_exact.accepted atoms.payload (name ∷ is.0) (payload_at_fits atoms_id chunks atoms.payload fits atoms.found)).1 atoms.spelled in
      bind_at_ok (atoms_in (payload_of atoms_id chunks)) first_of (name ∷ is.0) (ap atoms_in atoms.found ∙ ap (refused_as atom_refusal) read)

  pub name_accepted : (chunks : List PlainChunk) (name : List ℕ) → HasBytes chunks → (name_of chunks ≡ Ok name) ↔ IsModuleName name chunks
  name_accepted chunks name fits = (name_takes chunks name fits, name_again chunks name fits)

  pub name_refused : (chunks : List PlainChunk) → HasBytes chunks → IsErr (name_of chunks) ↔ ((name : List ℕ) → IsModuleName name chunks → ⊥)
  name_refused chunks fits =
      let exact : IsExact (λ _. name_of chunks) (λ name _. IsModuleName name chunks) = exact_from (λ _ name _ h. name_takes chunks name fits h) (λ _ name is. name_again chunks name fits is) in
      exact.refused [] (λ i. omega arith)

-- ---- what a call answers that takes the first of the atoms

abbrev read : List (List ℕ) → Result (List (List ℕ)) ModuleRefusal
read names = Ok names

abbrev first_or : List (List ℕ) → Result (List ℕ) ModuleRefusal
first_or names = ok_or (slice_get names 0) (Missing atoms_id)

pub answer_found : (chunks : List PlainChunk) (names : List (List ℕ)) (answer : Result (List ℕ) ModuleRefusal) → AreAtoms names chunks → answer ≡ first_or names → IfOk answer (λ name. IsModuleName name chunks)
answer_found chunks [] answer are is = rw is tt
answer_found chunks (name ∷ names) answer are is = rw is (names, are)

pub answer_only : (chunks : List PlainChunk) (names : List (List ℕ)) (answer : Result (List ℕ) ModuleRefusal)
    → ((others : List (List ℕ)) → AreAtoms others chunks → (read names ≡ read others) ⊎ (read names ≡ Err NoMemory)) → answer ≡ first_or names
    → (name : List ℕ) → IsModuleName name chunks → (answer ≡ Ok name) ⊎ (answer ≡ Err NoMemory)
answer_only chunks names answer only is name has =
    elim (only (name ∷ has.0) has.1) [
      | inl same ↦ inl (is ∙ ap first_or (ok_is {E = ModuleRefusal} names (name ∷ has.0) same))
      | inr none ↦ absurd cc
    ]

abbrev refused : {A : Type 0} → ModuleRefusal → Result A ModuleRefusal
refused e = Err e

pub refusal_only : (chunks : List PlainChunk) (e : ModuleRefusal) → ((others : List (List ℕ)) → AreAtoms others chunks → (refused e ≡ read others) ⊎ (refused {A = List (List ℕ)} e ≡ refused NoMemory))
    → (name : List ℕ) → IsModuleName name chunks → (refused e ≡ Ok name) ⊎ (refused {A = List ℕ} e ≡ refused NoMemory)
refusal_only chunks e only name has =
    elim (only (name ∷ has.0) has.1) [
      | inl same ↦ absurd cc
      | inr none ↦ inr (ap (λ (d : ModuleRefusal). refused d) (err_is {A = List (List ℕ)} e NoMemory none))
    ]
