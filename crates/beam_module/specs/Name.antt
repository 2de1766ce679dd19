-- The name of a module: the first of its atoms, in the chunk `AtU8`.
use Rattle.std.specs.Prelude.{◌≡◌, ℕ, List, [], ◌∷◌, codes, Option, Some, None, Result, Ok, Err}
use Rattle.bk_codec.specs.Reading.{◌>>=◌, refused_as}
use Rattle.iff_form.specs.declared.id.Id.{Id}
use Rattle.iff_form.specs.Chunk.{PlainChunk}
use Rattle.iff_form.specs.Form.{payload_of}
use Rattle.index_tables.specs.Atoms.{SpellsAtoms}
use Rattle.index_tables.specs.Reading.{all_atoms}
use Rattle.index_tables.specs.declared.refusal.TableRefusal.{TableRefusal}
use Rattle.beam_module.specs.declared.refusal.ModuleRefusal.{ModuleRefusal}
use Rattle.beam_module.specs.declared.refusal.ModuleRefusal.TheVariants.{Missing, Table}
use Rattle.beam_module.specs.declared.refusal.TableWhy.TheVariants.{Index}

abbrev pub atoms_id : Id
atoms_id = record { 0 = codes "AtU8" }

-- the chunks have a table of these atoms
pub record AreAtoms (names : List (List ℕ)) (chunks : List PlainChunk) : Type 0 where
  pub payload : List ℕ
  pub found : payload_of atoms_id chunks ≡ Some payload
  pub spelled : SpellsAtoms names payload

-- the chunks have a table of atoms whose first is this name
abbrev pub IsModuleName : List ℕ → List PlainChunk → Type 0
IsModuleName name chunks = (others : List (List ℕ)) × AreAtoms (name ∷ others) chunks

-- ---- the same, read, with the first refusal: no chunk, no atom table, no atom

abbrev pub atom_refusal : TableRefusal → ModuleRefusal
atom_refusal e = Table atoms_id (Index e)

abbrev pub atoms_in : Option (List ℕ) → Result (List (List ℕ)) ModuleRefusal
atoms_in None = Err (Missing atoms_id)
atoms_in (Some payload) = refused_as atom_refusal (all_atoms payload)

abbrev pub first_of : List (List ℕ) → Result (List ℕ) ModuleRefusal
first_of [] = Err (Missing atoms_id)
first_of (name ∷ names) = Ok name

abbrev pub name_of : List PlainChunk → Result (List ℕ) ModuleRefusal
name_of chunks = atoms_in (payload_of atoms_id chunks) >>= first_of
