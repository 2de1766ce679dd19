-- The file of a generated module can be written, and is that module.
use Rattle.std.proofs.Common.{◌≡◌, ◌≢◌, ℕ, ℤ, ◌+◌, ◌^◌, ◌<◌, ◌≤◌, List, [], ◌∷◌, length, All, refl, ap, arith}
use Rattle.std.specs.Prelude.{IsUtf8}
use Rattle.std.specs.List.{AllByRecursion, IsDistinct}
use Rattle.std.proofs.lemmas.List.Elements.{All-nil}
use Rattle.bk_codec.specs.Spelling.{IsBytes}
use Rattle.compact_term.specs.Canonical.{canonical_number}
use Rattle.iff_form.specs.declared.id.Id.{Id}
use Rattle.iff_form.specs.Canonical.{ChunkMeetsType, canonical_form}
use Rattle.iff_form.specs.Chunk.{PlainChunk, chunk_size}
use Rattle.iff_form.specs.Form.{AreDistinct, IsForm, form_size}
use Rattle.code_chunk.specs.declared.code.CodeVal.{CodeVal}
use Rattle.code_chunk.specs.Canonical.{canonical_code}
use Rattle.code_chunk.specs.Code.{CodeMeetsType, IsProperCode}
use Rattle.code_chunk.specs.Spelling.{SpellsCode}
use Rattle.index_tables.specs.declared.entry.Export.{Export}
use Rattle.index_tables.specs.declared.entry.Import.{Import}
use Rattle.index_tables.specs.Atoms.{FitsAtoms, IsAtom, SpellsAtoms}
use Rattle.index_tables.specs.Canonical.{canonical_atoms, canonical_exports, canonical_imports}
use Rattle.index_tables.specs.Entries.{FitsWords, NamesAtoms, SpellsExports, SpellsImports, export_atoms, export_words, import_atoms, import_words}
use Rattle.side_tables.specs.declared.literals.Literals.TheVariants.{Plain}
use Rattle.ext_term.specs.Writing.{file_spelling}
use Rattle.beam_module.specs.Canonical.{IsWritable, canonical_chunks, canonical_file}
use Rattle.beam_module.specs.File.{code_id}
use Rattle.beam_module.specs.Module.{IsModule, exports_id, imports_id}
use Rattle.beam_module.specs.Name.{atoms_id}
use Rattle.module_gen.specs.Code.{code_of}
use Rattle.module_gen.specs.Generated.{atoms_of, attributes_id, exports_of, generated, generated_module, strings_id, versions}
use Rattle.module_gen.proofs.Rows.{◌&◌}
use Rattle.module_gen.proofs.Splitting.{code_splits}
use Rattle.module_gen.proofs.Coding.{code_meets, code_proper, code_short}
use Rattle.module_gen.proofs.Tables.{atoms_are_bytes, atoms_fit, atoms_short, atoms_utf8, exports_are_bytes, exports_fit, exports_name, exports_short, given_bytes, imports_are_bytes, length_atoms, versions_are_bytes, versions_short}

-- ---- the chunks, with any payloads

abbrev pub chunk : Id → List ℕ → PlainChunk
chunk id payload = record { id = id; payload = payload }

abbrev pub chunks_of : List ℕ → List ℕ → List ℕ → List ℕ → List ℕ → List PlainChunk
chunks_of atoms code imports exports attributes =
    chunk atoms_id atoms ∷ chunk code_id code ∷ chunk strings_id [] ∷ chunk imports_id imports ∷ chunk exports_id exports ∷ chunk attributes_id attributes ∷ []

chunks_distinct : (atoms code imports exports attributes : List ℕ) → AreDistinct (chunks_of atoms code imports exports attributes)
unfolding IsDistinct
chunks_distinct atoms code imports exports attributes =
    (refl & refl & refl & refl & refl & tt)
    & (refl & refl & refl & refl & tt)
    & (refl & refl & refl & tt)
    & (refl & refl & tt)
    & (refl & tt)
    & tt
    & tt

meets : (id : Id) (payload : List ℕ) → length id.0 ≡ 4 → IsBytes id.0 → IsBytes payload → ChunkMeetsType (chunk id payload)
meets id payload four id_bytes bytes = record { id = four; id_bytes = id_bytes; payload = bytes }

chunks_meet : (atoms code imports exports attributes : List ℕ) → IsBytes atoms → IsBytes code → IsBytes imports → IsBytes exports → IsBytes attributes
    → AllByRecursion ChunkMeetsType (chunks_of atoms code imports exports attributes)
chunks_meet atoms code imports exports attributes a c i e t =
    meets atoms_id atoms refl (given_bytes atoms_id.0 refl) a
    & meets code_id code refl (given_bytes code_id.0 refl) c
    & meets strings_id [] refl (given_bytes strings_id.0 refl) (given_bytes [] refl)
    & meets imports_id imports refl (given_bytes imports_id.0 refl) i
    & meets exports_id exports refl (given_bytes exports_id.0 refl) e
    & meets attributes_id attributes refl (given_bytes attributes_id.0 refl) t
    & tt

-- a chunk takes little more than its payload
size_le : (c : PlainChunk) (most : ℕ) → length c.payload ≤ most → chunk_size c ≤ most + 11
size_le c most short = omega arith

chunks_small : (atoms code imports exports attributes : List ℕ) → length atoms ≤ 20000 → length code ≤ 1800000 → length imports ≤ 4 → length exports ≤ 30000 → length attributes ≤ 25
    → form_size (chunks_of atoms code imports exports attributes) < 2 ^ 32
chunks_small atoms code imports exports attributes a c i e t =
    omega (
      arith,
      size_le (chunk atoms_id atoms) 20000 a,
      size_le (chunk code_id code) 1800000 c,
      size_le (chunk strings_id []) 0 (omega arith),
      size_le (chunk imports_id imports) 4 i,
      size_le (chunk exports_id exports) 30000 e,
      size_le (chunk attributes_id attributes) 25 t,
    )

-- ---- the file

no_imports_fit : FitsWords import_words []
no_imports_fit = (omega arith, All-nil (λ x. All (λ n. n < 2 ^ 32) (import_words x)))

has_atoms : (n : ℕ) → atoms_of n ≢ []
has_atoms n none = omega (arith, length_atoms n, ap (λ (names : List (List ℕ)). length names) none)

module _ (short : (tag : ℕ) (z : ℤ) → length (canonical_number tag z) ≤ 18) where
  size_fits : (n : ℕ) → n ≤ 2000 → form_size (canonical_chunks (generated n)) < 2 ^ 32
  size_fits n small =
      chunks_small (canonical_atoms (atoms_of n)) (canonical_code (code_of n)) (canonical_imports []) (canonical_exports (exports_of n)) (file_spelling (versions n))
      (atoms_short n small) (code_short short n small) (omega arith) (exports_short n small) (versions_short n small)

  pub can_be_written : (n : ℕ) → n ≤ 2000 → IsWritable (generated n)
  can_be_written n small =
      record { operands = tt & (code_proper short n small).instrs & tt & tt & tt & tt & tt; size = size_fits n small }

  module _ (code_spelled : (c : CodeVal) → CodeMeetsType c → IsProperCode c → length (canonical_code c) < 2 ^ 32 → SpellsCode c (canonical_code c))
      (spelled_bytes : (c : CodeVal) (payload : List ℕ) → CodeMeetsType c → SpellsCode c payload → IsBytes payload) where
    spelled : (n : ℕ) → n ≤ 2000 → SpellsCode (code_of n) (canonical_code (code_of n))
    spelled n small = code_spelled (code_of n) (code_meets short n small) (code_proper short n small) (omega (arith, code_short short n small))

    chunks_are : (n : ℕ) → n ≤ 2000 → AllByRecursion ChunkMeetsType (canonical_chunks (generated n))
    chunks_are n small =
        chunks_meet (canonical_atoms (atoms_of n)) (canonical_code (code_of n)) (canonical_imports []) (canonical_exports (exports_of n)) (file_spelling (versions n))
        (atoms_are_bytes n small) (spelled_bytes (code_of n) (canonical_code (code_of n)) (code_meets short n small) (spelled n small)) imports_are_bytes
        (exports_are_bytes (exports_of n)) (versions_are_bytes n small)

    module _ (is_form : (chunks : List PlainChunk) → AllByRecursion ChunkMeetsType chunks → AreDistinct chunks → form_size chunks < 2 ^ 32 → IsForm chunks (canonical_form chunks))
        (atoms_spelled : (names : List (List ℕ)) → All IsUtf8 names → FitsAtoms names → SpellsAtoms names (canonical_atoms names))
        (imports_spelled : (names : List (List ℕ)) (xs : List Import) → FitsWords import_words xs → NamesAtoms import_atoms names xs → SpellsImports names xs (canonical_imports xs))
        (exports_spelled : (names : List (List ℕ)) (xs : List Export) → FitsWords export_words xs → NamesAtoms export_atoms names xs → SpellsExports names xs (canonical_exports xs)) where
      form_is : (n : ℕ) → n ≤ 2000 → IsForm (canonical_chunks (generated n)) (canonical_file (generated n))
      form_is n small =
          is_form (canonical_chunks (generated n)) (chunks_are n small)
          (chunks_distinct (canonical_atoms (atoms_of n)) (canonical_code (code_of n)) (canonical_imports []) (canonical_exports (exports_of n)) (file_spelling (versions n)))
          (size_fits n small)

      pub is_module : (n : ℕ) → n ≤ 2000 → IsModule (generated_module n) (canonical_file (generated n))
      is_module n small =
          record {
            form = form_is n small;
            atoms = record { payload = canonical_atoms (atoms_of n); found = refl; spelled = atoms_spelled (atoms_of n) (atoms_utf8 n small) (atoms_fit n small) };
            named = has_atoms n;
            payload = canonical_code (code_of n);
            has_code = refl;
            code = code_of n;
            code_is = spelled n small;
            functions = code_splits n small;
            imports = imports_spelled (atoms_of n) [] no_imports_fit (All-nil (λ x. All (IsAtom (atoms_of n)) (import_atoms x)));
            exports = exports_of n;
            exports_are = exports_spelled (atoms_of n) (exports_of n) (exports_fit n small) (exports_name n small);
            locals = [];
            locals_are = refl;
            funs = refl;
            literals = Plain [];
            literals_are = refl;
            count = refl;
          }
