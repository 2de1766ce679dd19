-- How long the file of one function is, by computing.
use Rattle.std.proofs.Common.{◌≡◌, ℕ, List, [], length, refl, ap, ◌∙◌, arith}
use Rattle.std.proofs.lemmas.Fmt.{decimal_digit}
use Rattle.compact_term.specs.Canonical.{canonical_number, canonical_short, fewest_from}
use Rattle.iff_form.specs.Canonical.{canonical_form}
use Rattle.code_chunk.specs.Canonical.{canonical_code}
use Rattle.index_tables.specs.Canonical.{canonical_atoms, canonical_exports, canonical_imports}
use Rattle.beam_module.specs.Canonical.{canonical_file}
use Rattle.module_gen.specs.Code.{code_of}
use Rattle.module_gen.specs.Generated.{atoms_of, exports_of, generated}
use Rattle.module_gen.proofs.Tables.{small_versions}
use Rattle.module_gen.proofs.Opening.{chunks_of}

-- the file with these attributes
abbrev file_with : List ℕ → List ℕ
file_with attributes = canonical_form (chunks_of (canonical_atoms (atoms_of 1)) (canonical_code (code_of 1)) (canonical_imports []) (canonical_exports (exports_of 1)) attributes)

one_function : length (canonical_file (generated 1)) ≡ 176
unfolding canonical_number canonical_short fewest_from
one_function = ap (λ (attributes : List ℕ). length (file_with attributes)) (small_versions 1 (omega arith)) ∙ rw (decimal_digit 1 (omega arith)) refl
