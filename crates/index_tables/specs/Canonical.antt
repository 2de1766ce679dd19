-- The spelling of the tables as they are written, which is the only one that a table has.
use Rattle.std.specs.Prelude.{ℕ, List, ◌∷◌, ◌++◌, length}
use Rattle.std.specs.List.{flat_map}
use Rattle.byteorder.specs.Endian.{big_bytes}
use Rattle.index_tables.specs.declared.entry.Import.{Import}
use Rattle.index_tables.specs.declared.entry.Export.{Export}
use Rattle.index_tables.specs.declared.entry.Fun.{Fun}
use Rattle.index_tables.specs.Entries.{import_words, export_words, fun_words}

-- how many records there are, and then each of them
abbrev pub counted : {A : Type 0} → (A → List ℕ) → List A → List ℕ
counted spelled xs = big_bytes 4 (length xs) ++ flat_map spelled xs

abbrev pub canonical_atom : List ℕ → List ℕ
canonical_atom name = length name ∷ name

abbrev pub canonical_atoms : List (List ℕ) → List ℕ
canonical_atoms names = counted canonical_atom names

abbrev pub canonical_words : List ℕ → List ℕ
canonical_words words = flat_map (big_bytes 4) words

-- the payload of entries with these words
abbrev pub canonical_table : {A : Type 0} → (A → List ℕ) → List A → List ℕ
canonical_table words xs = counted (λ x. canonical_words (words x)) xs

abbrev pub canonical_imports : List Import → List ℕ
canonical_imports = canonical_table import_words

abbrev pub canonical_exports : List Export → List ℕ
canonical_exports = canonical_table export_words

abbrev pub canonical_funs : List Fun → List ℕ
canonical_funs = canonical_table fun_words
