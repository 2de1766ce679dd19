-- How entries of a table are made of words.
use Rattle.std.specs.Prelude.{◌≡◌, ℕ, List, length, slice_index}
use Rattle.index_tables.specs.Entries.{import_words, import_atoms, export_words, export_atoms, fun_words, fun_atoms}
use Rattle.index_tables.specs.declared.entry.Import.{Import}
use Rattle.index_tables.specs.declared.entry.Export.{Export}
use Rattle.index_tables.specs.declared.entry.Fun.{Fun}

-- the entries of a table: their words and how many these are, the entry that words make, and which words are atom numbers
pub record Shape (A : Type 0) : Type 0 where
  pub width : ℕ
  pub words : A → List ℕ
  pub of_words : List ℕ → A
  pub atoms : A → List ℕ

abbrev pub import_shape : Shape Import
import_shape = record {
  width = 3;
  words = import_words;
  of_words = λ ws. record { «module» = slice_index ws 0; name = slice_index ws 1; arity = slice_index ws 2 };
  atoms = import_atoms;
}

abbrev pub export_shape : Shape Export
export_shape = record {
  width = 3;
  words = export_words;
  of_words = λ ws. record { name = slice_index ws 0; arity = slice_index ws 1; label = slice_index ws 2 };
  atoms = export_atoms;
}

abbrev pub fun_shape : Shape Fun
fun_shape = record {
  width = 6;
  words = fun_words;
  of_words = λ ws. record { name = slice_index ws 0; arity = slice_index ws 1; label = slice_index ws 2; index = slice_index ws 3; free = slice_index ws 4; unique = slice_index ws 5 };
  atoms = fun_atoms;
}

-- an entry is made of its words, and words are those of the entry that they make
pub record IsShape {A : Type 0} (shape : Shape A) : Type 0 where
  pub counted : (x : A) → length (shape.words x) ≡ shape.width
  pub back : (x : A) → shape.of_words (shape.words x) ≡ x
  pub made : (ws : List ℕ) → length ws ≡ shape.width → shape.words (shape.of_words ws) ≡ ws
