-- The tables of words: which words an entry has, and which of them are atom numbers.
use Rattle.std.specs.Prelude.{ℕ, ◌<◌, ◌^◌, List, [], ◌∷◌, length, All}
use Rattle.bk_codec.specs.Spelling.{SpellsMany, SpellsWord, SpellsCounted}
use Rattle.index_tables.specs.Atoms.{IsAtom}
use Rattle.index_tables.specs.declared.entry.Import.{Import}
use Rattle.index_tables.specs.declared.entry.Export.{Export}
use Rattle.index_tables.specs.declared.entry.Fun.{Fun}

abbrev pub import_words : Import → List ℕ
import_words x = x.module ∷ x.name ∷ x.arity ∷ []

abbrev pub import_atoms : Import → List ℕ
import_atoms x = x.module ∷ x.name ∷ []

abbrev pub export_words : Export → List ℕ
export_words x = x.name ∷ x.arity ∷ x.label ∷ []

abbrev pub export_atoms : Export → List ℕ
export_atoms x = x.name ∷ []

abbrev pub fun_words : Fun → List ℕ
fun_words x = x.name ∷ x.arity ∷ x.label ∷ x.index ∷ x.free ∷ x.unique ∷ []

abbrev pub fun_atoms : Fun → List ℕ
fun_atoms x = x.name ∷ []

-- the atom numbers of each entry are numbers of these atoms
abbrev pub NamesAtoms : {A : Type 0} → (A → List ℕ) → List (List ℕ) → List A → Type 0
NamesAtoms atoms names xs = All (λ x. All (IsAtom names) (atoms x)) xs

-- the count of the entries and each word of them are numbers of 32 bits
abbrev pub FitsWords : {A : Type 0} → (A → List ℕ) → List A → Type 0
FitsWords words xs = (length xs < 2 ^ 32) × All (λ x. All (λ n. n < 2 ^ 32) (words x)) xs

-- an entry is its words, and its atom numbers are numbers of these atoms
abbrev pub SpellsEntry : {A : Type 0} → (A → List ℕ) → (A → List ℕ) → List (List ℕ) → A → List ℕ → Type 0
SpellsEntry words atoms names x bytes = SpellsMany SpellsWord (words x) bytes × All (IsAtom names) (atoms x)

-- the payload: the count of the entries, and then the entries
abbrev pub SpellsTable : {A : Type 0} → (A → List ℕ) → (A → List ℕ) → List (List ℕ) → List A → List ℕ → Type 0
SpellsTable words atoms names xs = SpellsCounted (SpellsEntry words atoms names) xs

abbrev pub SpellsImports : List (List ℕ) → List Import → List ℕ → Type 0
SpellsImports = SpellsTable import_words import_atoms

abbrev pub SpellsExports : List (List ℕ) → List Export → List ℕ → Type 0
SpellsExports = SpellsTable export_words export_atoms

abbrev pub SpellsFuns : List (List ℕ) → List Fun → List ℕ → Type 0
SpellsFuns = SpellsTable fun_words fun_atoms
