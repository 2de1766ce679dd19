-- Why a payload is no table: what is wrong with its first bad record, or behind its last one.
use Rattle.std.specs.Prelude.{◌≡◌, ℕ, ◌*◌, ◌<◌, ◌≤◌, List, [], ◌∷◌, ◌++◌, length, take, All, IsUtf8}
use Rattle.bk_codec.specs.Spelling.{SpellsMany, SpellsWord}
use Rattle.bk_codec.specs.Refusal.{RefusesCounted}
use Rattle.index_tables.specs.Atoms.{SpellsAtom, IsAtom}
use Rattle.index_tables.specs.Entries.{SpellsEntry, import_words, import_atoms, export_words, export_atoms, fun_words, fun_atoms}
use Rattle.index_tables.specs.declared.refusal.TableRefusal.{TableRefusal}
use Rattle.index_tables.specs.declared.refusal.TableRefusal.TheVariants.{Cut, AtomUtf8, AtomIndex, Rest}

-- bytes that do not begin with atom n: its length or its name is cut, or the name is there and is not UTF-8
abbrev pub NoAtom : ℕ → List ℕ → TableRefusal → Type 0
NoAtom n [] Cut = Unit {0}
NoAtom n (len ∷ bytes) Cut = length bytes < len
NoAtom n (len ∷ bytes) (AtomUtf8 k) = (k ≡ n) × (len ≤ length bytes) × ¬ IsUtf8 (take len bytes)
NoAtom n bytes e = ⊥

-- a payload that is no table of atoms
abbrev pub RefusesAtoms : List ℕ → TableRefusal → Type 0
RefusesAtoms = RefusesCounted SpellsAtom NoAtom Cut Rest 1

-- the words of an entry are there, and one of its atom numbers is none of the atoms
pub record HasUnknownAtom {A : Type 0} (words atoms : A → List ℕ) (names : List (List ℕ)) (bytes : List ℕ) : Type 0 where
  pub entry : A
  pub text : List ℕ
  pub rest : List ℕ
  pub joined : bytes ≡ text ++ rest
  pub words_are : SpellsMany SpellsWord (words entry) text
  pub unknown : ¬ All (IsAtom names) (atoms entry)

-- bytes that do not begin with entry i, which has so many words: they are cut, or they are there with an unknown atom
abbrev pub NoEntry : {A : Type 0} → ℕ → (A → List ℕ) → (A → List ℕ) → List (List ℕ) → ℕ → List ℕ → TableRefusal → Type 0
NoEntry width words atoms names i bytes Cut = length bytes < 4 * width
NoEntry width words atoms names i bytes (AtomIndex k) = (k ≡ i) × HasUnknownAtom words atoms names bytes
NoEntry width words atoms names i bytes e = ⊥

-- a payload that is no table of such entries over these atoms
abbrev pub RefusesTable : {A : Type 0} → ℕ → (A → List ℕ) → (A → List ℕ) → List (List ℕ) → List ℕ → TableRefusal → Type 0
RefusesTable width words atoms names = RefusesCounted (SpellsEntry words atoms names) (NoEntry width words atoms names) Cut Rest 0

abbrev pub RefusesImports : List (List ℕ) → List ℕ → TableRefusal → Type 0
RefusesImports = RefusesTable 3 import_words import_atoms

abbrev pub RefusesExports : List (List ℕ) → List ℕ → TableRefusal → Type 0
RefusesExports = RefusesTable 3 export_words export_atoms

abbrev pub RefusesFuns : List (List ℕ) → List ℕ → TableRefusal → Type 0
RefusesFuns = RefusesTable 6 fun_words fun_atoms
