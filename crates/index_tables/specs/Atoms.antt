-- The table of atoms: how their names are spelled, and which numbers they have.
use Rattle.std.specs.Prelude.{◌≡◌, ℕ, zero, suc, ◌-◌, ◌^◌, ◌<◌, ◌≤◌, List, [], ◌∷◌, Option, None, length, slice_get, slice_index_or, All, IsUtf8}
use Rattle.bk_codec.specs.Spelling.{SpellsCounted}

-- an atom is a byte with the length of its name, and then the name, which is UTF-8
abbrev pub SpellsAtom : List ℕ → List ℕ → Type 0
SpellsAtom name bytes = IsUtf8 name × (length name < 256) × (bytes ≡ length name ∷ name)

-- the payload: the count of the atoms, and then the atoms
abbrev pub SpellsAtoms : List (List ℕ) → List ℕ → Type 0
SpellsAtoms names = SpellsCounted SpellsAtom names

-- the count of the atoms is a number of 32 bits, and the length of each name one of 8
abbrev pub FitsAtoms : List (List ℕ) → Type 0
FitsAtoms names = (length names < 2 ^ 32) × All (λ name. length name < 256) names

-- the numbers of the atoms count from 1
abbrev pub IsAtom : List (List ℕ) → ℕ → Type 0
IsAtom names n = (1 ≤ n) × (n ≤ length names)

-- the name of the atom with a number, if there is one
abbrev pub atom_called : List (List ℕ) → ℕ → Option (List ℕ)
atom_called names zero = None
atom_called names (suc n) = slice_get names n

-- the name of the atom with a number that is there
abbrev pub atom_name : List (List ℕ) → ℕ → List ℕ
atom_name names n = slice_index_or names (n - 1) []
