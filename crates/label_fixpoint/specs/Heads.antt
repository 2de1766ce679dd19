-- Blocks of places that are numbered from 0, by whether a block begins at a place.
use Rattle.std.specs.Prelude.{ℕ, zero, suc, ◌-◌, Bool, if◌then◌else◌, List, [], ◌∷◌, ◌++◌, length, slice_index_or}

-- of the first so many places those where a block begins, in order
abbrev pub heads_by : (ℕ → Bool) → ℕ → List ℕ
heads_by begins zero = []
heads_by begins (suc places) = heads_by begins places ++ (if begins places then places ∷ [] else [])

-- how many blocks begin before a place, which is the number of one that begins there
abbrev pub number_at : (ℕ → Bool) → ℕ → ℕ
number_at begins place = length (heads_by begins place)

abbrev pub numbers_by : (ℕ → Bool) → ℕ → List ℕ
numbers_by begins zero = []
numbers_by begins (suc places) = numbers_by begins places ++ number_at begins places ∷ []

-- the last block that begins at a place or before it
abbrev pub block_at : (ℕ → Bool) → ℕ → ℕ
block_at begins place = number_at begins (suc place) - 1

-- where a block of so many places begins, and behind all blocks the number of places
abbrev pub head_at : (ℕ → Bool) → ℕ → ℕ → ℕ
head_at begins places block = slice_index_or (heads_by begins places) block places
