-- What a list of named files holds: the first entry of a name counts, and a name that is not listed
-- holds no bytes.
use Rattle.std.specs.Prelude.{Bool, true, false, ℕ, List, [], ◌∷◌, if◌then◌else◌, bytes_eq, drop, slice_get, Option, option_and_then}
use Rattle.std.specs.Option.{option_map_or}

-- the bytes of the first file with this name
abbrev pub bytes_held : List (List ℕ × List ℕ) → List ℕ → List ℕ
bytes_held [] name = []
bytes_held (file ∷ files) name = if bytes_eq file.0 name then file.1 else bytes_held files name

-- the bytes of the file at this place, if there is one
abbrev pub bytes_at : List (List ℕ × List ℕ) → Option ℕ → List ℕ
bytes_at files place = option_map_or (λ file. file.1) (option_and_then (λ i. slice_get files i) place) []

-- what is left of the file at this place after so many of its bytes
abbrev pub rest_at : List (List ℕ × List ℕ) → Option ℕ → ℕ → List ℕ
rest_at files place count = drop count (bytes_at files place)

-- whether there is a file with this name
abbrev pub is_listed : List (List ℕ × List ℕ) → List ℕ → Bool
is_listed [] name = false
is_listed (file ∷ files) name = if bytes_eq file.0 name then true else is_listed files name
