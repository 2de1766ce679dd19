-- The files that the words name, with their bytes.
use Rattle.std.specs.Prelude.{◌≡◌, ◌⊎◌, ℕ, ◌<◌, ◌≤◌, List, [], ◌∷◌, length, nat_lt, get_or, Option, Some, None, option_map, option_and_then, IfSome, if◌then◌else◌}
use Rattle.bk_port.specs.declared.reading.TheConstants.{MOST_BYTES}
use Rattle.beam_cli.specs.declared.loading.LoadedFile.{LoadedFile}

-- a file with the name that the words give it
pub record NamedFile : Type 0 where
  pub name : List ℕ
  pub bytes : List ℕ

abbrev pub named_file : LoadedFile → NamedFile
named_file file = record { name = file.name.now; bytes = file.bytes.items }

-- the file at this place, counted from 0
abbrev pub file_at : List NamedFile → ℕ → NamedFile
file_at files i = get_or files i (record { name = []; bytes = [] })

-- the files with these names, in their order; none where what one of them holds is not told
abbrev pub told : (List ℕ → Option (List ℕ)) → List (List ℕ) → Option (List NamedFile)
told holds [] = Some []
told holds (name ∷ names) = option_and_then (λ bytes. option_map (λ files. record { name = name; bytes = bytes } ∷ files) (told holds names)) (holds name)

-- the name of the first file that has more bytes than are taken
abbrev pub too_large : List NamedFile → Option (List ℕ)
too_large [] = None
too_large (file ∷ files) = if nat_lt MOST_BYTES (length file.bytes) then Some file.name else too_large files

-- ---- files that were loaded

-- the file was loaded whole
pub record IsLoaded (holds : List ℕ → Option (List ℕ)) (name : List ℕ) (file : LoadedFile) : Type 0 where
  pub name_is : file.name.now ≡ name
  pub whole : IfSome (holds name) (λ all. file.bytes.items ≡ all)
  pub size : length file.bytes.items ≤ MOST_BYTES

-- the first of the names of which this holds; the files before it are not too large, where they are told
abbrev pub IsFirst : (List ℕ → Option (List ℕ)) → (List ℕ → Type 0) → List (List ℕ) → Type 0
IsFirst holds P [] = ⊥
IsFirst holds P (name ∷ names) = P name ⊎ (IfSome (holds name) (λ all. length all ≤ MOST_BYTES) × IsFirst holds P names)

-- the first of the files with these names that is too large, where they are told, is this one
abbrev pub IsFirstTooLarge : (List ℕ → Option (List ℕ)) → List (List ℕ) → List ℕ → Type 0
IsFirstTooLarge holds names large = IsFirst holds (λ n. (n ≡ large) × IfSome (holds n) (λ all. MOST_BYTES < length all)) names
