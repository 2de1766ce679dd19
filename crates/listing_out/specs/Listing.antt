-- Which texts are listings of a file: those whose lines, without comments, are its lines.
use Rattle.std.specs.Prelude.{◌≡◌, ℕ, ◌==◌, Bool, true, false, if◌then◌else◌, List, [], ◌∷◌, map}
use Rattle.std.specs.List.{filter}
use Rattle.bk_parse.specs.Parts.{parts_at}
use Rattle.beam_module.specs.File.{FileChunk}
use Rattle.listing_out.specs.Lines.{lines}

-- what stands between the newlines; behind the last newline stands an empty line
abbrev pub raw_lines : List ℕ → List (List ℕ)
raw_lines text = parts_at 10 text

-- a line up to its first semicolon
abbrev pub uncommented : List ℕ → List ℕ
uncommented [] = []
uncommented (b ∷ line) = if b == 59 then [] else b ∷ uncommented line

-- a byte before a line: a space before nothing is dropped
abbrev pub before_line : ℕ → List ℕ → List ℕ
before_line b [] = if b == 32 then [] else b ∷ []
before_line b (c ∷ line) = b ∷ c ∷ line

-- a line without the spaces at its end
abbrev pub trimmed : List ℕ → List ℕ
trimmed [] = []
trimmed (b ∷ line) = before_line b (trimmed line)

-- a line without its comment
abbrev pub bare : List ℕ → List ℕ
bare line = trimmed (uncommented line)

abbrev pub has_text : List ℕ → Bool
has_text [] = false
has_text (b ∷ line) = true

-- the lines without comments, of which the empty ones are dropped
abbrev pub kept : List (List ℕ) → List (List ℕ)
kept raw = filter has_text (map bare raw)

-- a text is a listing of the file
abbrev pub IsListing : List FileChunk → List ℕ → Type 0
IsListing v text = kept (raw_lines text) ≡ lines v
