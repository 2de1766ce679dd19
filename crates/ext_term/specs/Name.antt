-- How a name is shown: as it is, or in single quotes.
use Rattle.std.specs.Prelude.{ℕ, ◌==◌, Bool, false, ◌&&◌, ◌||◌, if◌then◌else◌, List, [], ◌∷◌, ◌++◌, codes}
use Rattle.std.specs.List.{flat_map, list_all}
use Rattle.std.specs.Char.{is_ascii_lowercase, is_ascii_alphanumeric, is_ascii_control}
use Rattle.hex.specs.Hex.{encode_lower}

-- whether a byte may follow the first one in a name that is shown as it is: a letter, a digit, `_` (95) or `@` (64)
abbrev pub is_name_byte : ℕ → Bool
is_name_byte b = is_ascii_alphanumeric b || b == 95 || b == 64

-- whether a name is shown as it is
abbrev pub is_bare : List ℕ → Bool
is_bare [] = false
is_bare (b ∷ bytes) = is_ascii_lowercase b && list_all is_name_byte bytes

-- how a byte is shown between quotes: a quote (39) and a backslash (92) behind a backslash, a byte below 32 and 127 by two hexadecimal digits, and each other one as it is
abbrev pub escaped : ℕ → List ℕ
escaped b =
    if b == 39 then codes "\\'"
    else if b == 92 then codes "\\\\"
    else if is_ascii_control b then codes "\\x" ++ encode_lower (b ∷ [])
    else b ∷ []

-- the text of a name
abbrev pub name_text : List ℕ → List ℕ
name_text name = if is_bare name then name else codes "'" ++ flat_map escaped name ++ codes "'"
