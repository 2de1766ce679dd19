-- How the id of a chunk is read from its text.
use Rattle.std.specs.Prelude.{◌≡◌, ℕ, ◌==◌, ◌&&◌, not, if◌then◌else◌, List, [], ◌∷◌, length, Option, Some, None}
use Rattle.std.specs.Option.{option_and_then}
use Rattle.bk_codec.specs.Spelling.{IsBytes}
use Rattle.bk_parse.specs.HexBytes.{bytes_of}
use Rattle.iff_form.specs.declared.id.Id.{Id}
use Rattle.iff_form.specs.Text.{is_plain_id}

abbrev pub id_with : List ℕ → Id
id_with bytes = record { 0 = bytes }

-- four letters or digits
abbrev pub plain_id : List ℕ → Option Id
plain_id text = if (length text == 4) && is_plain_id (id_with text) then Some (id_with text) else None

-- four bytes of which not all are letters or digits
abbrev pub other_id : List ℕ → Option Id
other_id bytes = if (length bytes == 4) && not (is_plain_id (id_with bytes)) then Some (id_with bytes) else None

-- four letters or digits, or else `#` and the digits of the four bytes
abbrev pub id_of : List ℕ → Option Id
id_of [] = None
id_of (mark ∷ text) = if mark == 35 then option_and_then other_id (bytes_of text) else plain_id (mark ∷ text)

-- an id has four bytes
abbrev pub IsFourBytes : Id → Type 0
IsFourBytes id = (length id.0 ≡ 4) × IsBytes id.0
