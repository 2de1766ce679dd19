-- Bytes in hexadecimal, two digits each, in lower case.
use Rattle.std.specs.Prelude.{ℕ, List, Option, None, if◌then◌else◌}
use Rattle.std.specs.Char.{is_ascii_uppercase}
use Rattle.std.specs.List.{list_any}
use Rattle.std.specs.Result.{result_ok}
use Rattle.hex.specs.Hex.{decode_of}

abbrev pub bytes_of : List ℕ → Option (List ℕ)
bytes_of text = if list_any is_ascii_uppercase text then None else result_ok (decode_of text)
