-- The text of a table of lines.
use Rattle.std.specs.Prelude.{ℕ, ℤ, List, ◌++◌, codes, decimal}
use Rattle.std.specs.Fmt.{signed_decimal}
use Rattle.ext_term.specs.Name.{name_text}
use Rattle.bk_text.specs.Lines.{numbered_lines}
use Rattle.side_tables.specs.declared.lines.Lines.{Lines}

-- N FILE:LINE
abbrev pub place_line : ℕ → ℕ × ℤ → List ℕ
place_line n p = decimal n ++ codes " " ++ decimal p.0 ++ codes ":" ++ signed_decimal p.1 ++ codes "\n"

-- file N NAME
abbrev pub file_line : ℕ → List ℕ → List ℕ
file_line n name = codes "file " ++ decimal n ++ codes " " ++ name_text name ++ codes "\n"

-- the number of line instructions, the places and the file names
abbrev pub lines_text : Lines → List ℕ
lines_text l =
    codes "instructions " ++ decimal l.instructions ++ codes "\n"
    ++ numbered_lines 1 place_line l.lines
    ++ numbered_lines 1 file_line l.files
