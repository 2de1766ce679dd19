-- The text of a table of literals.
use Rattle.std.specs.Prelude.{ℕ, List, ◌++◌, codes, decimal, Option, Some, None, Result, Ok}
use Rattle.hex.specs.Hex.{encode_lower}
use Rattle.ext_term.specs.declared.term.Term.{Term}
use Rattle.ext_term.specs.Text.{term_text}
use Rattle.side_tables.specs.declared.literals.Literals.{Literals}
use Rattle.side_tables.specs.declared.literals.Literals.TheVariants.{Plain, Packed}
use Rattle.side_tables.specs.Literal.{PlainLiteral}
use Rattle.bk_text.specs.Lines.{numbered_lines}
use Rattle.bk_codec.specs.Reading.{◌>>=◌}
use Rattle.side_tables.specs.declared.refusal.SideRefusal.{SideRefusal}
use Rattle.side_tables.specs.LiteralReading.{literals_of}

-- a term, or else bytes in hexadecimal
abbrev pub term_or_bytes : Option Term → List ℕ → List ℕ
term_or_bytes (Some t) bytes = term_text t
term_or_bytes None bytes = codes "bytes " ++ encode_lower bytes

-- N TERM, or N bytes HEX
abbrev pub literal_line : ℕ → PlainLiteral → List ℕ
literal_line n l = decimal n ++ codes " " ++ term_or_bytes l.term l.bytes ++ codes "\n"

-- the literals, whose numbers go up from 0, or the one line `packed`
abbrev pub literals_text : Literals → List ℕ
literals_text (Plain ls) = numbered_lines 0 literal_line ls
literals_text Packed = codes "packed\n"

-- the text of the table that a payload is, or the payload's refusal
abbrev pub literals_shown : List ℕ → Result (List ℕ) SideRefusal
literals_shown bytes = literals_of bytes >>= λ l. Ok (literals_text l)
