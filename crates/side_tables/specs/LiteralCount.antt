-- How many literals a table has.
use Rattle.std.specs.Prelude.{ℕ, List, length, Option, Some, None, Result, Ok}
use Rattle.bk_codec.specs.Reading.{◌>>=◌}
use Rattle.side_tables.specs.declared.literals.Literals.{Literals}
use Rattle.side_tables.specs.declared.literals.Literals.TheVariants.{Plain, Packed}
use Rattle.side_tables.specs.declared.refusal.SideRefusal.{SideRefusal}
use Rattle.side_tables.specs.LiteralReading.{literals_of}

-- packed ones do not tell
abbrev pub literal_count : Literals → Option ℕ
literal_count (Plain literals) = Some (length literals)
literal_count Packed = None

-- the count of the table that a payload is, or the payload's refusal
abbrev pub literals_counted : List ℕ → Result (Option ℕ) SideRefusal
literals_counted bytes = literals_of bytes >>= λ literals. Ok (literal_count literals)
