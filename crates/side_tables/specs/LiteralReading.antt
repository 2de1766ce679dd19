-- How a table of literals is read from the left, and which refusal comes first.
use Rattle.std.specs.Prelude.{ℕ, ◌==◌, List, if◌then◌else◌, Option, Result, Ok}
use Rattle.std.specs.Result.{result_ok}
use Rattle.bk_codec.specs.Reading.{◌>>=◌, made_of, bytes_at, many_at, ended}
use Rattle.ext_term.specs.declared.term.Term.{Term}
use Rattle.ext_term.specs.Reading.{term_of}
use Rattle.side_tables.specs.declared.literals.Literals.{Literals}
use Rattle.side_tables.specs.declared.literals.Literals.TheVariants.{Plain, Packed}
use Rattle.side_tables.specs.declared.refusal.SideRefusal.{SideRefusal}
use Rattle.side_tables.specs.declared.refusal.SideRefusal.TheVariants.{Cut, Rest}
use Rattle.side_tables.specs.Literal.{PlainLiteral}
use Rattle.side_tables.specs.Words.{word_at}

-- the term that bytes are; every refusal of them as a term leaves them without one
abbrev pub term_in : List ℕ → Option Term
term_in bytes = result_ok (term_of bytes)

abbrev pub literal_of : List ℕ → PlainLiteral
literal_of bytes = record { bytes = bytes; term = term_in bytes }

-- a word with a number of bytes, and so many bytes
abbrev pub sized_at : List ℕ → Result (List ℕ × List ℕ) SideRefusal
sized_at bytes = word_at bytes >>= λ size. bytes_at Cut size.0 size.1

abbrev pub literal_at : List ℕ → Result (PlainLiteral × List ℕ) SideRefusal
literal_at bytes = made_of literal_of (sized_at bytes)

-- a word with a number of literals, and so many literals
unfoldable pub literals_at : List ℕ → Result (List PlainLiteral × List ℕ) SideRefusal
literals_at bytes = word_at bytes >>= λ count. many_at literal_at count.0 count.1

-- the table that all of the bytes are, or the first refusal; behind a first word other than 0 nothing is looked at
unfoldable pub literals_of : List ℕ → Result Literals SideRefusal
literals_of bytes =
    word_at bytes >>= λ first.
    if first.0 == 0 then (ended Rest (literals_at first.1) >>= λ ls. Ok (Plain ls)) else Ok Packed
