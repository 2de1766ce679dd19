-- How a table of literals is spelled as bytes.
use Rattle.std.specs.Prelude.{◌≡◌, ◌↔◌, List, ℕ, Option, Some}
use Rattle.bk_codec.specs.Spelling.{Then, SpellsWord, SpellsCounted, SpellsBytes}
use Rattle.ext_term.specs.declared.term.Term.{Term}
use Rattle.ext_term.specs.Spelling.{SpellsTermFile}
use Rattle.side_tables.specs.declared.literals.Literals.{Literals}
use Rattle.side_tables.specs.declared.literals.Literals.TheVariants.{Plain, Packed}
use Rattle.side_tables.specs.Words.{BeginsNonzero}
use Rattle.side_tables.specs.Literal.{PlainLiteral}

-- the term that bytes are a spelling of, and none where they are no term's
abbrev pub IsTermOf : List ℕ → Option Term → Type 0
IsTermOf bytes term = (t : Term) → (term ≡ Some t) ↔ SpellsTermFile t bytes

-- a literal: a word with the number of its bytes, and the bytes; its term is theirs
pub record SpellsLiteral (l : PlainLiteral) (bytes : List ℕ) : Type 0 where
  pub spelled : SpellsBytes 4 l.bytes bytes
  pub term_is : IsTermOf l.bytes l.term

-- the word 0, a word with the number of the literals, and the literals
abbrev pub SpellsPlain : List PlainLiteral → List ℕ → Type 0
SpellsPlain ls = Then (SpellsWord 0) (SpellsCounted SpellsLiteral ls)

-- plain literals, or a table that is packed
abbrev pub SpellsLiterals : Literals → List ℕ → Type 0
SpellsLiterals (Plain ls) bytes = SpellsPlain ls bytes
SpellsLiterals Packed bytes = BeginsNonzero bytes
