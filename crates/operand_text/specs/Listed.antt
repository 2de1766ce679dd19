-- Which operands have a text that is read back.
use Rattle.std.specs.Prelude.{All}
use Rattle.compact_term.specs.Operand.{PairMeetsType, PlainIsProper, PlainMeetsType}
use Rattle.compact_term.specs.declared.operand.Plain.{Plain}
use Rattle.compact_term.specs.declared.operand.Operand.{Operand}
use Rattle.compact_term.specs.declared.operand.Operand.TheVariants as operands

-- each number is in the range of its type, and a wide integer has 17 bytes or more
abbrev pub PlainIsListed : Plain → Type 0
PlainIsListed p = PlainMeetsType p × PlainIsProper p

abbrev pub IsListed : Operand → Type 0
IsListed (operands.One p) = PlainIsListed p
IsListed (operands.List ps) = All PlainIsListed ps
IsListed (operands.Alloc ps) = All PairMeetsType ps
