-- The text of an operand: a mark of its kind, and its number in decimal.
use Rattle.std.specs.Prelude.{ℕ, List, ◌++◌, codes, decimal}
use Rattle.std.specs.Fmt.{signed_decimal}
use Rattle.std.specs.List.{join_by}
use Rattle.hex.specs.Hex.{encode_lower}
use Rattle.compact_term.specs.declared.operand.Reg.{Reg}
use Rattle.compact_term.specs.declared.operand.Reg.TheVariants as regs
use Rattle.compact_term.specs.declared.operand.Plain.{Plain}
use Rattle.compact_term.specs.declared.operand.Plain.TheVariants as plains
use Rattle.compact_term.specs.declared.operand.Operand.{Operand}
use Rattle.compact_term.specs.declared.operand.Operand.TheVariants as operands

abbrev pub register_text : Reg → List ℕ
register_text (regs.X n) = codes "x" ++ decimal n
register_text (regs.Y n) = codes "y" ++ decimal n

-- an integer of 17 bytes or more by its bytes, and a typed register with its type behind a slash
abbrev pub plain_text : Plain → List ℕ
plain_text (plains.U n) = codes "u" ++ decimal n
plain_text (plains.I z) = codes "i" ++ signed_decimal z
plain_text (plains.Wide bytes) = codes "w" ++ encode_lower bytes
plain_text (plains.A n) = codes "a" ++ decimal n
plain_text (plains.X n) = codes "x" ++ decimal n
plain_text (plains.Y n) = codes "y" ++ decimal n
plain_text (plains.F n) = codes "f" ++ decimal n
plain_text (plains.H n) = codes "h" ++ decimal n
plain_text (plains.Fr n) = codes "fr" ++ decimal n
plain_text (plains.Lit n) = codes "l" ++ decimal n
plain_text (plains.Typed r n) = register_text r ++ codes "/" ++ decimal n

-- a kind and an amount
abbrev pub pair_text : ℕ × ℕ → List ℕ
pair_text p = decimal p.0 ++ codes ":" ++ decimal p.1

-- members and pairs with a comma between each two
abbrev pub operand_text : Operand → List ℕ
operand_text (operands.One p) = plain_text p
operand_text (operands.List members) = codes "[" ++ join_by plain_text (codes ",") members ++ codes "]"
operand_text (operands.Alloc pairs) = codes "{" ++ join_by pair_text (codes ",") pairs ++ codes "}"
