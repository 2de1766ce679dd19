-- How the text of an operand is read: by its first byte.
use Rattle.std.specs.Prelude.{ℕ, ◌^◌, ◌==◌, nat_le, if◌then◌else◌, List, [], ◌∷◌, length, drop, slice_index, Option, Some, None}
use Rattle.std.specs.Option.{option_map, option_and_then}
use Rattle.bk_parse.specs.Parts.{parts_at, all_of}
use Rattle.bk_parse.specs.Numbers.{number_of, signed_of}
use Rattle.bk_parse.specs.HexBytes.{bytes_of}
use Rattle.compact_term.specs.declared.operand.Reg.{Reg}
use Rattle.compact_term.specs.declared.operand.Reg.TheVariants as regs
use Rattle.compact_term.specs.declared.operand.Plain.{Plain}
use Rattle.compact_term.specs.declared.operand.Plain.TheVariants as plains
use Rattle.compact_term.specs.declared.operand.Operand.{Operand}
use Rattle.compact_term.specs.declared.operand.Operand.TheVariants as operands

-- ---- operands that hold no others

-- `x` or `y`, and a number
abbrev pub register_of : List ℕ → Option Reg
register_of [] = None
register_of (mark ∷ text) =
    if mark == 120 then option_map regs.X (number_of (2 ^ 32) text)
    else if mark == 121 then option_map regs.Y (number_of (2 ^ 32) text) else None

abbrev pub plain_register : Reg → Plain
plain_register (regs.X n) = plains.X n
plain_register (regs.Y n) = plains.Y n

-- a register, alone or before the number of its type
abbrev pub register_in : List (List ℕ) → Option Plain
register_in (register ∷ []) = option_map plain_register (register_of register)
register_in (register ∷ type ∷ []) = option_and_then (λ r. option_map (plains.Typed r) (number_of (2 ^ 64) type)) (register_of register)
register_in _ = None

-- behind `f`: the number of a label, or `r` and that of a float register
abbrev pub label_or_float : List ℕ → Option Plain
label_or_float text =
    if slice_index text 0 == 114 then option_map plains.Fr (number_of (2 ^ 64) (drop 1 text)) else option_map plains.F (number_of (2 ^ 32) text)

-- 17 bytes or more
abbrev pub wide_of : List ℕ → Option Plain
wide_of bytes = if nat_le 17 (length bytes) then Some (plains.Wide bytes) else None

-- the marks are `u`, `i`, `w`, `a`, `f`, `h` and `l`
abbrev pub plain_of : List ℕ → Option Plain
plain_of [] = None
plain_of (mark ∷ text) =
    if mark == 117 then option_map plains.U (number_of (2 ^ 64) text)
    else if mark == 105 then option_map plains.I (signed_of text)
    else if mark == 119 then option_and_then wide_of (bytes_of text)
    else if mark == 97 then option_map plains.A (number_of (2 ^ 32) text)
    else if mark == 102 then label_or_float text
    else if mark == 104 then option_map plains.H (number_of (2 ^ 32) text)
    else if mark == 108 then option_map plains.Lit (number_of (2 ^ 64) text)
    else register_in (parts_at 47 (mark ∷ text))

-- ---- lists

-- a kind and an amount, with a colon between them
abbrev pub pair_in : List (List ℕ) → Option (ℕ × ℕ)
pair_in (kind ∷ amount ∷ []) = option_and_then (λ k. option_map (λ n. (k, n)) (number_of (2 ^ 64) amount)) (number_of (2 ^ 64) kind)
pair_in _ = None

abbrev pub pair_of : List ℕ → Option (ℕ × ℕ)
pair_of text = pair_in (parts_at 58 text)

-- what stands before the last byte, which is this one
abbrev pub closed_by : ℕ → List ℕ → Option (List ℕ)
closed_by last [] = None
closed_by last (b ∷ []) = if b == last then Some [] else None
closed_by last (b ∷ c ∷ text) = option_map (λ inner. b ∷ inner) (closed_by last (c ∷ text))

-- members with a comma between each two, or no text for none
abbrev pub members_of : {A : Type 0} → (List ℕ → Option A) → List ℕ → Option (List A)
members_of read [] = Some []
members_of read (b ∷ text) = all_of read (parts_at 44 (b ∷ text))

-- lists stand in brackets, and pairs in braces
abbrev pub operand_of : List ℕ → Option Operand
operand_of [] = None
operand_of (mark ∷ text) =
    if mark == 91 then option_map operands.List (option_and_then (members_of plain_of) (closed_by 93 text))
    else if mark == 123 then option_map operands.Alloc (option_and_then (members_of pair_of) (closed_by 125 text))
    else option_map operands.One (plain_of (mark ∷ text))
