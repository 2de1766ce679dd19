-- What an operand may be by its role, and which operand is the first that is not.
use Rattle.std.specs.Prelude.{ℕ, ◌+◌, ◌==◌, ◌&&◌, Bool, true, false, nat_le, if◌then◌else◌, List, [], ◌∷◌, length, Option, Some, None}
use Rattle.std.specs.List.{list_all, filter}
use Rattle.compact_term.specs.declared.operand.Reg.{Reg}
use Rattle.compact_term.specs.declared.operand.Reg.TheVariants as regs
use Rattle.compact_term.specs.declared.operand.Plain.{Plain}
use Rattle.compact_term.specs.declared.operand.Plain.TheVariants as plains
use Rattle.compact_term.specs.declared.operand.Operand.{Operand}
use Rattle.compact_term.specs.declared.operand.Operand.TheVariants as operands
use Rattle.op_table.specs.declared.role.Role.{Role}
use Rattle.op_table.specs.declared.role.Role.TheVariants.{S, D, Y, A, N, R, V, Z, H, M, G, F, FOr0, E, Any, Ls, Ly, Lm, Lp}

-- ---- operands that hold no others

-- a register of those that a function may name
abbrev pub is_named : Reg → Bool
is_named (regs.X n) = nat_le n 1022
is_named (regs.Y n) = nat_le n 1023

abbrev pub is_register : Plain → Bool
is_register (plains.X n) = nat_le n 1022
is_register (plains.Y n) = nat_le n 1023
is_register (plains.Typed reg n) = is_named reg
is_register _ = false

abbrev pub is_slot : Plain → Bool
is_slot (plains.Y n) = nat_le n 1023
is_slot _ = false

-- a value that can be read
abbrev pub is_source : Plain → Bool
is_source (plains.X n) = nat_le n 1022
is_source (plains.Y n) = nat_le n 1023
is_source (plains.Typed reg n) = is_named reg
is_source (plains.I z) = true
is_source (plains.Wide w) = true
is_source (plains.A n) = true
is_source (plains.H n) = true
is_source (plains.Lit n) = true
is_source _ = false

-- each register is one that a function may name
abbrev pub is_bounded : Plain → Bool
is_bounded (plains.X n) = nat_le n 1022
is_bounded (plains.Y n) = nat_le n 1023
is_bounded (plains.Typed reg n) = is_named reg
is_bounded _ = true

abbrev pub is_atom : Plain → Bool
is_atom (plains.A n) = true
is_atom _ = false

abbrev pub is_number : Plain → Bool
is_number (plains.U n) = true
is_number _ = false

-- a number up to the greatest one
abbrev pub is_number_to : ℕ → Plain → Bool
is_number_to greatest (plains.U n) = nat_le n greatest
is_number_to greatest _ = false

abbrev pub is_label_or_none : Plain → Bool
is_label_or_none (plains.F n) = true
is_label_or_none _ = false

abbrev pub is_label : Plain → Bool
is_label (plains.F n) = nat_le 1 n
is_label _ = false

abbrev pub plain_shape : Role → Plain → Bool
plain_shape S p = is_source p
plain_shape D p = is_register p
plain_shape Y p = is_slot p
plain_shape A p = is_atom p
plain_shape N p = is_number_to 4_294_967_295 p
plain_shape R p = is_number_to 255 p
plain_shape V p = is_number_to 1023 p
plain_shape Z p = is_number_to 1024 p
plain_shape H p = is_number_to 4_294_967_295 p
plain_shape M p = is_number p
plain_shape G p = is_number p
plain_shape F p = is_label p
plain_shape FOr0 p = is_label_or_none p
plain_shape E p = is_label p
plain_shape Any p = true
plain_shape Ls p = false
plain_shape Ly p = false
plain_shape Lm p = false
plain_shape Lp p = false

-- ---- lists

-- pairs of members, of which the first and the second have the shape of a role each
abbrev pub in_turn : Role → Role → List Plain → Bool
in_turn first second [] = true
in_turn first second (p ∷ []) = false
in_turn first second (p ∷ q ∷ ps) = plain_shape first p && plain_shape second q && in_turn first second ps

abbrev pub list_shape : Role → List Plain → Bool
list_shape Ls ps = list_all is_bounded ps
list_shape Ly ps = list_all is_slot ps
list_shape Lm ps = in_turn S D ps
list_shape Lp ps = in_turn Any F ps
list_shape Any ps = true
list_shape _ ps = false

-- ---- allocation lists

-- an amount of words, floats or funs, which are the kinds 0, 1 and 2
abbrev pub is_amount : ℕ × ℕ → Bool
is_amount pair = nat_le pair.0 2 && nat_le pair.1 4_294_967_295

-- how many amounts there are of a kind
abbrev pub amounts_of : ℕ → List (ℕ × ℕ) → ℕ
amounts_of kind pairs = length (filter (λ pair. pair.0 == kind) pairs)

-- amounts, of each kind one at most
abbrev pub is_need : List (ℕ × ℕ) → Bool
is_need pairs = list_all is_amount pairs && nat_le (amounts_of 0 pairs) 1 && nat_le (amounts_of 1 pairs) 1 && nat_le (amounts_of 2 pairs) 1

abbrev pub alloc_shape : Role → List (ℕ × ℕ) → Bool
alloc_shape H pairs = is_need pairs
alloc_shape Any pairs = true
alloc_shape _ pairs = false

-- ---- operands

abbrev pub has_shape : Role → Operand → Bool
has_shape role (operands.One p) = plain_shape role p
has_shape role (operands.List ps) = list_shape role ps
has_shape role (operands.Alloc pairs) = alloc_shape role pairs

-- the number of the first operand without its role's shape, where the first operand has this number
abbrev pub misshapen_from : ℕ → List Role → List Operand → Option ℕ
misshapen_from k [] os = None
misshapen_from k (role ∷ roles) [] = None
misshapen_from k (role ∷ roles) (o ∷ os) = if has_shape role o then misshapen_from (k + 1) roles os else Some k

-- operands are counted from 1
abbrev pub misshapen : List Role → List Operand → Option ℕ
misshapen roles os = misshapen_from 1 roles os
