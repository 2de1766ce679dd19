-- What numbers and labels in operands name: atoms, literals, imports, funs, labels of the function, entries of functions.
use Rattle.std.specs.Prelude.{ℕ, ◌==◌, nat_lt, nat_le, Bool, true, false, ◌&&◌, Option, Some, None, length, slice_get}
use Rattle.std.specs.List.{list_all, list_any}
use Rattle.compact_term.specs.declared.operand.Plain.{Plain}
use Rattle.compact_term.specs.declared.operand.Plain.TheVariants as plains
use Rattle.compact_term.specs.declared.operand.Operand.{Operand}
use Rattle.compact_term.specs.declared.operand.Operand.TheVariants as operands
use Rattle.op_table.specs.declared.role.Role.{Role}
use Rattle.op_table.specs.declared.role.Role.TheVariants as roles
use Rattle.op_table.specs.Planned.{label_in}
use Rattle.op_table.specs.Rules.{own_labels_of}
use Rattle.func_split.specs.declared.mark.Mark.{Mark}
use Rattle.func_split.specs.Marks.{marks_of}
use Rattle.func_split.specs.Faults.{has_label, is_label}
use Rattle.func_split.specs.Functions.{Piece}
use Rattle.beam_module.specs.Module.{ModuleValue}

-- ---- tables

-- packed literals do not tell how many they are
abbrev pub is_literal : Option ℕ → ℕ → Bool
is_literal None n = true
is_literal (Some count) n = nat_lt n count

-- atoms are counted from 1, and 0 is the empty list
abbrev pub is_named : ModuleValue → Plain → Bool
is_named m (plains.A n) = nat_le n (length m.atoms)
is_named m (plains.Lit n) = is_literal m.literals n
is_named m _ = true

abbrev pub is_number_in : ℕ → Plain → Bool
is_number_in count (plains.U n) = nat_lt n count
is_number_in count _ = true

abbrev pub is_entry_in : ModuleValue → Role → Plain → Bool
is_entry_in m roles.M p = is_number_in (length m.imports) p
is_entry_in m roles.G p = is_number_in (length m.funs) p
is_entry_in m _ p = true

abbrev pub names_entries : ModuleValue → Role → Operand → Bool
names_entries m role (operands.One p) = is_named m p && is_entry_in m role p
names_entries m role (operands.List ps) = list_all (is_named m) ps
names_entries m role (operands.Alloc pairs) = true

-- whatever stands where any operand may is not looked at
abbrev pub is_indexed : ModuleValue → Role → Operand → Bool
is_indexed m roles.Any o = true
is_indexed m role o = names_entries m role o

-- ---- labels

-- the label stands in the function
abbrev pub is_own : Piece → ℕ → Bool
is_own f label = has_label label (marks_of f.instrs)

abbrev pub names_own : Piece → Role → Operand → Bool
names_own f role o = list_all (is_own f) (own_labels_of role o)

abbrev pub is_label_of : ℕ → Option Mark → Bool
is_label_of label (Some mark) = is_label label mark
is_label_of label None = false

-- a function of this arity is entered at the label
abbrev pub is_entered : ℕ → ℕ → Piece → Bool
is_entered label arity f = is_label_of label (slice_get (marks_of f.instrs) f.entry) && (f.arity == arity)

abbrev pub is_target : ModuleValue → ℕ → ℕ → Bool
is_target m label arity = list_any (is_entered label arity) m.code.functions

abbrev pub names_target : ModuleValue → ℕ → Role → Operand → Bool
names_target m arity roles.E o = is_target m (label_in (Some o)) arity
names_target m arity _ o = true
