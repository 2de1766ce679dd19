-- The functions of other modules that never return.
use Rattle.std.specs.Prelude.{ℕ, ◌==◌, Bool, false, ◌&&◌, ◌||◌, Option, Some, None, List, codes, slice_get, bytes_eq}
use Rattle.index_tables.specs.Atoms.{atom_called}
use Rattle.index_tables.specs.declared.entry.Import.{Import}
use Rattle.op_table.specs.Instruction.{Instruction}
use Rattle.op_table.specs.Planned.{operand_at, number_in}
use Rattle.beam_module.specs.Module.{ModuleValue}

abbrev pub is_text : Option (List ℕ) → List ℕ → Bool
is_text None wanted = false
is_text (Some text) wanted = bytes_eq text wanted

abbrev pub is_atom_text : List (List ℕ) → ℕ → List ℕ → Bool
is_atom_text atoms n wanted = is_text (atom_called atoms n) wanted

abbrev pub is_error : ModuleValue → Import → Bool
is_error m x = is_atom_text m.atoms x.name (codes "error") && ((x.arity == 1) || (x.arity == 2) || (x.arity == 3))

abbrev pub is_exit_or_throw : ModuleValue → Import → Bool
is_exit_or_throw m x = (is_atom_text m.atoms x.name (codes "exit") || is_atom_text m.atoms x.name (codes "throw")) && (x.arity == 1)

-- erlang:error/1, erlang:error/2, erlang:error/3, erlang:exit/1 and erlang:throw/1
abbrev pub never_returns : ModuleValue → Import → Bool
never_returns m x = is_atom_text m.atoms x.module (codes "erlang") && (is_error m x || is_exit_or_throw m x)

abbrev pub import_ends : ModuleValue → Option Import → Bool
import_ends m None = false
import_ends m (Some x) = never_returns m x

-- the second operand of a call of another module is the number of its import; plans of other instructions do not ask
abbrev pub ends : ModuleValue → Instruction → Bool
ends m i = import_ends m (slice_get m.imports (number_in (operand_at i.operands 2)))
