-- The instructions of small modules.
use Rattle.std.specs.Prelude.{ℕ, List, [], ◌∷◌, map}
use Rattle.compact_term.specs.declared.operand.Plain.{Plain}
use Rattle.compact_term.specs.declared.operand.Plain.TheVariants.{U, A, Y, F}
use Rattle.compact_term.specs.declared.operand.Operand.TheVariants as operands
use Rattle.compact_term.specs.declared.operand.Operand.TheVariants.{One}
use Rattle.op_table.specs.Instruction.{Instruction}

abbrev pub label : ℕ → Instruction
label number = record { op = 1; operands = One (U number) ∷ [] }

-- the atoms are those of the module and of the function
abbrev pub func_info : ℕ → Instruction
func_info arity = record { op = 2; operands = One (A 1) ∷ One (A 2) ∷ One (U arity) ∷ [] }

abbrev pub int_code_end : Instruction
int_code_end = record { op = 3; operands = [] }

abbrev pub allocate : ℕ → ℕ → Instruction
allocate slots live = record { op = 12; operands = One (U slots) ∷ One (U live) ∷ [] }

abbrev pub deallocate : ℕ → Instruction
deallocate slots = record { op = 18; operands = One (U slots) ∷ [] }

abbrev pub return : Instruction
return = record { op = 19; operands = [] }

abbrev pub move : Plain → Plain → Instruction
move source target = record { op = 64; operands = One source ∷ One target ∷ [] }

abbrev pub put_list : Plain → Plain → Plain → Instruction
put_list head tail target = record { op = 69; operands = One head ∷ One tail ∷ One target ∷ [] }

abbrev pub try : ℕ → ℕ → Instruction
try slot handler = record { op = 104; operands = One (Y slot) ∷ One (F handler) ∷ [] }

abbrev pub try_end : ℕ → Instruction
try_end slot = record { op = 105; operands = One (Y slot) ∷ [] }

-- of this opcode, with these operands
abbrev pub made : ℕ → List Plain → Instruction
made op operands = record { op = op; operands = map One operands }

abbrev pub call : ℕ → ℕ → Instruction
call arity target = made 4 (U arity ∷ F target ∷ [])

abbrev pub call_only : ℕ → ℕ → Instruction
call_only arity target = made 6 (U arity ∷ F target ∷ [])

-- the number is that of an import
abbrev pub call_ext : ℕ → ℕ → Instruction
call_ext arity number = made 7 (U arity ∷ U number ∷ [])

abbrev pub call_ext_only : ℕ → ℕ → Instruction
call_ext_only arity number = made 78 (U arity ∷ U number ∷ [])

abbrev pub gc_bif1 : ℕ → ℕ → ℕ → Plain → Plain → Instruction
gc_bif1 handler live number source target = made 124 (F handler ∷ U live ∷ U number ∷ source ∷ target ∷ [])

abbrev pub allocate_heap : ℕ → ℕ → ℕ → Instruction
allocate_heap slots words live = made 13 (U slots ∷ U words ∷ U live ∷ [])

-- this one is not validated
abbrev pub allocate_zero : ℕ → ℕ → Instruction
allocate_zero slots live = made 14 (U slots ∷ U live ∷ [])

abbrev pub test_heap : ℕ → ℕ → Instruction
test_heap words live = made 16 (U words ∷ U live ∷ [])

abbrev pub jump : ℕ → Instruction
jump target = made 61 (F target ∷ [])

abbrev pub catch : ℕ → ℕ → Instruction
catch slot handler = made 62 (Y slot ∷ F handler ∷ [])

abbrev pub catch_end : ℕ → Instruction
catch_end slot = made 63 (Y slot ∷ [])

abbrev pub badmatch : Plain → Instruction
badmatch source = made 72 (source ∷ [])

abbrev pub try_case : ℕ → Instruction
try_case slot = made 106 (Y slot ∷ [])

abbrev pub trim : ℕ → ℕ → Instruction
trim slots remaining = made 136 (U slots ∷ U remaining ∷ [])

abbrev pub get_hd : Plain → Plain → Instruction
get_hd source target = made 162 (source ∷ target ∷ [])

abbrev pub swap : Plain → Plain → Instruction
swap left right = made 169 (left ∷ right ∷ [])

-- pairs of a value and a label
abbrev pub select_val : Plain → ℕ → List Plain → Instruction
select_val source otherwise pairs = record { op = 59; operands = One source ∷ One (F otherwise) ∷ operands.List pairs ∷ [] }

abbrev pub make_fun3 : ℕ → Plain → Instruction
make_fun3 number target = record { op = 171; operands = One (U number) ∷ One target ∷ operands.List [] ∷ [] }
