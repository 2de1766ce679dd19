-- Small modules, and that a run of one is stuck where the machine is misused.
use Rattle.std.specs.Prelude.{◌≡◌, ℕ, ◌+◌, Some, List, [], ◌∷◌, ◌++◌, codes}
use Rattle.compact_term.specs.declared.operand.Plain.TheVariants.{A, X, Y}
use Rattle.op_table.specs.Instruction.{Instruction}
use Rattle.func_split.specs.Functions.{IsSplit, Piece}
use Rattle.beam_module.specs.Module.{ModuleValue}
use Rattle.action_rules.specs.declared.reason.Reason.{Reason}
use Rattle.flow_rules.specs.Assembly.{func_info, int_code_end, label, allocate, deallocate, return, try, try_end, try_case, call, test_heap, badmatch, call_ext_only, call_only, move, allocate_heap}
use Rattle.flow_rules.specs.Machine.{Machine, stop}
use Rattle.flow_rules.specs.Runs.{IsRun}

-- ---- modules

-- the function whose first instruction stands at this place with this label, whose entry label is the next number, and whose body begins three places on
abbrev pub function_from : ℕ → ℕ → ℕ → List Instruction → Piece
function_from first number arity body = record {
  first = first;
  instrs = label number ∷ func_info arity ∷ label (number + 1) ∷ body;
  entry = 2;
  name = 2;
  arity = arity;
}

abbrev pub code_of : List Piece → List Instruction
code_of [] = int_code_end ∷ []
code_of (f ∷ functions) = f.instrs ++ code_of functions

-- the module m with these functions, whose labels are numbered below the label count, one import and one fun
abbrev pub module_of : List Piece → ℕ → ModuleValue
module_of functions labels = record {
  form = [];
  atoms = codes "m" ∷ codes "f" ∷ [];
  code = record { instrs = code_of functions; labels = labels; functions = functions };
  imports = record { «module» = 1; name = 2; arity = 1 } ∷ [];
  funs = record { name = 2; arity = 1; label = 2; index = 0; free = 0; unique = 0 } ∷ [];
  literals = Some 0;
}

-- the function, whose body begins at place 3
abbrev pub function_with : ℕ → List Instruction → Piece
function_with arity body = function_from 0 1 arity body

-- the module m with the function f of this arity and body alone
abbrev pub module_with : ℕ → List Instruction → ℕ → ModuleValue
module_with arity body labels = module_of (function_with arity body ∷ []) labels

-- a call whose result and whose raise both come back to a handler at label 3, which stands at place 9
abbrev pub guarded_call : ℕ → List Instruction
guarded_call label_of = allocate 1 1 ∷ try 0 3 ∷ call 1 label_of ∷ try_end 0 ∷ deallocate 1 ∷ return ∷ label 3 ∷ try_case 0 ∷ deallocate 1 ∷ return ∷ []

-- the call at place 5 keeps x1 in its frame, and what is called, from place 8, returns what it writes to x0
abbrev pub calling : ModuleValue
calling = module_of (
    function_from 0 1 2 (allocate_heap 1 2 2 ∷ move (X 1) (Y 0) ∷ call 2 4 ∷ deallocate 1 ∷ return ∷ [])
    ∷ function_from 8 3 2 (move (A 1) (X 0) ∷ return ∷ [])
    ∷ []) 5

-- what is called at place 4 calls the last function in place of itself
abbrev pub tail_calling : ModuleValue
tail_calling = module_of (
    function_from 0 1 1 (allocate 0 1 ∷ call 1 4 ∷ deallocate 0 ∷ return ∷ [])
    ∷ function_from 7 3 1 (call_only 1 6 ∷ [])
    ∷ function_from 11 5 1 (return ∷ [])
    ∷ []) 7

-- what raises is called by what has no handler, and that by what has one
abbrev pub raising : ModuleValue
raising = module_of (
    function_from 0 1 1 (guarded_call 5)
    ∷ function_from 13 4 1 (allocate 0 1 ∷ call 1 7 ∷ deallocate 0 ∷ return ∷ [])
    ∷ function_from 20 6 1 (test_heap 2 1 ∷ badmatch (X 0) ∷ [])
    ∷ []) 8

-- what is called raises, and nothing has a handler
abbrev pub failing : ModuleValue
failing = module_of (
    function_from 0 1 1 (allocate 0 1 ∷ call 1 4 ∷ deallocate 0 ∷ return ∷ [])
    ∷ function_from 7 3 1 (badmatch (X 0) ∷ [])
    ∷ []) 5

-- what is called calls outside in place of itself
abbrev pub leaving : ModuleValue
leaving = module_of (
    function_from 0 1 1 (guarded_call 5)
    ∷ function_from 13 4 1 (call_ext_only 1 0 ∷ [])
    ∷ []) 6

-- ---- runs

-- the code is split as it has to be, and the last state of a run stands at the place and is stuck for this reason
pub record Meets (m : ModuleValue) (place : ℕ) (why : Reason) : Type 0 where
  pub split : IsSplit m.code.labels m.code.instrs m.code.functions
  pub front : List Machine
  pub last : Machine
  pub is_run : IsRun m (front ++ last ∷ [])
  pub place_is : last.place ≡ place
  pub is_stuck : stop m last ≡ Some why
