-- The code of a generated module: functions that walk a list and call one another in a ring.
use Rattle.std.specs.Prelude.{ℕ, zero, suc, ◌+◌, ◌*◌, ◌==◌, if◌then◌else◌, List, [], ◌∷◌, ◌++◌, map}
use Rattle.compact_term.specs.declared.operand.Plain.{Plain}
use Rattle.compact_term.specs.declared.operand.Plain.TheVariants.{A, F, U, X, Y}
use Rattle.compact_term.specs.declared.operand.Operand.TheVariants.{One}
use Rattle.op_table.specs.Instruction.{Instruction}
use Rattle.code_chunk.specs.declared.code.CodeVal.{CodeVal}
use Rattle.func_split.specs.Functions.{Piece, SplitValue}

abbrev pub instr : ℕ → List Plain → Instruction
instr op operands = record { op = op; operands = map One operands }

-- the function that function i of n calls, both counted from 0: the next one, and the first behind the last
abbrev pub callee : ℕ → ℕ → ℕ
callee n i = if suc i == n then 0 else suc i

-- function i of n, counted from 0, which takes a list: for each item of it another function is called with the rest; it has four labels, the second of which is its entry label
abbrev pub function_of : ℕ → ℕ → List Instruction
function_of n i =
    instr 1 (U (4 * i + 1) ∷ [])  -- label
    ∷ instr 2 (A 1 ∷ A (i + 2) ∷ U 1 ∷ [])  -- func_info
    ∷ instr 1 (U (4 * i + 2) ∷ [])  -- label
    ∷ instr 12 (U 1 ∷ U 1 ∷ [])  -- allocate
    ∷ instr 64 (X 0 ∷ Y 0 ∷ [])  -- move
    ∷ instr 1 (U (4 * i + 3) ∷ [])  -- label
    ∷ instr 56 (F (4 * i + 4) ∷ Y 0 ∷ [])  -- is_nonempty_list
    ∷ instr 163 (Y 0 ∷ Y 0 ∷ [])  -- get_tl
    ∷ instr 64 (Y 0 ∷ X 0 ∷ [])  -- move
    ∷ instr 4 (U 1 ∷ F (4 * callee n i + 2) ∷ [])  -- call
    ∷ instr 61 (F (4 * i + 3) ∷ [])  -- jump
    ∷ instr 1 (U (4 * i + 4) ∷ [])  -- label
    ∷ instr 16 (U 2 ∷ U 0 ∷ [])  -- test_heap
    ∷ instr 69 (Y 0 ∷ A 0 ∷ X 0 ∷ [])  -- put_list
    ∷ instr 18 (U 1 ∷ [])  -- deallocate
    ∷ instr 19 []  -- return
    ∷ []

-- the first k functions of n
abbrev pub functions_of : ℕ → ℕ → List Instruction
functions_of n zero = []
functions_of n (suc k) = functions_of n k ++ function_of n k

-- n functions, and then one `int_code_end`
abbrev pub instrs_of : ℕ → List Instruction
instrs_of n = functions_of n n ++ instr 3 [] ∷ []

abbrev pub code_of : ℕ → CodeVal
code_of n = record { extra = []; max_op = 163; labels = 4 * n + 1; functions = n; instrs = instrs_of n }

-- ---- how the code splits into functions

abbrev pub piece_of : ℕ → ℕ → Piece
piece_of n i = record { first = 16 * i; instrs = function_of n i; entry = 2; name = i + 2; arity = 1 }

abbrev pub pieces_of : ℕ → ℕ → List Piece
pieces_of n zero = []
pieces_of n (suc k) = pieces_of n k ++ piece_of n k ∷ []

abbrev pub split_of : ℕ → SplitValue
split_of n = record { instrs = instrs_of n; labels = 4 * n + 1; functions = pieces_of n n }
