-- What a function is, and how the instructions of a module are made of functions.
use Rattle.std.specs.Prelude.{◌≡◌, ⊤, ℕ, ◌+◌, ◌<◌, ◌≤◌, Some, None, List, [], ◌∷◌, ◌++◌, length, replicate, slice_get}
use Rattle.std.specs.List.{AllByRecursion}
use Rattle.op_table.specs.Instruction.{Instruction}
use Rattle.func_split.specs.declared.mark.Mark.{Mark}
use Rattle.func_split.specs.declared.mark.Mark.TheVariants as marks
use Rattle.func_split.specs.Marks.{IsLabelAt, marks_of}

-- the most instructions of a function
abbrev pub size_limit : ℕ
size_limit = 200000

-- a function: the place of its first instruction in the code, its instructions, the place of its entry label in them, the atom of its name, its arity
pub record Piece : Type 0 where
  pub first : ℕ
  pub instrs : List Instruction
  pub entry : ℕ
  pub name : ℕ
  pub arity : ℕ

-- a body has no `func_info`, no `int_code_end`, and no `label` without a number
abbrev pub IsInBody : Mark → Type 0
IsInBody (marks.Label (Some number)) = ⊤
IsInBody (marks.Label None) = ⊥
IsInBody marks.Line = ⊤
IsInBody (marks.Func head) = ⊥
IsInBody marks.Close = ⊥
IsInBody marks.Other = ⊤

-- a label, any number of `line`, a `func_info`, the entry label, and a body
pub record IsFunction (f : Piece) : Type 0 where
  pub label : ℕ
  pub lines : ℕ
  pub entry_label : ℕ
  pub body : List Mark
  pub marks : marks_of f.instrs ≡ marks.Label (Some label) ∷ (replicate lines marks.Line ++ marks.Func (Some (f.name, f.arity)) ∷ marks.Label (Some entry_label) ∷ body)
  pub entry : f.entry ≡ 2 + lines
  pub body_is : AllByRecursion IsInBody body
  pub size : length f.instrs ≤ size_limit

-- from this place on, the code is these functions one behind another, and then one `int_code_end`
abbrev pub AreFrom : ℕ → List Piece → List Instruction → Type 0
AreFrom place [] code = marks_of code ≡ marks.Close ∷ []
AreFrom place (f ∷ functions) code = (f.first ≡ place) × ((rest : List Instruction) × (code ≡ f.instrs ++ rest) × AreFrom (place + length f.instrs) functions rest)

-- the code is these functions; its labels are numbered from 1 to below the label count, and no two alike
pub record IsSplit (labels : ℕ) (code : List Instruction) (functions : List Piece) : Type 0 where
  pub pieces : AreFrom 0 functions code
  pub each : AllByRecursion IsFunction functions
  pub range : (place number : ℕ) → IsLabelAt (marks_of code) place number → (0 < number) × (number < labels)
  pub once : (place other number : ℕ) → IsLabelAt (marks_of code) place number → IsLabelAt (marks_of code) other number → place ≡ other

-- function i stands in the code: before it stand no fewer instructions than functions, it ends before the last instruction, and its entry label is in it
pub record StandsIn (code : List Instruction) (i : ℕ) (f : Piece) : Type 0 where
  pub before : i ≤ f.first
  pub within : f.first + length f.instrs < length code
  pub entry : f.entry < length f.instrs
  pub is : IsFunction f

-- the label is the entry label of a function with this arity
pub record IsEntry (functions : List Piece) (label arity : ℕ) : Type 0 where
  pub number : ℕ
  pub function : Piece
  pub is_there : slice_get functions number ≡ Some function
  pub stands : IsLabelAt (marks_of function.instrs) function.entry label
  pub arity_is : function.arity ≡ arity

-- code that is split: its instructions, its label count, its functions
pub record SplitValue : Type 0 where
  pub instrs : List Instruction
  pub labels : ℕ
  pub functions : List Piece

-- the split of the code that a header says to have so many labels and functions
pub record IsSplitCode (labels count : ℕ) (code : List Instruction) (s : SplitValue) : Type 0 where
  pub instrs_are : s.instrs ≡ code
  pub labels_are : s.labels ≡ labels
  pub split : IsSplit labels code s.functions
  pub count_is : length s.functions ≡ count
