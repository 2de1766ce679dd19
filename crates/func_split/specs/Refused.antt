-- Which code is refused, and for what.
use Rattle.std.specs.Prelude.{◌≡◌, ◌≢◌, ◌⊎◌, ℕ, List, [], ◌∷◌, length}
use Rattle.op_table.specs.Instruction.{Instruction}
use Rattle.func_split.specs.declared.refusal.FunctionWhy.{FunctionWhy}
use Rattle.func_split.specs.declared.refusal.FunctionWhy.TheVariants as whys
use Rattle.func_split.specs.declared.refusal.SplitRefusal.{SplitRefusal}
use Rattle.func_split.specs.declared.refusal.SplitRefusal.TheVariants as refusals
use Rattle.func_split.specs.Marks.{marks_of}
use Rattle.func_split.specs.Functions.{Piece, IsSplit}
use Rattle.func_split.specs.Faults.{IsFirst}

-- the code splits, and not into as many functions as its header says
pub record IsMiscounted (labels count : ℕ) (code : List Instruction) (place : ℕ) (why : FunctionWhy) : Type 0 where
  pub place_is : place ≡ 0
  pub why_is : why ≡ whys.Count
  pub functions : List Piece
  pub split : IsSplit labels code functions
  pub differs : length functions ≢ count

-- code without instructions has no start; other code is refused for the first that is wrong, and else for its count
abbrev pub IsRefused : ℕ → ℕ → List Instruction → ℕ → FunctionWhy → Type 0
IsRefused labels count [] place why = (place ≡ 0) × (why ≡ whys.Start)
IsRefused labels count (i ∷ code) place why = IsFirst labels (marks_of (i ∷ code)) place why ⊎ IsMiscounted labels count (i ∷ code) place why

-- the refusal tells why; want of memory tells nothing
abbrev pub IsTold : ℕ → ℕ → List Instruction → SplitRefusal → Type 0
IsTold labels count code (refusals.Functions place why) = IsRefused labels count code place why
IsTold labels count code refusals.NoMemory = ⊥
