-- Where the faults of a report are, and how a report goes on.
use Rattle.std.specs.Prelude.{◌≡◌, ℕ, ◌+◌, ◌<◌, ◌≤◌, Some, List, ◌++◌, length, slice_get}
use Rattle.func_split.specs.Functions.{Piece}
use Rattle.beam_module.specs.Module.{ModuleValue}
use Rattle.code_faults.specs.declared.fault.Fault.{Fault}
use Rattle.flow_rules.specs.Reporting.{IsFunctionReport}
use Rattle.flow_rules.specs.Reports.{function_report}

-- the fault names a function of the module, and a place of the code that is in this function
pub record IsIn (m : ModuleValue) (x : Fault) : Type 0 where
  pub function : Piece
  pub is_there : slice_get m.code.functions x.function ≡ Some function
  pub from : function.first ≤ x.place
  pub below : x.place < function.first + length function.instrs

-- the report of a function, which is the one that is found by plans and rounds
pub record IsReportOf (m : ModuleValue) (number : ℕ) (f : Piece) (list : List Fault) : Type 0 where
  pub is : IsFunctionReport m number f list
  pub found : list ≡ function_report m number f

-- its report is put at the end
abbrev pub AddsReport : ModuleValue → ℕ → Piece → List Fault → List Fault → Type 0
AddsReport m number f before after = (list : List Fault) × (after ≡ before ++ list) × IsReportOf m number f list
