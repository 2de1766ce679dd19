-- How plans come from operands: the steps before and after, the operands with the labels, and whether it raises, by the form of an instruction.
use Rattle.std.specs.Prelude.{ℕ, List, [], ◌∷◌, Bool, true, false, Option, Some, None}
use Rattle.bk_base.specs.declared.tag_kind.TagKind.TheVariants.{Catch, Try}
use Rattle.compact_term.specs.declared.operand.Reg.TheVariants as regs
use Rattle.op_table.specs.declared.action.Src.TheVariants as sources
use Rattle.op_table.specs.declared.action.Action.TheVariants as acts
use Rattle.op_table.specs.declared.step.Number.TheVariants.{At, More}
use Rattle.op_table.specs.declared.step.Step.{Step}
use Rattle.op_table.specs.declared.step.Step.TheVariants as steps
use Rattle.op_table.specs.declared.step.Way.{Way}
use Rattle.op_table.specs.declared.step.Way.TheVariants as ways
use Rattle.op_table.specs.declared.step.Layout.{Layout as Stored}
use Rattle.op_table.specs.declared.form.Form.{Form}
use Rattle.op_table.specs.declared.form.Form.TheVariants as forms

pub record Layout : Type 0 where
  pub before : List Step
  pub fails : Option ℕ
  pub raises : Bool
  pub after : List Step
  pub exit : Way

-- what a layout as it is stored says
abbrev pub layout_from : Stored → Layout
layout_from l = record { before = l.before.now; fails = l.fails; raises = l.raises; after = l.after.now; exit = l.exit }

-- ---- where an instruction may go on in place of its end: the operand that names a label, and whether it raises

abbrev pub Failing : Type 0
Failing = Option ℕ × Bool

abbrev pub never : Failing
never = (None, false)

abbrev pub raising : Failing
raising = (None, true)

abbrev pub at : ℕ → Failing
at k = (Some k, false)

abbrev pub at_or_raising : ℕ → Failing
at_or_raising k = (Some k, true)

abbrev pub layout : List Step → Failing → List Step → Way → Layout
layout before failing after exit = record { before = before; fails = failing.0; raises = failing.1; after = after; exit = exit }

-- ---- steps that no operand has a part in

abbrev pub read_x0 : Step
read_x0 = steps.Always (acts.Read (sources.Reg (regs.X 0)))

abbrev pub live_1 : Step
live_1 = steps.Always (acts.Live 1)

abbrev pub live_2 : Step
live_2 = steps.Always (acts.Live 2)

abbrev pub live_3 : Step
live_3 = steps.Always (acts.Live 3)

abbrev pub full_y : Step
full_y = steps.Always acts.FullY

abbrev pub keep_none : Step
keep_none = steps.Always (acts.Keep 0)

abbrev pub take_2 : Step
take_2 = steps.Always (acts.Take 2)

abbrev pub take_fun : Step
take_fun = steps.Always acts.TakeFun

abbrev pub write_x0 : Step
write_x0 = steps.Always (acts.Write (regs.X 0))

abbrev pub in_frame : Step
in_frame = steps.Always acts.InFrame

abbrev pub no_frame : Step
no_frame = steps.Always acts.NoFrame

abbrev pub caught : Step
caught = steps.Always acts.Caught

abbrev pub landed : Step
landed = steps.Always acts.Landed

-- what a call leaves behind
abbrev pub call_result : List Step
call_result = keep_none ∷ write_x0 ∷ []

-- ---- the forms; operands are counted from 1

abbrev pub layout_of : Form → Layout
layout_of forms.Pass = layout [] never [] ways.Next
layout_of forms.ReadAll = layout (steps.Reads ∷ []) never [] ways.Next
layout_of forms.Stop = layout (steps.Reads ∷ []) never [] ways.End
layout_of forms.FuncInfo = layout (steps.Live (At 3) ∷ []) never [] ways.End
layout_of forms.Call = layout (steps.Live (At 1) ∷ in_frame ∷ full_y ∷ []) never call_result (ways.Enter 2)
layout_of forms.CallLast = layout (steps.Live (At 1) ∷ steps.DropFrame 3 ∷ []) never [] (ways.TailLocal 2)
layout_of forms.CallOnly = layout (steps.Live (At 1) ∷ no_frame ∷ []) never [] (ways.TailLocal 2)
layout_of forms.CallExt = layout (steps.Live (At 1) ∷ in_frame ∷ full_y ∷ []) raising call_result ways.Next
layout_of forms.NeverReturns = layout (steps.Live (At 1) ∷ full_y ∷ []) never [] ways.End
layout_of forms.CallExtLast = layout (steps.Live (At 1) ∷ steps.DropFrame 3 ∷ []) never [] ways.TailExt
layout_of forms.CallExtOnly = layout (steps.Live (At 1) ∷ no_frame ∷ []) never [] ways.TailExt
layout_of forms.CallFun = layout (steps.Live (More 1 1) ∷ in_frame ∷ full_y ∷ []) raising call_result ways.Next
layout_of forms.CallFun2 = layout (steps.Live (At 2) ∷ steps.Reads ∷ in_frame ∷ full_y ∷ []) raising call_result ways.Next
layout_of forms.Apply = layout (steps.Live (More 1 2) ∷ in_frame ∷ full_y ∷ []) raising call_result ways.Next
layout_of forms.ApplyLast = layout (steps.Live (More 1 2) ∷ steps.DropFrame 2 ∷ []) never [] ways.TailExt
layout_of forms.Send = layout (live_2 ∷ in_frame ∷ full_y ∷ []) raising call_result ways.Next
layout_of forms.Return = layout (no_frame ∷ read_x0 ∷ []) never [] ways.Return
layout_of forms.Bif0 = layout [] never (steps.Write 2 ∷ []) ways.Next
layout_of forms.Bif1 = layout (steps.Reads ∷ []) (at 1) (steps.Write 4 ∷ []) ways.Next
layout_of forms.Bif2 = layout (steps.Reads ∷ []) (at 1) (steps.Write 5 ∷ []) ways.Next
layout_of forms.GcBif1 = layout (steps.Live (At 2) ∷ full_y ∷ steps.Reads ∷ steps.Keep (At 2) ∷ []) (at 1) (steps.Write 5 ∷ []) ways.Next
layout_of forms.GcBif2 = layout (steps.Live (At 2) ∷ full_y ∷ steps.Reads ∷ steps.Keep (At 2) ∷ []) (at 1) (steps.Write 6 ∷ []) ways.Next
layout_of forms.GcBif3 = layout (steps.Live (At 2) ∷ full_y ∷ steps.Reads ∷ steps.Keep (At 2) ∷ []) (at 1) (steps.Write 7 ∷ []) ways.Next
layout_of forms.Allocate = layout (steps.Live (At 2) ∷ steps.NewFrame 1 ∷ steps.Keep (At 2) ∷ []) never [] ways.Next
layout_of forms.AllocateHeap = layout (steps.Live (At 3) ∷ steps.NewFrame 1 ∷ steps.Keep (At 3) ∷ steps.Room 2 ∷ []) never [] ways.Next
layout_of forms.TestHeap = layout (steps.Live (At 2) ∷ full_y ∷ steps.Keep (At 2) ∷ steps.Room 1 ∷ []) never [] ways.Next
layout_of forms.Deallocate = layout (steps.DropFrame 1 ∷ []) never [] ways.Next
layout_of forms.Trim = layout (steps.Trim 1 2 ∷ []) never [] ways.Next
layout_of forms.InitYregs = layout (steps.Write 1 ∷ []) never [] ways.Next
layout_of forms.Move = layout (steps.Copy 1 2 ∷ []) never [] ways.Next
layout_of forms.Swap = layout (steps.Swap 1 2 ∷ []) never [] ways.Next
layout_of forms.GetList = layout (steps.Reads ∷ []) never (steps.Write 2 ∷ steps.Write 3 ∷ []) ways.Next
layout_of forms.GetPart = layout (steps.Reads ∷ []) never (steps.Write 2 ∷ []) ways.Next
layout_of forms.GetTupleElement = layout (steps.Reads ∷ []) never (steps.Write 3 ∷ []) ways.Next
layout_of forms.PutList = layout (steps.Reads ∷ take_2 ∷ []) never (steps.Write 3 ∷ []) ways.Next
layout_of forms.PutTuple2 = layout (steps.Reads ∷ steps.TakeMembers 2 ∷ []) never (steps.Write 1 ∷ []) ways.Next
layout_of forms.UpdateRecord = layout (steps.Reads ∷ steps.Take (More 2 1) ∷ []) never (steps.Write 4 ∷ []) ways.Next
layout_of forms.MakeFun3 = layout (steps.Reads ∷ take_fun ∷ []) never (steps.Write 2 ∷ []) ways.Next
layout_of forms.PutMap = layout (steps.Live (At 4) ∷ full_y ∷ steps.Reads ∷ steps.Keep (At 4) ∷ []) (at 1) (steps.Write 3 ∷ []) ways.Next
layout_of forms.Test = layout (steps.Reads ∷ []) (at 1) [] ways.Next
layout_of forms.GetMapElements = layout (steps.Reads ∷ steps.ReadKeys 3 ∷ []) (at 1) (steps.WriteValues 3 ∷ []) ways.Next
layout_of forms.Select = layout (steps.Reads ∷ []) (at 2) [] (ways.Labels 3)
layout_of forms.Jump = layout [] never [] (ways.Labels 1)
layout_of forms.Catch = layout (steps.Tag 1 2 Catch ∷ []) never [] ways.Next
layout_of forms.Try = layout (steps.Tag 1 2 Try ∷ []) never [] ways.Next
layout_of forms.CatchEnd = layout (steps.Untag 1 Catch ∷ caught ∷ []) never [] ways.Next
layout_of forms.TryEnd = layout (steps.Untag 1 Try ∷ []) never [] ways.Next
layout_of forms.TryCase = layout (steps.Untag 1 Try ∷ landed ∷ []) never [] ways.Next
layout_of forms.RawRaise = layout (live_3 ∷ full_y ∷ []) raising call_result ways.Next
layout_of forms.Build = layout (live_1 ∷ full_y ∷ []) never call_result ways.Next
layout_of forms.BsCreateBin = layout (steps.Live (At 3) ∷ full_y ∷ steps.Reads ∷ steps.Keep (At 3) ∷ []) (at 1) (steps.Room 2 ∷ steps.Write 5 ∷ []) ways.Next
layout_of forms.LoopRec = layout (keep_none ∷ []) (at 1) (steps.Write 2 ∷ []) ways.Next
layout_of forms.LoopRecEnd = layout (keep_none ∷ []) never [] (ways.Labels 1)
layout_of forms.Wait = layout (full_y ∷ keep_none ∷ []) never [] (ways.Labels 1)
layout_of forms.WaitTimeout = layout (steps.Reads ∷ full_y ∷ keep_none ∷ []) (at_or_raising 1) [] ways.Next
layout_of forms.Reserve = layout [] never (steps.Write 1 ∷ []) ways.Next
