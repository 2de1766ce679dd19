-- What a machine that is not stuck may do next, by the choices that its surroundings make.
use Rattle.std.specs.Prelude.{ℕ, ◌+◌, ◌==◌, Bool, true, false, ◌||◌, if◌then◌else◌, Option, Some, None, Result, Ok, Err, List, [], ◌∷◌, drop, slice_get}
use Rattle.compact_term.specs.declared.operand.Reg.TheVariants as regs
use Rattle.op_table.specs.declared.action.Action.{Action}
use Rattle.op_table.specs.declared.plans.Exit.{Exit}
use Rattle.op_table.specs.declared.plans.Exit.TheVariants as exits
use Rattle.op_table.specs.declared.plans.Plan.{Plan}
use Rattle.op_table.specs.Rules.{exit_labels}
use Rattle.reg_state.specs.Store.FrameOf.{Absent, Slots, Unknown}
use Rattle.beam_module.specs.Module.{ModuleValue}
use Rattle.action_rules.specs.declared.reason.Reason.{Reason}
use Rattle.action_rules.specs.Effects.{chosen, effects, terms_of, write_reg}
use Rattle.flow_rules.specs.KnownEdges.{lowest}
use Rattle.flow_rules.specs.Values.{Contents, Frame, Local, values}
use Rattle.flow_rules.specs.Values.Value.{Mark}
use Rattle.flow_rules.specs.Machine.{Activation, Machine, label_place, plan_at}

-- all is done; or all is, and then it jumps to one of the exit's labels; or only what comes first is done, and it fails to one of the plan's labels for that, or raises; a number is the index of the label in its list, from 0
pub data Way : Type 0 where
  Done : Way
  Jump : ℕ → Way
  Fail : ℕ → Way
  Raise : Way

-- the way, and the terms that are written, in the order of the actions; past the last one the term is 0
pub record Choice : Type 0 where
  pub way : Way
  pub terms : List ℕ

-- the next state, the end of the run, or nothing that can happen
pub data Outcome : Type 0 where
  Goes : Machine → Outcome
  Ends : Outcome
  Never : Outcome

abbrev pub next_at : ℕ → Local → List Activation → Outcome
next_at place local waiting = Goes (record { place = place; local = local; waiting = waiting })

-- registers and a frame, with nothing reserved
abbrev pub bare : (ℕ → Contents) → Frame → Local
bare x frame = record { x = x; frame = frame; words = 0; funs = 0 }

-- ---- what a plan does

-- how many terms the surroundings choose
abbrev pub terms_in : List Action → ℕ
terms_in [] = 0
terms_in (a ∷ rest) = terms_of a + terms_in rest

abbrev pub terms_left : Plan → List ℕ → List ℕ
terms_left p terms = drop (terms_in p.before) terms

-- what comes before it can fail is done
abbrev pub before_done : Plan → List ℕ → Local → Local
before_done p terms local = effects values p.before terms local

-- all is done
abbrev pub all_done : Plan → List ℕ → Local → Local
all_done p terms local = effects values p.after (terms_left p terms) (before_done p terms local)

-- ---- raises

-- the label of the lowest tagged slot
abbrev pub handler : Frame → List ℕ
handler Absent = []
handler (Slots ss) = lowest ss
handler (Unknown why) = []

-- x0 alone has a value
abbrev pub alone : Contents → ℕ → Contents
alone a i = if i == 0 then a else None

-- the handler of an activation is entered with the mark, and else it is as outside
abbrev pub caught_in : ModuleValue → Frame → List Activation → List ℕ → Outcome → Outcome
caught_in m frame waiting [] outside = outside
caught_in m frame waiting (label ∷ labels) outside = next_at (label_place m label) (bare (alone (Some Mark)) frame) waiting

-- to the handler of the nearest activation that has one; the run ends where none has
abbrev pub raised : ModuleValue → Frame → List Activation → Outcome
raised m frame [] = caught_in m frame [] (handler frame) Ends
raised m frame (call ∷ waiting) = caught_in m frame (call ∷ waiting) (handler frame) (raised m call.frame waiting)

-- ---- returns

-- what a call leaves behind, in its frame, with what was returned in x0
abbrev pub after_call : Plan → Frame → Contents → Local
after_call p frame a = write_reg (regs.X 0) a (effects values p.after [] (bare (λ i. None) frame))

abbrev pub resumed : Activation → List Activation → Contents → Result Plan Reason → Outcome
resumed call waiting a (Err why) = Never
resumed call waiting a (Ok p) = next_at (call.place + 1) (after_call p call.frame a) waiting

-- the last call goes on; the run ends where none waits
abbrev pub returned : ModuleValue → List Activation → Contents → Outcome
returned m [] a = Ends
returned m (call ∷ waiting) a = resumed call waiting a (plan_at m call.place)

-- ---- exits

-- a call that waits at its place, with the frame that is there
abbrev pub suspended : ℕ → Local → Activation
suspended place local = record { place = place; frame = local.frame }

-- a function is entered with the registers as they are, without a frame; what is called outside returns any term
abbrev pub at_exit : ModuleValue → Machine → Plan → List ℕ → Exit → Outcome
at_exit m s p terms exits.Next = next_at (s.place + 1) (all_done p terms s.local) s.waiting
at_exit m s p terms (exits.Labels labels) = Never
at_exit m s p terms (exits.Enter label) = let local = before_done p terms s.local in next_at (label_place m label) (bare local.x Absent) (suspended s.place local ∷ s.waiting)
at_exit m s p terms (exits.TailLocal label) = next_at (label_place m label) (bare (before_done p terms s.local).x Absent) s.waiting
at_exit m s p terms exits.TailExt = returned m s.waiting (chosen values (terms_left p terms) 0)
at_exit m s p terms exits.Return = returned m s.waiting ((before_done p terms s.local).x 0)
at_exit m s p terms exits.End = Never

abbrev pub jumps_to : ModuleValue → Option ℕ → Local → List Activation → Outcome
jumps_to m None local waiting = Never
jumps_to m (Some label) local waiting = next_at (label_place m label) local waiting

-- the instruction itself raises, or what it calls outside in place of the function may; what a call of a function raises is raised by an instruction of that one
abbrev pub raises_itself : Exit → Bool
raises_itself exits.TailExt = true
raises_itself exits.End = true
raises_itself _ = false

abbrev pub can_raise : Plan → Bool
can_raise p = p.raises || raises_itself p.exit

-- ---- outcomes

abbrev pub outcome_of : ModuleValue → Machine → Plan → List ℕ → Way → Outcome
outcome_of m s p terms Way.Done = at_exit m s p terms p.exit
outcome_of m s p terms (Way.Jump k) = jumps_to m (slice_get (exit_labels p.exit) k) (all_done p terms s.local) s.waiting
outcome_of m s p terms (Way.Fail k) = jumps_to m (slice_get p.fails k) (before_done p terms s.local) s.waiting
outcome_of m s p terms Way.Raise = if can_raise p then raised m (before_done p terms s.local).frame s.waiting else Never

abbrev pub outcome_by : ModuleValue → Machine → Choice → Result Plan Reason → Outcome
outcome_by m s c (Err why) = Never
outcome_by m s c (Ok p) = outcome_of m s p c.terms c.way

abbrev pub outcome : ModuleValue → Machine → Choice → Outcome
outcome m s c = outcome_by m s c (plan_at m s.place)
