-- What ties a running machine to what is known at the places of its functions.
use Rattle.std.specs.Prelude.{◌≡◌, ℕ, ◌+◌, ◌<◌, Bool, true, false, Option, Some, None, List, length, T, slice_get, Contains}
use Rattle.std.specs.List.{AllByRecursion, list_all}
use Rattle.op_table.specs.declared.plans.Exit.TheVariants as exits
use Rattle.op_table.specs.declared.plans.Plan.{Plan}
use Rattle.reg_state.specs.declared.kind.Kind.{Kind}
use Rattle.reg_state.specs.declared.kind.Kind.TheVariants as kind
use Rattle.reg_state.specs.Store.{SlotOf}
use Rattle.reg_state.specs.Store.SlotOf.{Holds, Tagged}
use Rattle.reg_state.specs.Store.FrameOf.{Absent, Slots, Unknown}
use Rattle.reg_state.specs.Related.{FrameRel, StoreRel}
use Rattle.reg_state.specs.States.{Known, IsBelow}
use Rattle.label_fixpoint.specs.declared.edge.Edge.{Edge}
use Rattle.func_split.specs.Functions.{Piece}
use Rattle.beam_module.specs.Module.{ModuleValue}
use Rattle.action_rules.specs.Fitting.{Bounds, is_handler}
use Rattle.flow_rules.specs.Body.{body_fits}
use Rattle.flow_rules.specs.FlowBody.{need_at}
use Rattle.flow_rules.specs.KnownEdges.{entered, first_known, known_edges}
use Rattle.flow_rules.specs.Making.{ArePlans, body_with}
use Rattle.flow_rules.specs.Values.{Contents, Frame, is_term, is_mark, is_value}
use Rattle.flow_rules.specs.Values.Value.{Context}
use Rattle.flow_rules.specs.Machine.{Activation, Machine}

-- ---- values

abbrev pub is_context : Contents → Bool
is_context (Some Context) = true
is_context _ = false

-- nothing is asked of what is not known to be set
abbrev pub conforms : Contents → Kind → Bool
conforms a kind.Context = is_context a
conforms a kind.Term = is_term a
conforms a kind.Caught = is_mark a
conforms a kind.Loose = is_value a
conforms a kind.Unset = true

abbrev pub Conforms : Contents → Kind → Type 0
Conforms a k = T (conforms a k)

-- ---- handlers

abbrev pub tag_is_own : Bounds → SlotOf Contents → Bool
tag_is_own b (Holds a) = true
tag_is_own b (Tagged label kind) = is_handler b label

-- the handlers of a frame are ones of its function
abbrev pub tags_are_own : Bounds → Frame → Bool
tags_are_own b Absent = true
tags_are_own b (Slots ss) = list_all (tag_is_own b) ss
tags_are_own b (Unknown why) = true

-- ---- functions

-- something above s is known at a place
abbrev pub HasKnown : (ℕ → Option Known) → ℕ → Known → Type 0
HasKnown known place s = (above : Known) × (known place ≡ Some above) × IsBelow s above

-- a consistent typing of a function with which no need fails
pub record Typed (m : ModuleValue) (f : Piece) : Type 0 where
  pub plans : List Plan
  pub plans_are : ArePlans m f f.instrs plans
  pub known : ℕ → Option Known
  pub inside : (place : ℕ) (s : Known) → known place ≡ Some s → place < length plans
  pub enters : HasKnown known f.entry (first_known f.arity)
  pub follows : (place : ℕ) (s : Known) (e : Edge Known) → known place ≡ Some s → Contains (known_edges (body_with f plans) place s) e → HasKnown known e.target e.state
  pub met : (place : ℕ) (s : Known) → known place ≡ Some s → need_at (body_with f plans) place s ≡ None
  pub fits : body_fits (body_with f plans) ≡ true

abbrev pub AllTyped : ModuleValue → Type 0
AllTyped m = (number : ℕ) (f : Piece) → slice_get m.code.functions number ≡ Some f → Typed m f

-- ---- machines

-- a call whose function goes on with what is left in its frame
pub record IsCall (m : ModuleValue) (typed : AllTyped m) (call : Activation) : Type 0 where
  pub number : ℕ
  pub function : Piece
  pub is_there : slice_get m.code.functions number ≡ Some function
  pub at : ℕ
  pub place : call.place ≡ function.first + at
  pub plan : Plan
  pub plan_is : slice_get (typed number function is_there).plans at ≡ Some plan
  pub label : ℕ
  pub enters : plan.exit ≡ exits.Enter label
  pub known : Known
  pub known_is : (typed number function is_there).known at ≡ Some known
  pub frame : FrameRel Conforms call.frame (entered plan known).frame
  pub tags : tags_are_own (body_with function (typed number function is_there).plans).bounds call.frame ≡ true

-- a machine that has what is known at its place
pub record IsKnown (m : ModuleValue) (typed : AllTyped m) (s : Machine) : Type 0 where
  pub number : ℕ
  pub function : Piece
  pub is_there : slice_get m.code.functions number ≡ Some function
  pub at : ℕ
  pub place : s.place ≡ function.first + at
  pub known : Known
  pub known_is : (typed number function is_there).known at ≡ Some known
  pub local : StoreRel Conforms s.local known
  pub tags : tags_are_own (body_with function (typed number function is_there).plans).bounds s.local.frame ≡ true
  pub waiting : AllByRecursion (IsCall m typed) s.waiting
