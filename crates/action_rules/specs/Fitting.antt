-- Which states fit a function: no more registers and slots than it has, and no handlers but its own.
use Rattle.std.specs.Prelude.{◌≡◌, ℕ, ◌≤◌, ◌==◌, nat_lt, nat_le, Bool, true, false, ◌&&◌, List, length}
use Rattle.std.specs.List.{list_all, list_any}
use Rattle.compact_term.specs.declared.operand.Reg.{Reg}
use Rattle.compact_term.specs.declared.operand.Reg.TheVariants as regs
use Rattle.op_table.specs.declared.action.Action.{Action}
use Rattle.op_table.specs.declared.action.Action.TheVariants as acts
use Rattle.reg_state.specs.declared.kind.Kind.{Kind}
use Rattle.reg_state.specs.declared.kind.Kind.TheVariants.{Context, Term, Caught, Loose, Unset}
use Rattle.reg_state.specs.Store.{SlotOf, FrameOf}
use Rattle.reg_state.specs.Store.SlotOf.{Holds, Tagged}
use Rattle.reg_state.specs.Store.FrameOf.{Absent, Slots, Unknown}
use Rattle.reg_state.specs.States.{Known}

-- the registers from x0 on that a function has, the slots of its greatest frame, and the labels of its handlers
pub record Bounds : Type 0 where
  pub x : ℕ
  pub y : ℕ
  pub handlers : List ℕ

abbrev pub is_handler : Bounds → ℕ → Bool
is_handler b label = list_any (λ handler. handler == label) b.handlers

abbrev pub slot_kind_fits : Kind → Bool
slot_kind_fits Context = true
slot_kind_fits Term = true
slot_kind_fits Caught = false
slot_kind_fits Loose = false
slot_kind_fits Unset = true

abbrev pub slot_fits : Bounds → SlotOf Kind → Bool
slot_fits b (Holds kind) = slot_kind_fits kind
slot_fits b (Tagged label kind) = is_handler b label

abbrev pub slots_fit : Bounds → List (SlotOf Kind) → Bool
slots_fit b ss = nat_le (length ss) b.y && list_all (slot_fits b) ss

abbrev pub frame_fits : Bounds → FrameOf Kind (Unit {0}) → Bool
frame_fits b Absent = true
frame_fits b (Slots ss) = slots_fit b ss
frame_fits b (Unknown why) = true

pub record Fits (b : Bounds) (s : Known) : Type 0 where
  pub registers : (i : ℕ) → b.x ≤ i → s.x i ≡ Unset
  pub frame : frame_fits b s.frame ≡ true

-- ---- actions that keep to the bounds

abbrev pub reg_fits : Bounds → Reg → Bool
reg_fits b (regs.X n) = nat_lt n b.x
reg_fits b (regs.Y y) = true

abbrev pub action_fits : Bounds → Action → Bool
action_fits b (acts.Write r) = reg_fits b r
action_fits b (acts.Copy source r) = reg_fits b r
action_fits b (acts.Swap first second) = reg_fits b first && reg_fits b second
action_fits b (acts.NewFrame n) = nat_le n b.y
action_fits b (acts.Tag y label kind) = is_handler b label
action_fits b acts.Caught = nat_le 1 b.x
action_fits b acts.Landed = nat_le 3 b.x
action_fits b _ = true
