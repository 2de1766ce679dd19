-- What each action needs, and for which reason the first need fails.
use Rattle.std.specs.Prelude.{ℕ, zero, suc, ◌+◌, ◌==◌, nat_le, Bool, true, false, not, ◌&&◌, if◌then◌else◌, Option, Some, None, List, [], ◌∷◌, ◌++◌, length, take, drop, slice_get}
use Rattle.std.specs.List.{list_all}
use Rattle.std.specs.Option.{option_or}
use Rattle.bk_base.specs.declared.tag_kind.TagKind.{TagKind}
use Rattle.compact_term.specs.declared.operand.Reg.{Reg}
use Rattle.compact_term.specs.declared.operand.Reg.TheVariants as regs
use Rattle.op_table.specs.declared.action.Src.{Src}
use Rattle.op_table.specs.declared.action.Src.TheVariants as sources
use Rattle.op_table.specs.declared.action.Action.{Action}
use Rattle.op_table.specs.declared.action.Action.TheVariants as acts
use Rattle.op_table.specs.declared.plans.Exit.{Exit}
use Rattle.op_table.specs.declared.plans.Exit.TheVariants as exits
use Rattle.op_table.specs.declared.plans.Plan.{Plan}
use Rattle.reg_state.specs.Store.{SlotOf, FrameOf, Store}
use Rattle.reg_state.specs.Store.SlotOf.{Holds, Tagged}
use Rattle.reg_state.specs.Store.FrameOf.{Absent, Slots, Unknown}
use Rattle.reg_state.specs.Join.{same_tag_kind}
use Rattle.action_rules.specs.declared.reason.Reason.{Reason}
use Rattle.action_rules.specs.declared.reason.Reason.TheVariants as reasons
use Rattle.action_rules.specs.Domain.{Domain}
use Rattle.action_rules.specs.Effects.{effect, terms_of}

abbrev pub check : Bool → Reason → Option Reason
check true why = None
check false why = Some why

-- ---- frames and slots

-- there is a frame, whose slots meet this need
abbrev pub in_frame : {A C : Type 0} → FrameOf A C → (List (SlotOf A) → Option Reason) → Option Reason
in_frame Absent slots_need = Some reasons.NoFrame
in_frame (Slots ss) slots_need = slots_need ss
in_frame (Unknown why) slots_need = Some reasons.Clash

abbrev pub no_frame : {A C : Type 0} → FrameOf A C → Option Reason
no_frame Absent = None
no_frame (Slots ss) = Some reasons.FrameOpen
no_frame (Unknown why) = Some reasons.Clash

-- the slot is there, and meets this need
abbrev pub in_slot : {A : Type 0} → ℕ → Option (SlotOf A) → (SlotOf A → Option Reason) → Option Reason
in_slot y None slot_need = Some (reasons.Slot (regs.Y y))
in_slot y (Some s) slot_need = slot_need s

abbrev pub is_tagged : {A : Type 0} → SlotOf A → Bool
is_tagged (Holds a) = false
is_tagged (Tagged label kind) = true

abbrev pub is_tagged_as : {A : Type 0} → TagKind → SlotOf A → Bool
is_tagged_as kind (Holds a) = false
is_tagged_as kind (Tagged label other) = same_tag_kind kind other

abbrev pub none_tagged : {A : Type 0} → List (SlotOf A) → Bool
none_tagged ss = list_all (λ s. not (is_tagged s)) ss

-- a slot holds a term
abbrev pub holds_term : {A C : Type 0} → Domain A C → SlotOf A → Bool
holds_term d (Holds a) = d.has_term a
holds_term d (Tagged label kind) = false

-- a slot holds a term or is tagged
abbrev pub is_full : {A C : Type 0} → Domain A C → SlotOf A → Bool
is_full d (Holds a) = d.has_term a
is_full d (Tagged label kind) = true

-- slot y and those behind it are full
abbrev pub full_from : {A C : Type 0} → Domain A C → ℕ → List (SlotOf A) → Option Reason
full_from d y [] = None
full_from d y (s ∷ ss) = option_or (check (is_full d s) (reasons.Unset (regs.Y y))) (full_from d (suc y) ss)

abbrev pub full_frame : {A C : Type 0} → Domain A C → FrameOf A C → Option Reason
full_frame d Absent = None
full_frame d (Slots ss) = full_from d 0 ss
full_frame d (Unknown why) = Some reasons.Clash

-- neither slot y nor one behind it is tagged
abbrev pub untagged_from : {A : Type 0} → ℕ → List (SlotOf A) → Option Reason
untagged_from y [] = None
untagged_from y (s ∷ ss) = option_or (check (not (is_tagged s)) (reasons.OpenTag (regs.Y y))) (untagged_from (suc y) ss)

-- a frame of so many slots, of which the first ones are not tagged
abbrev pub sized : {A C : Type 0} → FrameOf A C → ℕ → ℕ → Option Reason
sized frame size first = in_frame frame (λ ss. option_or (check (length ss == size) reasons.FrameSize) (untagged_from 0 (take first ss)))

-- ---- registers

abbrev pub readable : {A C : Type 0} → Domain A C → Reg → Store A C → Option Reason
readable d (regs.X n) s = check (d.has_term (s.x n)) (reasons.Unset (regs.X n))
readable d (regs.Y y) s = in_frame s.frame (λ ss. in_slot y (slice_get ss y) (λ slot. check (holds_term d slot) (reasons.Unset (regs.Y y))))

abbrev pub source_readable : {A C : Type 0} → Domain A C → Src → Store A C → Option Reason
source_readable d (sources.Reg r) s = readable d r s
source_readable d sources.Const s = None

abbrev pub writable : {A C : Type 0} → Reg → Store A C → Option Reason
writable (regs.X n) s = None
writable (regs.Y y) s = in_frame s.frame (λ ss. in_slot y (slice_get ss y) (λ slot. check (not (is_tagged slot)) (reasons.OpenTag (regs.Y y))))

-- register n and so many more are terms
abbrev pub live_from : {A C : Type 0} → Domain A C → (ℕ → A) → ℕ → ℕ → Option Reason
live_from d x n zero = None
live_from d x n (suc more) = option_or (check (d.has_term (x n)) (reasons.Unset (regs.X n))) (live_from d x (suc n) more)

-- ---- handlers

-- the slot is there, and neither it nor one below it is tagged
abbrev pub taggable : {A C : Type 0} → ℕ → FrameOf A C → Option Reason
taggable y frame = in_frame frame (λ ss. in_slot y (slice_get ss y) (λ slot. check (none_tagged (take (suc y) ss)) (reasons.Order (regs.Y y))))

-- the slot is the lowest tagged one, with this kind of handler
abbrev pub untaggable : {A C : Type 0} → ℕ → TagKind → FrameOf A C → Option Reason
untaggable y kind frame = in_frame frame (λ ss. in_slot y (slice_get ss y) (λ slot. check (none_tagged (take y ss) && is_tagged_as kind slot) (reasons.Innermost (regs.Y y))))

-- ---- actions

abbrev pub need : {A C : Type 0} → Domain A C → Action → Store A C → Option Reason
need d (acts.Read source) s = source_readable d source s
need d (acts.Live n) s = live_from d s.x 0 n
need d acts.FullY s = full_frame d s.frame
need d (acts.Keep n) s = None
need d (acts.Room words funs) s = None
need d (acts.Take words) s = check (nat_le words s.words) reasons.Heap
need d acts.TakeFun s = check (nat_le 1 s.funs) reasons.Heap
need d (acts.Write r) s = writable r s
need d (acts.Copy source r) s = option_or (source_readable d source s) (writable r s)
need d (acts.Swap a b) s = option_or (readable d a s) (readable d b s)
need d (acts.NewFrame n) s = no_frame s.frame
need d (acts.DropFrame n) s = sized s.frame n n
need d (acts.Trim n r) s = sized s.frame (n + r) n
need d acts.InFrame s = in_frame s.frame (λ ss. None)
need d acts.NoFrame s = no_frame s.frame
need d (acts.Tag y label kind) s = taggable y s.frame
need d (acts.Untag y kind) s = untaggable y kind s.frame
need d acts.Caught s = check (d.has_value (s.x 0)) (reasons.Unset (regs.X 0))
need d acts.Landed s = check (d.has_mark (s.x 0)) (reasons.Unset (regs.X 0))

-- of actions one after another, each on what those before it leave
abbrev pub needs : {A C : Type 0} → Domain A C → List Action → List ℕ → Store A C → Option Reason
needs d [] terms s = None
needs d (a ∷ rest) terms s = option_or (need d a s) (needs d rest (drop (terms_of a) terms) (effect d a terms s))

-- ---- plans

-- it goes on at the next instruction
abbrev pub goes_on : Exit → Bool
goes_on exits.Next = true
goes_on (exits.Labels labels) = false
goes_on (exits.Enter label) = true
goes_on (exits.TailLocal label) = false
goes_on exits.TailExt = false
goes_on exits.Return = false
goes_on exits.End = false

-- an instruction that goes on at the next one needs that one to be in its function
abbrev pub exit_need : Bool → Exit → Option Reason
exit_need has_next exit = if goes_on exit then check has_next reasons.Leave else None

-- no need depends on which terms are chosen
abbrev pub plan_need : {A C : Type 0} → Domain A C → Bool → Plan → Store A C → Option Reason
plan_need d has_next p s = option_or (needs d (p.before ++ p.after) [] s) (exit_need has_next p.exit)
