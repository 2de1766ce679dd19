-- What each action does, whether or not its need holds.
use Rattle.std.specs.Prelude.{ℕ, zero, suc, ◌+◌, ◌-◌, ◌==◌, nat_lt, if◌then◌else◌, Option, Some, None, List, [], ◌∷◌, length, drop, replicate, slice_get, slice_index_or}
use Rattle.compact_term.specs.declared.operand.Reg.{Reg}
use Rattle.compact_term.specs.declared.operand.Reg.TheVariants as regs
use Rattle.op_table.specs.declared.action.Src.{Src}
use Rattle.op_table.specs.declared.action.Src.TheVariants as sources
use Rattle.op_table.specs.declared.action.Action.{Action}
use Rattle.op_table.specs.declared.action.Action.TheVariants as acts
use Rattle.reg_state.specs.Store.{SlotOf, FrameOf, Store}
use Rattle.reg_state.specs.Store.SlotOf.{Holds, Tagged}
use Rattle.reg_state.specs.Store.FrameOf.{Absent, Slots, Unknown}
use Rattle.action_rules.specs.Domain.{Domain}

-- ---- slots

-- a tagged slot stays as it is
abbrev pub overwritten : {A : Type 0} → SlotOf A → A → SlotOf A
overwritten (Holds old) new = Holds new
overwritten (Tagged label kind) new = Tagged label kind

-- a slot that isn't there stays so
abbrev pub write_slot : {A : Type 0} → List (SlotOf A) → ℕ → A → List (SlotOf A)
write_slot [] y new = []
write_slot (s ∷ ss) zero new = overwritten s new ∷ ss
write_slot (s ∷ ss) (suc y) new = s ∷ write_slot ss y new

abbrev pub put_slot : {A : Type 0} → List (SlotOf A) → ℕ → SlotOf A → List (SlotOf A)
put_slot [] y new = []
put_slot (s ∷ ss) zero new = new ∷ ss
put_slot (s ∷ ss) (suc y) new = s ∷ put_slot ss y new

-- what changes the slots of a frame, where there are any
abbrev pub over_slots : {A C : Type 0} → (List (SlotOf A) → List (SlotOf A)) → FrameOf A C → FrameOf A C
over_slots change Absent = Absent
over_slots change (Slots ss) = Slots (change ss)
over_slots change (Unknown why) = Unknown why

-- ---- what is read

abbrev pub value_in : {A C : Type 0} → Domain A C → Option (SlotOf A) → A
value_in d None = d.unset
value_in d (Some (Holds a)) = d.copied a
value_in d (Some (Tagged label kind)) = d.unset

abbrev pub slot_value : {A C : Type 0} → Domain A C → FrameOf A C → ℕ → A
slot_value d Absent y = d.unset
slot_value d (Slots ss) y = value_in d (slice_get ss y)
slot_value d (Unknown why) y = d.unset

abbrev pub value_of : {A C : Type 0} → Domain A C → Reg → Store A C → A
value_of d (regs.X n) s = d.copied (s.x n)
value_of d (regs.Y y) s = slot_value d s.frame y

-- the term of a number that the surroundings choose
abbrev pub chosen : {A C : Type 0} → Domain A C → List ℕ → ℕ → A
chosen d terms i = d.term (slice_index_or terms i 0)

abbrev pub source_value : {A C : Type 0} → Domain A C → Src → List ℕ → Store A C → A
source_value d (sources.Reg r) terms s = value_of d r s
source_value d sources.Const terms s = chosen d terms 0

-- ---- what is written

abbrev pub put_x : {A : Type 0} → (ℕ → A) → ℕ → A → ℕ → A
put_x x n new i = if i == n then new else x i

abbrev pub write_reg : {A C : Type 0} → Reg → A → Store A C → Store A C
write_reg (regs.X n) new s = record { x = put_x s.x n new; frame = s.frame; words = s.words; funs = s.funs }
write_reg (regs.Y y) new s = record { x = s.x; frame = over_slots (λ ss. write_slot ss y new) s.frame; words = s.words; funs = s.funs }

-- the first registers keep their values
abbrev pub first_kept : {A C : Type 0} → Domain A C → ℕ → (ℕ → A) → ℕ → A
first_kept d n x i = if nat_lt i n then x i else d.unset

-- the first registers are terms, and no others have values
abbrev pub arrived : {A C : Type 0} → Domain A C → ℕ → List ℕ → ℕ → A
arrived d n terms i = if nat_lt i n then chosen d terms i else d.unset

-- other registers, and nothing reserved
abbrev pub with_x : {A C : Type 0} → (ℕ → A) → Store A C → Store A C
with_x x s = record { x = x; frame = s.frame; words = 0; funs = 0 }

abbrev pub with_frame : {A C : Type 0} → FrameOf A C → Store A C → Store A C
with_frame frame s = record { x = s.x; frame = frame; words = s.words; funs = s.funs }

abbrev pub with_room : {A C : Type 0} → ℕ → ℕ → Store A C → Store A C
with_room words funs s = record { x = s.x; frame = s.frame; words = words; funs = funs }

-- the first n of n + r slots are gone
abbrev pub trimmed : {A C : Type 0} → Domain A C → ℕ → ℕ → FrameOf A C → FrameOf A C
trimmed d n r Absent = d.untrimmed
trimmed d n r (Slots ss) = if length ss == n + r then Slots (drop n ss) else d.untrimmed
trimmed d n r (Unknown why) = Unknown why

-- ---- actions

-- how many terms the surroundings choose
abbrev pub terms_of : Action → ℕ
terms_of (acts.Write r) = 1
terms_of (acts.Copy sources.Const r) = 1
terms_of acts.Caught = 1
terms_of acts.Landed = 3
terms_of _ = 0

-- an untag leaves the term 0, which stands for the empty list
abbrev pub effect : {A C : Type 0} → Domain A C → Action → List ℕ → Store A C → Store A C
effect d (acts.Read source) terms s = s
effect d (acts.Live n) terms s = s
effect d acts.FullY terms s = s
effect d (acts.Keep n) terms s = with_x (first_kept d n s.x) s
effect d (acts.Room words funs) terms s = with_room words funs s
effect d (acts.Take words) terms s = with_room (s.words - words) s.funs s
effect d acts.TakeFun terms s = with_room s.words (s.funs - 1) s
effect d (acts.Write r) terms s = write_reg r (chosen d terms 0) s
effect d (acts.Copy source r) terms s = write_reg r (source_value d source terms s) s
effect d (acts.Swap a b) terms s = write_reg b (value_of d a s) (write_reg a (value_of d b s) s)
effect d (acts.NewFrame n) terms s = with_frame (Slots (replicate n (Holds d.unset))) s
effect d (acts.DropFrame n) terms s = with_frame Absent s
effect d (acts.Trim n r) terms s = with_frame (trimmed d n r s.frame) s
effect d acts.InFrame terms s = s
effect d acts.NoFrame terms s = s
effect d (acts.Tag y label kind) terms s = with_frame (over_slots (λ ss. put_slot ss y (Tagged label kind)) s.frame) s
effect d (acts.Untag y kind) terms s = with_frame (over_slots (λ ss. put_slot ss y (Holds (d.term 0))) s.frame) s
effect d acts.Caught terms s = with_x (arrived d 1 terms) s
effect d acts.Landed terms s = with_x (arrived d 3 terms) s

-- one after another
abbrev pub effects : {A C : Type 0} → Domain A C → List Action → List ℕ → Store A C → Store A C
effects d [] terms s = s
effects d (a ∷ rest) terms s = effects d rest (drop (terms_of a) terms) (effect d a terms s)
