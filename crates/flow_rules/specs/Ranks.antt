-- The rank of a state: the less is known, the greater it is.
use Rattle.std.specs.Prelude.{ℕ, zero, suc, ◌+◌, ◌*◌, List, [], ◌∷◌}
use Rattle.reg_state.specs.declared.kind.Kind.{Kind}
use Rattle.reg_state.specs.declared.kind.Kind.TheVariants.{Context, Term, Caught, Loose, Unset}
use Rattle.reg_state.specs.Store.{SlotOf, FrameOf}
use Rattle.reg_state.specs.Store.SlotOf.{Holds, Tagged}
use Rattle.reg_state.specs.Store.FrameOf.{Absent, Slots, Unknown}
use Rattle.reg_state.specs.States.{Known}
use Rattle.action_rules.specs.Fitting.{Bounds}

abbrev pub kind_rank : Kind → ℕ
kind_rank Context = 0
kind_rank Caught = 0
kind_rank Term = 1
kind_rank Loose = 2
kind_rank Unset = 3

-- of the first registers
abbrev pub x_rank : (ℕ → Kind) → ℕ → ℕ
x_rank x zero = 0
x_rank x (suc n) = x_rank x n + kind_rank (x n)

-- a slot that fits holds neither the mark nor what may be it
abbrev pub slot_rank : SlotOf Kind → ℕ
slot_rank (Tagged label kind) = 0
slot_rank (Holds Context) = 0
slot_rank (Holds Caught) = 0
slot_rank (Holds Term) = 1
slot_rank (Holds Loose) = 1
slot_rank (Holds Unset) = 2

abbrev pub slots_rank : List (SlotOf Kind) → ℕ
slots_rank [] = 0
slots_rank (s ∷ ss) = slot_rank s + slots_rank ss

-- of frames with at most y slots
abbrev pub frame_rank : ℕ → FrameOf Kind (Unit {0}) → ℕ
frame_rank y Absent = 0
frame_rank y (Slots ss) = slots_rank ss
frame_rank y (Unknown why) = 2 * y + 1

abbrev pub room_rank : ℕ → ℕ
room_rank zero = 1
room_rank (suc n) = 0

unfoldable pub rank : Bounds → Known → ℕ
rank b s = x_rank s.x b.x + frame_rank b.y s.frame + room_rank s.words + room_rank s.funs

-- one more than the greatest rank
abbrev pub height : Bounds → ℕ
height b = 4 + 3 * b.x + 2 * b.y
