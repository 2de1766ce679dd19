-- The order of states is a partial order.
use Rattle.std.proofs.Common.{◌≡◌, ℕ, List, [], ◌∷◌, refl, ap, inl, arith}
use Rattle.reg_state.specs.declared.kind.Kind.{Kind}
use Rattle.reg_state.specs.Store.{SlotOf, FrameOf, Store}
use Rattle.reg_state.specs.Store.SlotOf.{Holds, Tagged}
use Rattle.reg_state.specs.Store.FrameOf.{Absent, Slots, Unknown}
use Rattle.reg_state.specs.Related.{SlotRel, SlotsRel, FrameRel, Reserved, StoreRel}
use Rattle.reg_state.specs.Related.SlotRel.{both_hold, both_tagged}
use Rattle.reg_state.specs.Related.SlotsRel.{none, more}
use Rattle.reg_state.specs.Related.FrameRel.{both_absent, both_slots, not_known}
use Rattle.reg_state.specs.Kinds.{KindBelow}
use Rattle.reg_state.specs.States.{Known, IsBelow}

kind_on_itself : (a : Kind) → KindBelow a a
kind_on_itself a = grind arith

kind_through : (a b c : Kind) → KindBelow a b → KindBelow b c → KindBelow a c
kind_through a b c below above = grind arith

kind_same : (a b : Kind) → KindBelow a b → KindBelow b a → a ≡ b
kind_same a b below above = grind arith

pub slot_on_itself : (s : SlotOf Kind) → SlotRel KindBelow s s
slot_on_itself (Holds a) = both_hold (kind_on_itself a)
slot_on_itself (Tagged label kind) = both_tagged label kind

slots_on_themselves : (ss : List (SlotOf Kind)) → SlotsRel KindBelow ss ss
slots_on_themselves [] = none
slots_on_themselves (s ∷ ss) = more (slot_on_itself s) (slots_on_themselves ss)

frame_on_itself : (f : FrameOf Kind (Unit {0})) → FrameRel KindBelow f f
frame_on_itself Absent = both_absent
frame_on_itself (Slots ss) = both_slots (slots_on_themselves ss)
frame_on_itself (Unknown why) = not_known (Unknown why) why

pub reflexive : (s : Known) → IsBelow s s
reflexive s = record {
  x = λ i. kind_on_itself (s.x i);
  frame = frame_on_itself s.frame;
  words = inl refl;
  funs = inl refl;
}

number_through : (a b c : ℕ) → Reserved a b → Reserved b c → Reserved a c
number_through a b c p q = grind arith

-- what is related to what is related to a third, where the contents of the first and the third are related then
module _ {A B D : Type 0} {R : A → B → Type 0} {S : B → D → Type 0} {P : A → D → Type 0} (through : (a : A) (b : B) (d : D) → R a b → S b d → P a d) where
  slot_through : {s : SlotOf A} {t : SlotOf B} {u : SlotOf D} → SlotRel R s t → SlotRel S t u → SlotRel P s u
  slot_through (both_hold {a = a} {b = b} p) (both_hold {b = d} q) = both_hold (through a b d p q)
  slot_through (both_tagged label kind) (both_tagged other same) = both_tagged label kind

  slots_through : {ss : List (SlotOf A)} {ts : List (SlotOf B)} {us : List (SlotOf D)} → SlotsRel R ss ts → SlotsRel S ts us → SlotsRel P ss us
  slots_through none none = none
  slots_through (more p ps) (more q qs) = more (slot_through p q) (slots_through ps qs)

  frame_through : {C E F : Type 0} {f : FrameOf A C} {g : FrameOf B E} {h : FrameOf D F} → FrameRel R f g → FrameRel S g h → FrameRel P f h
  frame_through both_absent both_absent = both_absent
  frame_through both_absent (not_known _ why) = not_known Absent why
  frame_through (both_slots ps) (both_slots qs) = both_slots (slots_through ps qs)
  frame_through (both_slots {ss = ss} ps) (not_known _ why) = not_known (Slots ss) why
  frame_through (not_known f _) (not_known _ why) = not_known f why

  pub stores_through : {C E F : Type 0} (s : Store A C) (t : Store B E) (u : Store D F) → StoreRel R s t → StoreRel S t u → StoreRel P s u
  stores_through s t u below above = record {
    x = λ i. through (s.x i) (t.x i) (u.x i) (below.x i) (above.x i);
    frame = frame_through below.frame above.frame;
    words = number_through s.words t.words u.words below.words above.words;
    funs = number_through s.funs t.funs u.funs below.funs above.funs;
  }

pub transitive : (s t u : Known) → IsBelow s t → IsBelow t u → IsBelow s u
transitive s t u below above = stores_through kind_through s t u below above

slot_same : {s t : SlotOf Kind} → SlotRel KindBelow s t → SlotRel KindBelow t s → s ≡ t
slot_same (both_hold {a = a} {b = b} p) (both_hold q) = ap Holds (kind_same a b p q)
slot_same (both_tagged label kind) _ = refl

slots_same : {ss ts : List (SlotOf Kind)} → SlotsRel KindBelow ss ts → SlotsRel KindBelow ts ss → ss ≡ ts
slots_same none none = refl
slots_same (more p ps) (more q qs) = let first = slot_same p q in let rest = slots_same ps qs in cc

frame_same : {f g : FrameOf Kind (Unit {0})} → FrameRel KindBelow f g → FrameRel KindBelow g f → f ≡ g
frame_same both_absent _ = refl
frame_same (both_slots ps) (both_slots qs) = ap Slots (slots_same ps qs)
frame_same (not_known _ _) (not_known _ _) = refl

number_same : (a b : ℕ) → Reserved a b → Reserved b a → a ≡ b
number_same a b p q = grind arith

-- states with the same parts are the same
pub same_parts : (s t : Known) → ((i : ℕ) → s.x i ≡ t.x i) → s.frame ≡ t.frame → s.words ≡ t.words → s.funs ≡ t.funs → s ≡ t
same_parts s t x frame words funs = λ j. record { x = λ i. x i j; frame = frame j; words = words j; funs = funs j }

pub same : (s t : Known) → IsBelow s t → IsBelow t s → s ≡ t
same s t below above =
    same_parts s t (λ i. kind_same (s.x i) (t.x i) (below.x i) (above.x i)) (frame_same below.frame above.frame) (number_same s.words t.words below.words above.words) (number_same s.funs t.funs below.funs above.funs)
