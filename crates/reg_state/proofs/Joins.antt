-- The join of two states is the least one above both.
use Rattle.std.proofs.Common.{◌≡◌, ℕ, Bool, true, false, cond, eqb, List, [], ◌∷◌, refl, sym, subst, eq-eqb, arith}
use Rattle.std.proofs.lemmas.Bool.{false≢true, and_parts, eqb-true}
use Rattle.std.proofs.lemmas.Bool.Decides.{nat_tests}
use Rattle.bk_base.specs.declared.tag_kind.TagKind.{TagKind}
use Rattle.reg_state.specs.declared.kind.Kind.{Kind}
use Rattle.reg_state.specs.Store.{SlotOf, FrameOf}
use Rattle.reg_state.specs.Store.SlotOf.{Holds, Tagged}
use Rattle.reg_state.specs.Store.FrameOf.{Absent, Slots, Unknown}
use Rattle.reg_state.specs.Related.{SlotRel, SlotsRel, FrameRel, Reserved}
use Rattle.reg_state.specs.Related.SlotRel.{both_hold, both_tagged}
use Rattle.reg_state.specs.Related.SlotsRel.{none, more}
use Rattle.reg_state.specs.Related.FrameRel.{both_absent, both_slots, not_known}
use Rattle.reg_state.specs.Kinds.{KindBelow, joined_kind}
use Rattle.reg_state.specs.States.{Known, IsBelow}
use Rattle.reg_state.specs.Join.{IsLeastAbove, same_tag_kind, tagged_alike, are_alike, joined_slot, joined_slots, joined_frame, joined_number, joined}
use Rattle.reg_state.specs.Ordered.{slot_on_itself, reflexive, same, same_parts}

kind_first : (a b : Kind) → KindBelow a (joined_kind a b)
kind_first a b = grind arith

kind_second : (a b : Kind) → KindBelow b (joined_kind a b)
kind_second a b = grind arith

kind_least : (a b c : Kind) → KindBelow a c → KindBelow b c → KindBelow (joined_kind a b) c
kind_least a b c p q = grind arith

slot_first : (s t : SlotOf Kind) → SlotRel KindBelow s (joined_slot s t)
slot_first (Holds a) (Holds b) = both_hold (kind_first a b)
slot_first (Holds a) (Tagged _ _) = slot_on_itself (Holds a)
slot_first (Tagged label kind) _ = both_tagged label kind

same_kind_is : (k j : TagKind) → same_tag_kind k j ≡ true → k ≡ j
same_kind_is k j e = grind arith

abbrev pub tagged : ℕ → TagKind → SlotOf Kind
tagged label kind = Tagged label kind

-- slots that are tagged alike are tagged with the same tag
pub same_tag_is : (l m : ℕ) (k j : TagKind) → tagged_alike (tagged l k) (tagged m j) ≡ true → tagged l k ≡ tagged m j
same_tag_is l m k j e =
    let both = and_parts (eqb l m) (same_tag_kind k j) e in
    let label : l ≡ m = eqb-true l m both.0 in
    let kind = same_kind_is k j both.1 in
    cc

slot_second : (s t : SlotOf Kind) → tagged_alike s t ≡ true → SlotRel KindBelow t (joined_slot s t)
slot_second (Holds a) (Holds b) _ = both_hold (kind_second a b)
slot_second (Holds _) (Tagged _ _) e = absurd (false≢true e)
slot_second (Tagged _ _) (Holds _) e = absurd (false≢true e)
slot_second (Tagged l k) (Tagged m j) e = subst (λ s. SlotRel KindBelow s (Tagged l k)) (same_tag_is l m k j e) (both_tagged l k)

slot_least : {s t u : SlotOf Kind} → SlotRel KindBelow s u → SlotRel KindBelow t u → SlotRel KindBelow (joined_slot s t) u
slot_least (both_hold {a = a} {b = c} p) (both_hold {a = b} q) = both_hold (kind_least a b c p q)
slot_least (both_tagged label kind) _ = both_tagged label kind

slots_first : (ss ts : List (SlotOf Kind)) → are_alike ss ts ≡ true → SlotsRel KindBelow ss (joined_slots ss ts)
slots_first [] [] _ = none
slots_first [] (_ ∷ _) e = absurd (false≢true e)
slots_first (_ ∷ _) [] e = absurd (false≢true e)
slots_first (s ∷ ss) (t ∷ ts) e = let both = and_parts (tagged_alike s t) (are_alike ss ts) e in more (slot_first s t) (slots_first ss ts both.1)

slots_second : (ss ts : List (SlotOf Kind)) → are_alike ss ts ≡ true → SlotsRel KindBelow ts (joined_slots ss ts)
slots_second [] [] _ = none
slots_second [] (_ ∷ _) e = absurd (false≢true e)
slots_second (_ ∷ _) [] e = absurd (false≢true e)
slots_second (s ∷ ss) (t ∷ ts) e = let both = and_parts (tagged_alike s t) (are_alike ss ts) e in more (slot_second s t both.0) (slots_second ss ts both.1)

slots_least : {ss ts us : List (SlotOf Kind)} → SlotsRel KindBelow ss us → SlotsRel KindBelow ts us → SlotsRel KindBelow (joined_slots ss ts) us
slots_least none none = none
slots_least (more p ps) (more q qs) = more (slot_least p q) (slots_least ps qs)

same_tag_kind_itself : (k : TagKind) → same_tag_kind k k ≡ true
same_tag_kind_itself k = grind arith

-- what is below the same slot is tagged alike
pub alike_below : {s t u : SlotOf Kind} → SlotRel KindBelow s u → SlotRel KindBelow t u → tagged_alike s t ≡ true
alike_below (both_hold _) (both_hold _) = refl
alike_below (both_tagged l k) (both_tagged _ _) = let label = eq-eqb l l refl in let kind = same_tag_kind_itself k in rw (label, kind)

all_alike_below : {ss ts us : List (SlotOf Kind)} → SlotsRel KindBelow ss us → SlotsRel KindBelow ts us → are_alike ss ts ≡ true
all_alike_below none none = refl
all_alike_below (more p ps) (more q qs) = let first = alike_below p q in let rest = all_alike_below ps qs in rw (first, rest)

-- slots that are below joined ones where frames are alike: the frame is below the join
slots_bound : (ss joint : List (SlotOf Kind)) (alike : Bool) → (alike ≡ true → SlotsRel KindBelow ss joint) → FrameRel {C = Unit {0}} {E = Unit {0}} KindBelow (Slots ss) (cond alike (Slots joint) (Unknown tt))
slots_bound ss joint true below = both_slots (below refl)
slots_bound ss joint false below = not_known (Slots ss) tt

frame_first : (f g : FrameOf Kind (Unit {0})) → FrameRel KindBelow f (joined_frame f g)
frame_first Absent Absent = both_absent
frame_first Absent (Slots _) = not_known Absent tt
frame_first Absent (Unknown _) = not_known Absent tt
frame_first (Slots ss) Absent = not_known (Slots ss) tt
frame_first (Slots ss) (Slots ts) = slots_bound ss (joined_slots ss ts) (are_alike ss ts) (slots_first ss ts)
frame_first (Slots ss) (Unknown _) = not_known (Slots ss) tt
frame_first (Unknown why) _ = not_known (Unknown why) tt

frame_second : (f g : FrameOf Kind (Unit {0})) → FrameRel KindBelow g (joined_frame f g)
frame_second Absent Absent = both_absent
frame_second Absent (Slots ts) = not_known (Slots ts) tt
frame_second Absent (Unknown why) = not_known (Unknown why) tt
frame_second (Slots _) Absent = not_known Absent tt
frame_second (Slots ss) (Slots ts) = slots_bound ts (joined_slots ss ts) (are_alike ss ts) (slots_second ss ts)
frame_second (Slots _) (Unknown why) = not_known (Unknown why) tt
frame_second (Unknown _) g = not_known g tt

frame_least : {f g h : FrameOf Kind (Unit {0})} → FrameRel KindBelow f h → FrameRel KindBelow g h → FrameRel KindBelow (joined_frame f g) h
frame_least both_absent both_absent = both_absent
frame_least (both_slots ps) (both_slots qs) = let alike = all_alike_below ps qs in rw alike (both_slots (slots_least ps qs))
frame_least {f = f} {g = g} (not_known _ why) (not_known _ _) = not_known (joined_frame f g) why

number_first : (a b : ℕ) → Reserved a (joined_number a b)
number_first a b = grind (arith, nat_tests)

number_second : (a b : ℕ) → Reserved b (joined_number a b)
number_second a b = grind (arith, nat_tests)

number_least : (a b c : ℕ) → Reserved a c → Reserved b c → Reserved (joined_number a b) c
number_least a b c p q = grind (arith, nat_tests)

pub joined_is_least : (s t : Known) → IsLeastAbove s t (joined s t)
joined_is_least s t = record {
  first = record {
    x = λ i. kind_first (s.x i) (t.x i);
    frame = frame_first s.frame t.frame;
    words = number_first s.words t.words;
    funs = number_first s.funs t.funs;
  };
  second = record {
    x = λ i. kind_second (s.x i) (t.x i);
    frame = frame_second s.frame t.frame;
    words = number_second s.words t.words;
    funs = number_second s.funs t.funs;
  };
  below = λ u p q. record {
    x = λ i. kind_least (s.x i) (t.x i) (u.x i) (p.x i) (q.x i);
    frame = frame_least p.frame q.frame;
    words = number_least s.words t.words u.words p.words q.words;
    funs = number_least s.funs t.funs u.funs p.funs q.funs;
  };
}

-- a state that the other is below is their join
pub joined_below : (s t : Known) → IsBelow t s → s ≡ joined s t
joined_below s t below = let least = joined_is_least s t in same s (joined s t) least.first (least.below s (reflexive s) below)

-- a state whose parts are those of the join is the least one above both
pub parts_of_least : (s t new : Known) → ((i : ℕ) → new.x i ≡ joined_kind (s.x i) (t.x i)) → new.frame ≡ joined_frame s.frame t.frame → new.words ≡ joined_number s.words t.words → new.funs ≡ joined_number s.funs t.funs → IsLeastAbove s t new
parts_of_least s t new x frame words funs =
    subst (λ least. IsLeastAbove s t least) (sym (same_parts new (joined s t) x frame words funs)) (joined_is_least s t)
