-- Ranks keep the order of states that fit, and two such states of the same rank, one below the other, are below each other.
use Rattle.std.proofs.Common.{◌≡◌, ◌⊎◌, ℕ, zero, suc, ◌+◌, ◌*◌, ◌<◌, ◌≤◌, true, List, [], ◌∷◌, length, refl, sym, subst, inl, inr, arith}
use Rattle.std.specs.List.{list_all}
use Rattle.std.proofs.lemmas.Bool.{and_parts}
use Rattle.reg_state.specs.declared.kind.Kind.{Kind}
use Rattle.reg_state.specs.declared.kind.Kind.TheVariants.{Unset}
use Rattle.reg_state.specs.Store.{SlotOf, FrameOf}
use Rattle.reg_state.specs.Store.SlotOf.{Holds}
use Rattle.reg_state.specs.Store.FrameOf.{Absent, Slots, Unknown}
use Rattle.reg_state.specs.Related.{SlotRel, SlotsRel, FrameRel, Reserved}
use Rattle.reg_state.specs.Related.SlotRel.{both_hold, both_tagged}
use Rattle.reg_state.specs.Related.SlotsRel.{none, more}
use Rattle.reg_state.specs.Related.FrameRel.{both_absent, both_slots, not_known}
use Rattle.reg_state.specs.Kinds.{KindBelow}
use Rattle.reg_state.specs.States.{Known, IsBelow}
use Rattle.action_rules.specs.Fitting.{Bounds, slot_kind_fits, slot_fits, frame_fits, Fits}
use Rattle.flow_rules.specs.Ranks.{kind_rank, x_rank, slot_rank, slots_rank, frame_rank, room_rank, rank, height}
use Rattle.flow_rules.specs.EdgeLaws.{slots_parted}

-- ---- the greatest ranks

kind_within : (a : Kind) → kind_rank a ≤ 3
kind_within a = grind arith

x_within : (x : ℕ → Kind) (n : ℕ) → x_rank x n ≤ 3 * n
x_within x zero = omega arith
x_within x (suc n) = let fewer = x_within x n in let last = kind_within (x n) in omega (arith, fewer, last)

slot_within : (s : SlotOf Kind) → slot_rank s ≤ 2
slot_within s = grind arith

slots_within : (ss : List (SlotOf Kind)) → slots_rank ss ≤ 2 * length ss
slots_within [] = omega arith
slots_within (s ∷ ss) = let first = slot_within s in let rest = slots_within ss in omega (arith, first, rest)

-- frames that are known rank below the one that isn't
known_slots_within : (b : Bounds) (ss : List (SlotOf Kind)) → frame_fits b (Slots ss) ≡ true → slots_rank ss ≤ 2 * b.y
known_slots_within b ss fit = let few = (slots_parted b ss fit).0 in let each = slots_within ss in omega (arith, few, each)

frame_within : (b : Bounds) (f : FrameOf Kind (Unit {0})) → frame_fits b f ≡ true → frame_rank b.y f ≤ 2 * b.y + 1
frame_within b Absent fit = omega arith
frame_within b (Slots ss) fit = let few = known_slots_within b ss fit in omega (arith, few)
frame_within b (Unknown why) fit = omega arith

room_within : (n : ℕ) → room_rank n ≤ 1
room_within zero = omega arith
room_within (suc n) = omega arith

pub rank_within : (b : Bounds) (s : Known) → Fits b s → rank b s < height b
unfolding rank
rank_within b s fit =
    let x = x_within s.x b.x in
    let frame = frame_within b s.frame fit.frame in
    let words = room_within s.words in
    let funs = room_within s.funs in
    omega (arith, x, frame, words, funs)

-- ---- what is above has no lower rank

kind_rises : (a b : Kind) → KindBelow a b → kind_rank a ≤ kind_rank b
kind_rises a b below = grind arith

x_rises : (x z : ℕ → Kind) (n : ℕ) → ((i : ℕ) → KindBelow (x i) (z i)) → x_rank x n ≤ x_rank z n
x_rises x z zero below = omega arith
x_rises x z (suc n) below = let fewer = x_rises x z n below in let last = kind_rises (x n) (z n) (below n) in omega (arith, fewer, last)

held_rises : (a b : Kind) → KindBelow a b → slot_rank (Holds a) ≤ slot_rank (Holds b)
held_rises a b below = grind arith

slot_rises : {s t : SlotOf Kind} → SlotRel KindBelow s t → slot_rank s ≤ slot_rank t
slot_rises (both_hold {a = a} {b = b} below) = held_rises a b below
slot_rises (both_tagged label kind) = omega arith

slots_rise : {ss ts : List (SlotOf Kind)} → SlotsRel KindBelow ss ts → slots_rank ss ≤ slots_rank ts
slots_rise none = omega arith
slots_rise (more slot slots) = let first = slot_rises slot in let rest = slots_rise slots in omega (arith, first, rest)

frame_rises : (b : Bounds) {f g : FrameOf Kind (Unit {0})} → FrameRel KindBelow f g → frame_fits b f ≡ true → frame_rank b.y f ≤ frame_rank b.y g
frame_rises b both_absent fit = omega arith
frame_rises b (both_slots related) fit = slots_rise related
frame_rises b (not_known f why) fit = frame_within b f fit

room_rises : (m n : ℕ) → Reserved m n → room_rank m ≤ room_rank n
room_rises m n (inl same) = subst (λ (k : ℕ). room_rank m ≤ room_rank k) same (omega arith)
room_rises m n (inr no_room) = let most = room_within m in subst (λ (k : ℕ). room_rank m ≤ room_rank k) (sym no_room) most

pub rank_keeps : (b : Bounds) (s t : Known) → Fits b s → IsBelow s t → rank b s ≤ rank b t
unfolding rank
rank_keeps b s t fit below =
    let x = x_rises s.x t.x b.x below.x in
    let frame = frame_rises b below.frame fit.frame in
    let words = room_rises s.words t.words below.words in
    let funs = room_rises s.funs t.funs below.funs in
    omega (arith, x, frame, words, funs)

-- ---- what is above with no higher rank is below too

kind_back : (a b : Kind) → KindBelow a b → kind_rank b ≤ kind_rank a → KindBelow b a
kind_back a b below low = grind arith

x_back : (x z : ℕ → Kind) (n : ℕ) → ((i : ℕ) → KindBelow (x i) (z i)) → x_rank z n ≤ x_rank x n → (i : ℕ) → i < n → KindBelow (z i) (x i)
x_back x z zero below low i inside = absurd (omega (arith, inside))
x_back x z (suc n) below low i inside =
    let fewer = x_rises x z n below in
    let last = kind_rises (x n) (z n) (below n) in
    let earlier = x_back x z n below (omega (arith, fewer, last, low)) i in
    elim (apart i n inside) [
      | inl before ↦ earlier before
      | inr is ↦ subst (λ (k : ℕ). KindBelow (z k) (x k)) (sym is) (kind_back (x n) (z n) (below n) (omega (arith, fewer, last, low)))
    ] where
      apart : (i n : ℕ) → i < suc n → (i < n) ⊎ (i ≡ n)
      apart i n inside = grind arith

held_back : (a b : Kind) → slot_kind_fits a ≡ true → slot_kind_fits b ≡ true → KindBelow a b → slot_rank (Holds b) ≤ slot_rank (Holds a) → KindBelow b a
held_back a b first second below low = grind arith

slot_back : (b : Bounds) {s t : SlotOf Kind} → SlotRel KindBelow s t → slot_fits b s ≡ true → slot_fits b t ≡ true → slot_rank t ≤ slot_rank s → SlotRel KindBelow t s
slot_back b (both_hold {a = a} {b = c} below) first second low = both_hold (held_back a c first second below low)
slot_back b (both_tagged label kind) first second low = both_tagged label kind

slots_back : (b : Bounds) {ss ts : List (SlotOf Kind)} → SlotsRel KindBelow ss ts → list_all (slot_fits b) ss ≡ true → list_all (slot_fits b) ts ≡ true → slots_rank ts ≤ slots_rank ss → SlotsRel KindBelow ts ss
slots_back b none first second low = none
slots_back b (more {s = s} {t = t} {ss = ss} {ts = ts} slot slots) first second low =
    let one = and_parts (slot_fits b s) (list_all (slot_fits b) ss) first in
    let other = and_parts (slot_fits b t) (list_all (slot_fits b) ts) second in
    let rises = slot_rises slot in
    let rest = slots_rise slots in
    more (slot_back b slot one.0 other.0 (omega (arith, rises, rest, low))) (slots_back b slots one.1 other.1 (omega (arith, rises, rest, low)))

not_known_back : (b : Bounds) (f : FrameOf Kind (Unit {0})) (why : Unit {0}) → frame_fits b f ≡ true → 2 * b.y + 1 ≤ frame_rank b.y f → FrameRel {C = Unit {0}} {E = Unit {0}} KindBelow (Unknown why) f
not_known_back b Absent why fit low = absurd (omega (arith, low))
not_known_back b (Slots ss) why fit low = let few = known_slots_within b ss fit in absurd (omega (arith, low, few))
not_known_back b (Unknown other) why fit low = not_known (Unknown why) other

frame_back : (b : Bounds) {f g : FrameOf Kind (Unit {0})} → FrameRel KindBelow f g → frame_fits b f ≡ true → frame_fits b g ≡ true → frame_rank b.y g ≤ frame_rank b.y f → FrameRel KindBelow g f
frame_back b both_absent first second low = both_absent
frame_back b (both_slots {ss = ss} {ts = ts} related) first second low = both_slots (slots_back b related (slots_parted b ss first).1 (slots_parted b ts second).1 low)
frame_back b (not_known f why) first second low = not_known_back b f why first low

none_left : (m : ℕ) → 1 ≤ room_rank m → m ≡ 0
none_left zero low = refl
none_left (suc m) low = absurd (omega (arith, low))

room_back : (m n : ℕ) → Reserved m n → room_rank n ≤ room_rank m → Reserved n m
room_back m n (inl same) low = inl (sym same)
room_back m n (inr no_room) low = inr (none_left m (subst (λ (k : ℕ). room_rank k ≤ room_rank m) no_room low))

pub no_rise_back : (b : Bounds) (s t : Known) → Fits b s → Fits b t → IsBelow s t → rank b t ≤ rank b s → IsBelow t s
unfolding rank
no_rise_back b s t first second below low =
    let xs = x_rises s.x t.x b.x below.x in
    let frames = frame_rises b below.frame first.frame in
    let words = room_rises s.words t.words below.words in
    let funs = room_rises s.funs t.funs below.funs in
    record {
      x = λ i. elim (sides i b.x) [
        | inl inside ↦ x_back s.x t.x b.x below.x (omega (arith, xs, frames, words, funs, low)) i inside
        | inr outside ↦ both_unset (t.x i) (s.x i) (second.registers i outside) (first.registers i outside)
      ];
      frame = frame_back b below.frame first.frame second.frame (omega (arith, xs, frames, words, funs, low));
      words = room_back s.words t.words below.words (omega (arith, xs, frames, words, funs, low));
      funs = room_back s.funs t.funs below.funs (omega (arith, xs, frames, words, funs, low));
    } where
      sides : (i n : ℕ) → (i < n) ⊎ (n ≤ i)
      sides i n = grind arith

      both_unset : (a c : Kind) → a ≡ Unset → c ≡ Unset → KindBelow a c
      both_unset a c one other = grind arith
