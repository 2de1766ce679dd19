-- Lists of slots that are related, alike or joined are so slot by slot.
use Rattle.std.proofs.Common.{◌≡◌, ◌∙◌, ◌↔◌, ℕ, zero, suc, ◌<◌, Bool, true, IsTrue, List, [], ◌∷◌, length, get_or, refl, sym, subst, arith}
use Rattle.std.specs.Prelude.{T}
use Rattle.std.proofs.lemmas.Bool.{false≢true, and_parts, and_from}
use Rattle.reg_state.specs.declared.state.Slot.{Slot}
use Rattle.reg_state.specs.declared.kind.Kind.{Kind}
use Rattle.bk_base.specs.declared.tag_kind.TagKind.{TagKind}
use Rattle.reg_state.specs.Store.{SlotOf}
use Rattle.reg_state.specs.Store.SlotOf.{Holds, Tagged}
use Rattle.reg_state.specs.Store.FrameOf.{Slots}
use Rattle.reg_state.specs.Related.{SlotRel, SlotsRel, FrameRel}
use Rattle.reg_state.specs.Related.SlotRel.{both_hold, both_tagged}
use Rattle.reg_state.specs.Related.SlotsRel.{none, more}
use Rattle.reg_state.specs.Related.FrameRel.{both_slots}
use Rattle.reg_state.specs.Kinds.{kind_below, KindBelow}
use Rattle.reg_state.specs.States.{slot_of, slots_of}
use Rattle.reg_state.specs.Join.{tagged_alike, are_alike, joined_slot, joined_slots}
use Rattle.reg_state.specs.Ordered.{slot_on_itself}
use Rattle.reg_state.proofs.Joins.{tagged, same_tag_is, alike_below}

-- what holds of each place of two lists that begin with x and y holds of x and y
at_first : (R : Slot → Slot → Type 0) (x y : Slot) (xs ys : List Slot) → ((k : ℕ) → k < length (x ∷ xs) → (d : Slot) → R (get_or (x ∷ xs) k d) (get_or (y ∷ ys) k d)) → R x y
at_first R x y xs ys each = each zero (omega arith) x

-- and of each place of the rest
at_rest : (R : Slot → Slot → Type 0) (x y : Slot) (xs ys : List Slot) → ((k : ℕ) → k < length (x ∷ xs) → (d : Slot) → R (get_or (x ∷ xs) k d) (get_or (y ∷ ys) k d)) → (k : ℕ) → k < length xs → (d : Slot) → R (get_or xs k d) (get_or ys k d)
at_rest R x y xs ys each k inside d = each (suc k) (omega arith) d

pub related_size : (xs ys : List Slot) → SlotsRel KindBelow (slots_of xs) (slots_of ys) → length xs ≡ length ys
related_size [] [] none = refl
related_size [] (_ ∷ _) related = elim related [ ]
related_size (_ ∷ _) [] related = elim related [ ]
related_size (x ∷ xs) (y ∷ ys) (more _ rest) = let size = related_size xs ys rest in omega arith

pub related_at : (xs ys : List Slot) (k : ℕ) (d : Slot) → k < length xs → SlotsRel KindBelow (slots_of xs) (slots_of ys) → SlotRel KindBelow (slot_of (get_or xs k d)) (slot_of (get_or ys k d))
related_at [] ys k d inside related = absurd (omega arith)
related_at (_ ∷ _) [] k d inside related = elim related [ ]
related_at (x ∷ xs) (y ∷ ys) zero d inside (more first _) = first
related_at (x ∷ xs) (y ∷ ys) (suc k) d inside (more _ rest) = related_at xs ys k d (omega arith) rest

pub related_from : (xs ys : List Slot) → length xs ≡ length ys → ((k : ℕ) → k < length xs → (d : Slot) → SlotRel KindBelow (slot_of (get_or xs k d)) (slot_of (get_or ys k d))) → SlotsRel KindBelow (slots_of xs) (slots_of ys)
related_from [] [] size each = none
related_from [] (_ ∷ _) size each = absurd (omega arith)
related_from (_ ∷ _) [] size each = absurd (omega arith)
related_from (x ∷ xs) (y ∷ ys) size each =
    let below = λ (s t : Slot). SlotRel KindBelow (slot_of s) (slot_of t) in
    more (at_first below x y xs ys each) (related_from xs ys (omega arith) (at_rest below x y xs ys each))

pub alike_size : (xs ys : List Slot) → are_alike (slots_of xs) (slots_of ys) ≡ true → length xs ≡ length ys
alike_size [] [] _ = refl
alike_size [] (_ ∷ _) e = absurd (false≢true e)
alike_size (_ ∷ _) [] e = absurd (false≢true e)
alike_size (x ∷ xs) (y ∷ ys) e =
    let rest = (and_parts (tagged_alike (slot_of x) (slot_of y)) (are_alike (slots_of xs) (slots_of ys)) e).1 in
    let size = alike_size xs ys rest in
    omega arith

pub alike_at : (xs ys : List Slot) (k : ℕ) (d : Slot) → k < length xs → are_alike (slots_of xs) (slots_of ys) ≡ true → tagged_alike (slot_of (get_or xs k d)) (slot_of (get_or ys k d)) ≡ true
alike_at [] ys k d inside e = absurd (omega arith)
alike_at (_ ∷ _) [] k d inside e = absurd (false≢true e)
alike_at (x ∷ xs) (y ∷ ys) zero d inside e = (and_parts _ _ e).0
alike_at (x ∷ xs) (y ∷ ys) (suc k) d inside e = alike_at xs ys k d (omega arith) (and_parts _ _ e).1

pub alike_from : (xs ys : List Slot) → length xs ≡ length ys → ((k : ℕ) → k < length xs → (d : Slot) → tagged_alike (slot_of (get_or xs k d)) (slot_of (get_or ys k d)) ≡ true) → are_alike (slots_of xs) (slots_of ys) ≡ true
alike_from [] [] size each = refl
alike_from [] (_ ∷ _) size each = absurd (omega arith)
alike_from (_ ∷ _) [] size each = absurd (omega arith)
alike_from (x ∷ xs) (y ∷ ys) size each =
    let alike = λ (s t : Slot). tagged_alike (slot_of s) (slot_of t) ≡ true in
    and_from _ _ (at_first alike x y xs ys each) (alike_from xs ys (omega arith) (at_rest alike x y xs ys each))

pub joined_from : (zs xs ys : List Slot) → length zs ≡ length xs → length xs ≡ length ys → ((k : ℕ) → k < length zs → (d : Slot) → slot_of (get_or zs k d) ≡ joined_slot (slot_of (get_or xs k d)) (slot_of (get_or ys k d))) → slots_of zs ≡ joined_slots (slots_of xs) (slots_of ys)
joined_from [] [] ys _ _ each = refl
joined_from [] (_ ∷ _) ys size _ each = absurd (omega arith)
joined_from (_ ∷ _) [] ys size _ each = absurd (omega arith)
joined_from (_ ∷ _) (_ ∷ _) [] _ size each = absurd (omega arith)
joined_from (z ∷ zs) (x ∷ xs) (y ∷ ys) size same each =
    let first : slot_of z ≡ joined_slot (slot_of x) (slot_of y) = each zero (omega arith) z in
    let rest = joined_from zs xs ys (omega arith) (omega arith) (λ k inside d. each (suc k) (omega arith) d) in
    cc

held_from : {a b : Kind} → SlotRel KindBelow (Holds a) (Holds b) → KindBelow a b
held_from (both_hold below) = below

-- slots that hold something are related where that is
pub held : (a b : Kind) (r : Bool) → r ≡ kind_below a b → IsTrue r ↔ SlotRel KindBelow (Holds a) (Holds b)
held a b r is = (λ e. both_hold (subst T (sym e ∙ is) tt), λ related. grind (arith, is, held_from related))

tag_from : (l : ℕ) (k : TagKind) (t : SlotOf Kind) → tagged_alike (tagged l k) t ≡ true → SlotRel KindBelow (tagged l k) t
tag_from l k (Holds _) e = absurd (false≢true e)
tag_from l k (Tagged m j) e = subst (λ t. SlotRel KindBelow (tagged l k) t) (same_tag_is l m k j e) (both_tagged l k)

-- a tag is related to what is tagged alike
pub beside_tag : (l : ℕ) (k : TagKind) (t : SlotOf Kind) (r : Bool) → r ≡ tagged_alike (tagged l k) t → IsTrue r ↔ SlotRel KindBelow (tagged l k) t
beside_tag l k t r is = (λ e. tag_from l k t (sym is ∙ e), λ related. is ∙ alike_below related (slot_on_itself t))

-- and nothing else is related to one
pub before_tag : (a : Kind) (l : ℕ) (k : TagKind) (r : Bool) → r ≡ tagged_alike (Holds a) (tagged l k) → IsTrue r ↔ SlotRel KindBelow (Holds a) (tagged l k)
before_tag a l k r is = (λ e. absurd (false≢true (sym is ∙ e)), λ related. elim related [ ])

slots_in : {ss ts : List (SlotOf Kind)} → FrameRel {C = Unit {0}} {E = Unit {0}} KindBelow (Slots ss) (Slots ts) → SlotsRel KindBelow ss ts
slots_in (both_slots related) = related

-- frames of slots are related where the slots are
pub of_slots : (ss ts us vs : List Slot) (r : Bool) → us ≡ ss → vs ≡ ts → (IsTrue r ↔ SlotsRel KindBelow (slots_of us) (slots_of vs)) → IsTrue r ↔ FrameRel {C = Unit {0}} {E = Unit {0}} KindBelow (Slots (slots_of ss)) (Slots (slots_of ts))
of_slots ss ts us vs r first second told =
    rw (← first, ← second) (λ e. both_slots (told.0 e), λ related. told.1 (slots_in related))
