-- Checks one after another, of which the first that fails is told, and checks of slots.
use Rattle.std.proofs.Common.{◌≡◌, ◌∙◌, ℕ, suc, ◌+◌, ◌-◌, ◌<◌, Bool, true, false, not, ◌&&◌, List, length, get_or, take, drop, Option, Some, None, Ok, sym, eq-eqb, add-one, arith, drop-cons}
use Rattle.std.specs.Prelude.{◌==◌, slice_get, ok_or}
use Rattle.std.specs.Option.{option_or}
use Rattle.std.proofs.lemmas.List.{length-map, take-map}
use Rattle.std.proofs.lemmas.Option.{slice_get-map}
use Rattle.bk_base.specs.declared.tag_kind.TagKind.{TagKind}
use Rattle.compact_term.specs.declared.operand.Reg.TheVariants.{X, Y}
use Rattle.reg_state.specs.declared.kind.Kind.{Kind}
use Rattle.reg_state.specs.declared.state.Slot.{Slot}
use Rattle.reg_state.specs.Store.{SlotOf}
use Rattle.reg_state.specs.Store.FrameOf.{Slots}
use Rattle.reg_state.specs.States.{slot_of, slots_of}
use Rattle.action_rules.specs.declared.reason.Reason.{Reason}
use Rattle.action_rules.specs.declared.reason.Reason.TheVariants as reasons
use Rattle.action_rules.specs.KindDomain.{kinds, is_term}
use Rattle.action_rules.specs.Needs.{check, in_slot, is_tagged, is_tagged_as, none_tagged, is_full, full_from, untagged_from, live_from, sized, taggable, untaggable}

pub passes : (b test : Bool) (why other : Reason) (rest : Option Reason) → b ≡ test → None ≡ check b why → option_or (check test other) rest ≡ rest
passes true test why other rest is passed = rw (← is)
passes false test why other rest is passed = absurd (cc)

pub fails : (b test : Bool) (why other told : Reason) (rest : Option Reason) → b ≡ test → why ≡ other → Some told ≡ check b why → Some told ≡ option_or (check test other) rest
fails true test why other told rest is same failed = absurd (cc)
fails false test why other told rest is same failed = rw (← is, ← same) failed

pub full_at : (slots : List Slot) (i : ℕ) (d : Slot) → i < length slots → full_from kinds i (slots_of (drop i slots)) ≡ option_or (check (is_full kinds (slot_of (get_or slots i d))) (reasons.Unset (Y i))) (full_from kinds (i + 1) (slots_of (drop (i + 1) slots)))
full_at slots i d inside = rw (add-one, drop-cons slots i d)

pub untagged_at : (slots : List Slot) (i : ℕ) (d : Slot) → i < length slots → untagged_from i (slots_of (drop i slots)) ≡ option_or (check (not (is_tagged (slot_of (get_or slots i d)))) (reasons.OpenTag (Y i))) (untagged_from (i + 1) (slots_of (drop (i + 1) slots)))
untagged_at slots i d inside = rw (add-one, drop-cons slots i d)

pub live_at : (x : ℕ → Kind) (i n : ℕ) → i < n → live_from kinds x i (n - i) ≡ option_or (check (is_term (x i)) (reasons.Unset (X i))) (live_from kinds x (i + 1) (n - (i + 1)))
live_at x i n inside =
    let more : n - i ≡ suc (n - (i + 1)) = omega arith in
    rw (more, add-one)

-- a slot that is there needs what is asked of it
pub slot_there : (slots : List Slot) (y : ℕ) (s : Slot) (need : SlotOf Kind → Option Reason) → Ok s ≡ ok_or (slice_get slots y) (reasons.Slot (Y y)) → in_slot y (slice_get (slots_of slots) y) need ≡ need (slot_of s)
slot_there slots y s need there =
    let at : slice_get slots y ≡ Some s = grind arith in
    rw (slice_get-map slot_of slots y, at)

front : (n : ℕ) (slots : List Slot) → slots_of (take n slots) ≡ take n (slots_of slots)
front n slots = sym (take-map slot_of n slots)

pub taggable_slots : (slots : List Slot) (y : ℕ) (s : Slot) → Ok s ≡ ok_or (slice_get slots y) (reasons.Slot (Y y)) → check (none_tagged (slots_of (take (y + 1) slots))) (reasons.Order (Y y)) ≡ taggable {C = Unit {0}} y (Slots (slots_of slots))
taggable_slots slots y s there = rw (slot_there slots y s _ there, add-one, front (suc y) slots)

pub untaggable_slots : (slots : List Slot) (y : ℕ) (kind : TagKind) (s : Slot) → Ok s ≡ ok_or (slice_get slots y) (reasons.Slot (Y y)) → check (none_tagged (slots_of (take y slots)) && is_tagged_as kind (slot_of s)) (reasons.Innermost (Y y)) ≡ untaggable {C = Unit {0}} y kind (Slots (slots_of slots))
untaggable_slots slots y kind s there = rw (slot_there slots y s _ there, front y slots)

pub sized_slots : (slots : List Slot) (dropped kept : ℕ) → length slots ≡ dropped + kept → untagged_from 0 (slots_of (take dropped slots)) ≡ sized {C = Unit {0}} (Slots (slots_of slots)) (dropped + kept) dropped
sized_slots slots dropped kept size =
    let fits : (length (slots_of slots) == (dropped + kept)) ≡ true = eq-eqb (length (slots_of slots)) (dropped + kept) (length-map slots slot_of ∙ size) in
    rw (fits, front dropped slots)
