-- What changes of lists of slots do to the slots that they stand for.
use Rattle.std.proofs.Common.{◌≡◌, ◌∙◌, ℕ, zero, suc, ◌+◌, ◌<◌, ◌≤◌, List, [], ◌∷◌, length, drop, set, replicate, Some, None, refl, sym, ap, eq-eqb, arith}
use Rattle.std.specs.Prelude.{slice_get, ◌==◌}
use Rattle.std.proofs.lemmas.Bool.{cond-true}
use Rattle.std.proofs.lemmas.List.{length-map, drop-map}
use Rattle.reg_state.specs.declared.kind.Kind.{Kind}
use Rattle.reg_state.specs.declared.kind.Kind.TheVariants.{Unset}
use Rattle.reg_state.specs.declared.state.Slot.{Slot}
use Rattle.reg_state.specs.declared.state.Slot.TheVariants.{Is}
use Rattle.reg_state.specs.Store.SlotOf.{Holds}
use Rattle.reg_state.specs.Store.FrameOf.{Slots}
use Rattle.reg_state.specs.States.{slot_of, slots_of}
use Rattle.action_rules.specs.Effects.{overwritten, write_slot, put_slot, trimmed}
use Rattle.action_rules.specs.KindDomain.{kinds}

-- a slot that is there is overwritten
pub written : (slots : List Slot) (y : ℕ) (old new : Slot) (kind : Kind) → slice_get slots y ≡ Some old → slot_of new ≡ overwritten (slot_of old) kind → slots_of (set slots y new) ≡ write_slot (slots_of slots) y kind
written [] y old new kind at is = absurd (cc)
written (s ∷ slots) zero old new kind at is =
    let here : s ≡ old = cc in
    rw (here, is)
written (s ∷ slots) (suc y) old new kind at is = ap (λ rest. slot_of s ∷ rest) (written slots y old new kind at is)

-- and none is made
pub none_written : (slots : List Slot) (y : ℕ) (kind : Kind) → slice_get slots y ≡ None → slots_of slots ≡ write_slot (slots_of slots) y kind
none_written [] y kind at = refl
none_written (s ∷ slots) zero kind at = absurd (cc)
none_written (s ∷ slots) (suc y) kind at = ap (λ rest. slot_of s ∷ rest) (none_written slots y kind at)

pub put : (slots : List Slot) (y : ℕ) (new : Slot) → y < length slots → slots_of (set slots y new) ≡ put_slot (slots_of slots) y (slot_of new)
put [] y new inside = absurd (omega arith)
put (s ∷ slots) zero new inside = refl
put (s ∷ slots) (suc y) new inside = ap (λ rest. slot_of s ∷ rest) (put slots y new (omega arith))

pub none_put : (slots : List Slot) (y : ℕ) (new : Slot) → length slots ≤ y → slots_of slots ≡ put_slot (slots_of slots) y (slot_of new)
none_put [] y new outside = refl
none_put (s ∷ slots) zero new outside = absurd (omega arith)
none_put (s ∷ slots) (suc y) new outside = ap (λ rest. slot_of s ∷ rest) (none_put slots y new (omega arith))

pub unset_slots : (n : ℕ) → slots_of (replicate n (Is Unset)) ≡ replicate n (Holds Unset)
unset_slots zero = refl
unset_slots (suc n) = ap (λ rest. Holds Unset ∷ rest) (unset_slots n)

-- slots of the right number lose the first ones
pub fitting_trim : (n r : ℕ) (slots : List Slot) → length slots ≡ n + r → Slots (slots_of (drop n slots)) ≡ trimmed kinds n r (Slots (slots_of slots))
fitting_trim n r slots size =
    let kept : slots_of (drop n slots) ≡ drop n (slots_of slots) = sym (drop-map slot_of n slots) in
    let same : length (slots_of slots) ≡ n + r = length-map slots slot_of ∙ size in
    rw (kept, same) (sym (cond-true ((n + r) == (n + r)) _ _ (eq-eqb (n + r) (n + r) refl)))
