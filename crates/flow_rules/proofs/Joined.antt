-- The join of states that fit a function fits it.
use Rattle.std.proofs.Common.{◌≡◌, ◌∙◌, ℕ, nat_le, Bool, true, false, cond, List, [], ◌∷◌, length, refl, ap, arith}
use Rattle.std.specs.List.{list_all}
use Rattle.std.proofs.lemmas.Bool.{and_parts, and_from}
use Rattle.reg_state.specs.declared.kind.Kind.{Kind}
use Rattle.reg_state.specs.declared.kind.Kind.TheVariants.{Unset}
use Rattle.reg_state.specs.Store.{SlotOf, FrameOf}
use Rattle.reg_state.specs.Store.SlotOf.{Holds, Tagged}
use Rattle.reg_state.specs.Store.FrameOf.{Absent, Slots, Unknown}
use Rattle.reg_state.specs.States.{Known}
use Rattle.reg_state.specs.Kinds.{joined_kind}
use Rattle.reg_state.specs.Join.{tagged_alike, are_alike, joined_slot, joined_slots, joined_frame, joined}
use Rattle.action_rules.specs.Fitting.{Bounds, slot_kind_fits, slot_fits, slots_fit, frame_fits, Fits}

kinds_fit : (a c : Kind) → slot_kind_fits a ≡ true → slot_kind_fits c ≡ true → slot_kind_fits (joined_kind a c) ≡ true
kinds_fit a c first second = grind arith

joined_unset : (a c : Kind) → a ≡ Unset → joined_kind a c ≡ Unset
joined_unset a c unset = ap (λ (k : Kind). joined_kind k c) unset

module _ (b : Bounds) where
  slot_joined : (s t : SlotOf Kind) → slot_fits b s ≡ true → slot_fits b t ≡ true → slot_fits b (joined_slot s t) ≡ true
  slot_joined (Holds a) (Holds c) first second = kinds_fit a c first second
  slot_joined (Holds a) (Tagged label kind) first second = first
  slot_joined (Tagged label kind) t first second = first

  slots_joined : (ss ts : List (SlotOf Kind)) → list_all (slot_fits b) ss ≡ true → list_all (slot_fits b) ts ≡ true → list_all (slot_fits b) (joined_slots ss ts) ≡ true
  slots_joined [] ts first second = refl
  slots_joined (s ∷ ss) [] first second = refl
  slots_joined (s ∷ ss) (t ∷ ts) first second =
      let of_first = and_parts _ _ first in
      let of_second = and_parts _ _ second in
      and_from _ _ (slot_joined s t of_first.0 of_second.0) (slots_joined ss ts of_first.1 of_second.1)

  as_many : (ss ts : List (SlotOf Kind)) → are_alike ss ts ≡ true → length (joined_slots ss ts) ≡ length ss
  as_many [] ts alike = refl
  as_many (s ∷ ss) [] alike = absurd cc
  as_many (s ∷ ss) (t ∷ ts) alike = let rest = as_many ss ts (and_parts (tagged_alike s t) (are_alike ss ts) alike).1 in omega (arith, rest)

  either : (alike : Bool) (ss ts : List (SlotOf Kind)) → are_alike ss ts ≡ alike → slots_fit b ss ≡ true → slots_fit b ts ≡ true → frame_fits b (cond alike (Slots (joined_slots ss ts)) (Unknown tt)) ≡ true
  either true ss ts alike first second =
      let of_first = and_parts (nat_le (length ss) b.y) (list_all (slot_fits b) ss) first in
      let of_second = and_parts (nat_le (length ts) b.y) (list_all (slot_fits b) ts) second in
      and_from _ _ (ap (λ (n : ℕ). nat_le n b.y) (as_many ss ts alike) ∙ of_first.0) (slots_joined ss ts of_first.1 of_second.1)
  either false ss ts alike first second = refl

  frame_joined : (f g : FrameOf Kind (Unit {0})) → frame_fits b f ≡ true → frame_fits b g ≡ true → frame_fits b (joined_frame f g) ≡ true
  frame_joined Absent Absent first second = refl
  frame_joined Absent (Slots ts) first second = refl
  frame_joined Absent (Unknown why) first second = refl
  frame_joined (Slots ss) Absent first second = refl
  frame_joined (Slots ss) (Slots ts) first second = either (are_alike ss ts) ss ts refl first second
  frame_joined (Slots ss) (Unknown why) first second = refl
  frame_joined (Unknown why) g first second = refl

  pub joined_fits : (s t : Known) → Fits b s → Fits b t → Fits b (joined s t)
  joined_fits s t first second = record {
    registers = λ i outside. joined_unset (s.x i) (t.x i) (first.registers i outside);
    frame = frame_joined s.frame t.frame first.frame second.frame;
  }
