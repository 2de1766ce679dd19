-- The least state above two.
use Rattle.std.specs.Prelude.{ℕ, Bool, true, false, cond, eqb, ◌&&◌, List, [], ◌∷◌}
use Rattle.bk_base.specs.declared.tag_kind.TagKind.{TagKind}
use Rattle.bk_base.specs.declared.tag_kind.TagKind.TheVariants.{Catch, Try}
use Rattle.reg_state.specs.declared.kind.Kind.{Kind}
use Rattle.reg_state.specs.Store.{SlotOf, FrameOf}
use Rattle.reg_state.specs.Store.SlotOf.{Holds, Tagged}
use Rattle.reg_state.specs.Store.FrameOf.{Absent, Slots, Unknown}
use Rattle.reg_state.specs.Kinds.{joined_kind}
use Rattle.reg_state.specs.States.{Known, IsBelow}

-- least is above both, and below all that are above both
pub record IsLeastAbove (s t least : Known) : Type 0 where
  pub first : IsBelow s least
  pub second : IsBelow t least
  pub below : (u : Known) → IsBelow s u → IsBelow t u → IsBelow least u

abbrev pub same_tag_kind : TagKind → TagKind → Bool
same_tag_kind Catch Catch = true
same_tag_kind Try Try = true
same_tag_kind _ _ = false

-- neither is tagged, or both with the same tag
abbrev pub tagged_alike : SlotOf Kind → SlotOf Kind → Bool
tagged_alike (Holds _) (Holds _) = true
tagged_alike (Tagged l k) (Tagged m j) = eqb l m && same_tag_kind k j
tagged_alike _ _ = false

-- as many slots, of which the same ones are tagged alike
abbrev pub are_alike : List (SlotOf Kind) → List (SlotOf Kind) → Bool
are_alike [] [] = true
are_alike (s ∷ ss) (t ∷ ts) = tagged_alike s t && are_alike ss ts
are_alike _ _ = false

-- of slots that are tagged alike
abbrev pub joined_slot : SlotOf Kind → SlotOf Kind → SlotOf Kind
joined_slot (Holds a) (Holds b) = Holds (joined_kind a b)
joined_slot s _ = s

abbrev pub joined_slots : List (SlotOf Kind) → List (SlotOf Kind) → List (SlotOf Kind)
joined_slots (s ∷ ss) (t ∷ ts) = joined_slot s t ∷ joined_slots ss ts
joined_slots _ _ = []

-- frames that aren't alike join to one that isn't known
abbrev pub joined_frame : FrameOf Kind (Unit {0}) → FrameOf Kind (Unit {0}) → FrameOf Kind (Unit {0})
joined_frame Absent Absent = Absent
joined_frame (Slots ss) (Slots ts) = cond (are_alike ss ts) (Slots (joined_slots ss ts)) (Unknown tt)
joined_frame _ _ = Unknown tt

abbrev pub joined_number : ℕ → ℕ → ℕ
joined_number a b = cond (eqb a b) a 0

abbrev pub joined : Known → Known → Known
joined s t = record {
  x = λ i. joined_kind (s.x i) (t.x i);
  frame = joined_frame s.frame t.frame;
  words = joined_number s.words t.words;
  funs = joined_number s.funs t.funs;
}
