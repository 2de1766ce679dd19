-- Two stores that are related part by part, where R relates their contents.
use Rattle.std.specs.Prelude.{◌≡◌, ◌⊎◌, ℕ, List, [], ◌∷◌}
use Rattle.bk_base.specs.declared.tag_kind.TagKind.{TagKind}
use Rattle.reg_state.specs.Store.{SlotOf, FrameOf, Store}
use Rattle.reg_state.specs.Store.SlotOf.{Holds, Tagged}
use Rattle.reg_state.specs.Store.FrameOf.{Absent, Slots, Unknown}

-- a tag is related to the same tag alone
pub data SlotRel {A B : Type 0} (R : A → B → Type 0) : SlotOf A → SlotOf B → Type 0 where
  both_hold : {a : A} {b : B} → R a b → SlotRel R (Holds a) (Holds b)
  both_tagged : (label : ℕ) (kind : TagKind) → SlotRel R (Tagged label kind) (Tagged label kind)

-- as many slots, related one by one
pub data SlotsRel {A B : Type 0} (R : A → B → Type 0) : List (SlotOf A) → List (SlotOf B) → Type 0 where
  none : SlotsRel R [] []
  more : {s : SlotOf A} {t : SlotOf B} {ss : List (SlotOf A)} {ts : List (SlotOf B)} → SlotRel R s t → SlotsRel R ss ts → SlotsRel R (s ∷ ss) (t ∷ ts)

-- every frame is related to one that isn't known
pub data FrameRel {A B C E : Type 0} (R : A → B → Type 0) : FrameOf A C → FrameOf B E → Type 0 where
  both_absent : FrameRel R Absent Absent
  both_slots : {ss : List (SlotOf A)} {ts : List (SlotOf B)} → SlotsRel R ss ts → FrameRel R (Slots ss) (Slots ts)
  not_known : (f : FrameOf A C) (why : E) → FrameRel R f (Unknown why)

-- the same number, or none
abbrev pub Reserved : ℕ → ℕ → Type 0
Reserved a b = (a ≡ b) ⊎ (b ≡ 0)

pub record StoreRel {A B C E : Type 0} (R : A → B → Type 0) (s : Store A C) (t : Store B E) : Type 0 where
  pub x : (i : ℕ) → R (s.x i) (t.x i)
  pub frame : FrameRel R s.frame t.frame
  pub words : Reserved s.words t.words
  pub funs : Reserved s.funs t.funs
