-- What registers and a frame hold, for contents of any kind.
use Rattle.std.specs.Prelude.{ℕ, List}
use Rattle.bk_base.specs.declared.tag_kind.TagKind.{TagKind}

-- a slot of a frame holds contents, or is tagged with the label and the kind of a handler
pub data SlotOf (A : Type 0) : Type 0 where
  Holds : A → SlotOf A
  Tagged : ℕ → TagKind → SlotOf A

-- a C says that the frame isn't known
pub data FrameOf (A C : Type 0) : Type 0 where
  Absent : FrameOf A C
  Slots : List (SlotOf A) → FrameOf A C
  Unknown : C → FrameOf A C

-- words and funs are what is reserved on the heap
pub record Store (A C : Type 0) : Type 0 where
  pub x : ℕ → A
  pub frame : FrameOf A C
  pub words : ℕ
  pub funs : ℕ
