-- Where the blocks of a function begin, by its marks.
use Rattle.std.specs.Prelude.{◌≡◌, ℕ, Bool, true, false, List, length, slice_index_or}
use Rattle.label_fixpoint.specs.Heads.{number_at}
use Rattle.func_split.specs.declared.mark.Mark.{Mark}
use Rattle.func_split.specs.declared.mark.Mark.TheVariants as marks
use Rattle.func_split.specs.Functions.{Piece}
use Rattle.func_split.specs.Marks.{marks_of}

abbrev pub is_head : Mark → Bool
is_head (marks.Label number) = true
is_head marks.Line = false
is_head (marks.Func head) = false
is_head marks.Close = false
is_head marks.Other = false

-- a block begins at this place of a function of these marks
abbrev pub begins : List Mark → ℕ → Bool
begins ms place = is_head (slice_index_or ms place marks.Other)

-- how many blocks a function has
abbrev pub block_count : Piece → ℕ
block_count f = number_at (begins (marks_of f.instrs)) (length f.instrs)

-- a function begins with a label, and its entry label is the next one
pub record HasEntry (ms : List Mark) (entry : ℕ) : Type 0 where
  pub first : begins ms 0 ≡ true
  pub entered : begins ms entry ≡ true
  pub second : number_at (begins ms) entry ≡ 1
