-- What a running machine has in registers and slots, as the contents that actions work on.
use Rattle.std.specs.Prelude.{ℕ, Bool, true, false, Option, Some, None}
use Rattle.reg_state.specs.Store.{FrameOf, Store}
use Rattle.reg_state.specs.Store.FrameOf.{Absent}
use Rattle.action_rules.specs.Domain.{Domain}

-- a term, by a number that stands for it, where 0 is the empty list; a match context; the mark that something was caught
pub data Value : Type 0 where
  Term : ℕ → Value
  Context : Value
  Mark : Value

-- a value, or none
abbrev pub Contents : Type 0
Contents = Option Value

-- a machine has a frame that is known, or none
abbrev pub Frame : Type 0
Frame = FrameOf Contents ⊥

-- registers, frame and what is reserved
abbrev pub Local : Type 0
Local = Store Contents ⊥

-- a match context counts as a term
abbrev pub is_term : Contents → Bool
is_term None = false
is_term (Some (Term number)) = true
is_term (Some Context) = true
is_term (Some Mark) = false

abbrev pub is_mark : Contents → Bool
is_mark None = false
is_mark (Some (Term number)) = false
is_mark (Some Context) = false
is_mark (Some Mark) = true

abbrev pub is_value : Contents → Bool
is_value None = false
is_value (Some value) = true

-- a copy is what was copied; a trim whose sizes do not fit leaves no frame, and its need fails
abbrev pub values : Domain Contents ⊥
values = record {
  unset = None;
  term = λ number. Some (Term number);
  copied = λ a. a;
  untrimmed = Absent;
  has_term = is_term;
  has_mark = is_mark;
  has_value = is_value;
}
