-- What actions ask of the contents of registers and slots. A running machine and what is known of it are two domains, whose needs and effects are defined once.
use Rattle.std.specs.Prelude.{ℕ, Bool}
use Rattle.reg_state.specs.Store.{FrameOf}

-- unset is no value, term the term that a number stands for, copied what comes of contents that are copied, untrimmed the frame that a trim of another size leaves; the tests are for a term, for the mark that something was caught, and for either
pub record Domain (A C : Type 0) : Type 0 where
  pub unset : A
  pub term : ℕ → A
  pub copied : A → A
  pub untrimmed : FrameOf A C
  pub has_term : A → Bool
  pub has_mark : A → Bool
  pub has_value : A → Bool
