-- A text of which a front was put.
use Rattle.std.specs.Prelude.{◌≡◌, ℕ, List, ◌++◌}

-- the new list is the old one with a front of the text behind it
pub record AddsFront (text old new : List ℕ) : Type 0 where
  pub front : List ℕ
  pub back : List ℕ
  pub text_is : text ≡ front ++ back
  pub new_is : new ≡ old ++ front
