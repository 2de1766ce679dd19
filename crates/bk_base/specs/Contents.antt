-- What a growing buffer of bytes is seen as.
use Rattle.std.specs.Prelude.{ℕ, List}

-- the bytes that stand in it, and how many more cannot be refused
pub record Contents : Type 0 where
  pub items : List ℕ
  pub room : ℕ
