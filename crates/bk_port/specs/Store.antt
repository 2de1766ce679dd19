-- What a host and a sink in memory are seen as.
use Rattle.std.specs.Prelude.{ℕ, Bool, List, Option}

-- the files, and whether one is started; its place among them, if it is listed, and how many of its
-- bytes were read
pub record MemFiles : Type 0 where
  pub files : List (List ℕ × List ℕ)
  pub is_started : Bool
  pub place : Option ℕ
  pub at : ℕ

-- the bytes that were written, how many more it takes, and how often it was full
pub record Store : Type 0 where
  pub bytes : List ℕ
  pub room : ℕ
  pub faults : ℕ
