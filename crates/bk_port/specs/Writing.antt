-- How bytes are written: piece by piece at the end of what was written before.
use Rattle.std.specs.Prelude.{◌≡◌, ℕ, ◌<◌, ◌≤◌, List, [], ◌∷◌, ◌++◌, take, length, Option}
use Rattle.std.specs.Borrow.{Bor}
use Rattle.bk_port.specs.Known.{after_known}

-- the first n bytes of the buffer were written, and at least one of a buffer that has any
pub record Writes (old new : Option (List ℕ)) (buf : List ℕ) (n : ℕ) : Type 0 where
  pub bound : n ≤ length buf
  pub some : 0 < length buf → 0 < n
  pub bytes : new ≡ after_known old (take n buf)

-- some front part of the bytes was written
pub record WritesPart (old new : Option (List ℕ)) (bytes : List ℕ) : Type 0 where
  pub part : List ℕ
  pub rest : List ℕ
  pub whole : bytes ≡ part ++ rest
  pub written : new ≡ after_known old part

-- the pieces, one after the other
abbrev pub joined : List (Bor (List ℕ)) → List ℕ
joined [] = []
joined (piece ∷ pieces) = piece.now ++ joined pieces
