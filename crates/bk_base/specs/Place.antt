-- Where a reader of bytes stands.
use Rattle.std.specs.Prelude.{ℕ, ◌+◌, List, length, drop}

-- the bytes that are left, and the offset of the first of them
pub record Place : Type 0 where
  pub rest : List ℕ
  pub offset : ℕ

-- n bytes further on
abbrev pub moved : ℕ → Place → Place
moved n p = record { rest = drop n p.rest; offset = p.offset + n }

-- the offset of the end of what is read
abbrev pub end_of : Place → ℕ
end_of p = p.offset + length p.rest
