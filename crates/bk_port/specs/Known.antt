-- Bytes of the outside, which a type tells (`Some`) or does not tell (`None`).
use Rattle.std.specs.Prelude.{List, ℕ, ◌++◌, Option, option_map}

-- the bytes that stand before those known, if these are told
abbrev pub before_known : List ℕ → Option (List ℕ) → Option (List ℕ)
before_known bytes known = option_map (λ rest. bytes ++ rest) known

-- those known, if they are told, and then the bytes
abbrev pub after_known : Option (List ℕ) → List ℕ → Option (List ℕ)
after_known known bytes = option_map (λ front. front ++ bytes) known
