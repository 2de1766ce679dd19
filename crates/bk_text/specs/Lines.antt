-- The text of a table: a line for each of its values.
use Rattle.std.specs.Prelude.{ℕ, List}
use Rattle.std.specs.List.{flat_map, enumerate_from}

-- a line for each of the values, whose numbers go up from the first
abbrev pub numbered_lines : {A : Type 0} → ℕ → (ℕ → A → List ℕ) → List A → List ℕ
numbered_lines first line xs = flat_map (λ p. line p.0 p.1) (enumerate_from first xs)
