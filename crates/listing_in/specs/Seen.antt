-- The set of the ids that chunks have.
use Rattle.std.specs.Prelude.{◌≡◌, ℕ, List, bytes_eq}
use Rattle.std.specs.Cmp.Lexicographic.{slice_cmp}
use Rattle.std.specs.List.{list_any}
use Rattle.std.specs.Ordering.{is_eq, nat_cmp}
use Rattle.beam_module.specs.File.{FileChunk}

-- an id is among the keys where a chunk has it
abbrev pub HasIds : List (List ℕ) → List FileChunk → Type 0
HasIds keys chunks = (id : List ℕ) → list_any (λ key. is_eq (slice_cmp nat_cmp id key)) keys ≡ list_any (λ c. bytes_eq id c.0.0) chunks
