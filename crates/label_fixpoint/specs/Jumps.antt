-- A small flow for the tests: each place has the number of the next one, and states count up to 3.
use Rattle.std.specs.Prelude.{ℕ, ◌+◌, ◌<◌, ◌≤◌, min, Bool, true, false, ltb, List, [], ◌∷◌, length, slice_index}
use Rattle.label_fixpoint.specs.declared.edge.Edge.{Edge}
use Rattle.label_fixpoint.specs.Meaning.{Meaning}

abbrev pub edge_to : ℕ → ℕ → Edge ℕ
edge_to target state = record { target = target; state = min (state + 1) 3 }

-- no edge leads out of the places
abbrev pub edge_within : Bool → ℕ → ℕ → List (Edge ℕ)
edge_within true target state = edge_to target state ∷ []
edge_within false target state = []

abbrev pub edges_from : List ℕ → ℕ → ℕ → List (Edge ℕ)
edges_from numbers place state = edge_within (ltb (slice_index numbers place) (length numbers)) (slice_index numbers place) state

abbrev pub jumps_of : List ℕ → Meaning ℕ
jumps_of numbers = record {
  place_count = length numbers;
  entry_place = 0;
  first_state = 0;
  IsFit = λ a. a < 4;
  IsBelow = λ a b. a ≤ b;
  edges_of = edges_from numbers;
  rank = λ a. a;
  height = 4;
}
