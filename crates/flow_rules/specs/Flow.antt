-- The flow of a function: which states fit it, their order, and where each place leads.
use Rattle.std.specs.Prelude.{ℕ, List, map, length}
use Rattle.reg_state.specs.declared.state.State.{State}
use Rattle.reg_state.specs.States.{Known, store_of, IsBelow}
use Rattle.label_fixpoint.specs.declared.edge.Edge.{Edge}
use Rattle.label_fixpoint.specs.Meaning.{Meaning}
use Rattle.action_rules.specs.Fitting.{Fits}
use Rattle.flow_rules.specs.Body.{Body}
use Rattle.flow_rules.specs.KnownEdges.{first_known, known_edges}
use Rattle.flow_rules.specs.Ranks.{rank, height}
use Rattle.flow_rules.specs.Stating.{state_from}

abbrev pub stated : ℕ → Edge Known → Edge State
stated count e = record { target = e.target; state = state_from count e.state }

-- an edge as what is known there
abbrev pub known_edge : Edge State → Edge Known
known_edge e = record { target = e.target; state = store_of e.state }

unfoldable pub FitsBody : Body → State → Type 0
FitsBody b s = Fits b.bounds (store_of s)

unfoldable pub IsBelowState : State → State → Type 0
IsBelowState s t = IsBelow (store_of s) (store_of t)

unfoldable pub state_edges : Body → ℕ → State → List (Edge State)
state_edges b place s = map (stated b.bounds.x) (known_edges b place (store_of s))

unfoldable pub state_rank : Body → State → ℕ
state_rank b s = rank b.bounds (store_of s)

abbrev pub meaning_of : Body → Meaning State
meaning_of b = record {
  place_count = length b.plans;
  entry_place = b.entry;
  first_state = state_from b.bounds.x (first_known b.arity);
  IsFit = FitsBody b;
  IsBelow = IsBelowState;
  edges_of = state_edges b;
  rank = state_rank b;
  height = height b.bounds;
}
