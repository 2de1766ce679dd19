-- What a list of edges gains, as what is known at their targets, and what another list gains.
use Rattle.std.specs.Prelude.{◌≡◌, List, ◌++◌, map}
use Rattle.reg_state.specs.declared.state.State.{State}
use Rattle.reg_state.specs.States.{Known}
use Rattle.label_fixpoint.specs.declared.edge.Edge.{Edge}
use Rattle.flow_rules.specs.Flow.{known_edge}

-- the wanted edges are put at the end
abbrev pub Gains : List (Edge State) → List (Edge Known) → List (Edge State) → Type 0
Gains before wanted after = (added : List (Edge State)) × (after ≡ before ++ added) × (map known_edge added ≡ wanted)

-- the first of them are
abbrev pub GainsPart : List (Edge State) → List (Edge Known) → List (Edge State) → Type 0
GainsPart before wanted after = (part rest : List (Edge Known)) × (wanted ≡ part ++ rest) × Gains before part after

-- the first of the wanted elements are put at the end
abbrev pub AddsPart : {A : Type 0} → List A → List A → List A → Type 0
AddsPart {A} before wanted after = (part rest : List A) × (wanted ≡ part ++ rest) × (after ≡ before ++ part)
