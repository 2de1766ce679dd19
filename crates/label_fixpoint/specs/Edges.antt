-- What a list of edges gains where the edges that lead on are put at its end.
use Rattle.std.specs.Prelude.{◌≡◌, List, ◌++◌}
use Rattle.std.specs.List.{AllZip}
use Rattle.label_fixpoint.specs.declared.edge.Edge.{Edge}
use Rattle.label_fixpoint.specs.Meaning.{Meaning}

-- e has the target of d, and a state that fits and counts as equal
pub record IsSameEdge {S : Type 0} (m : Meaning S) (e d : Edge S) : Type 0 where
  pub target : e.target ≡ d.target
  pub below : m.IsBelow e.state d.state
  pub above : m.IsBelow d.state e.state
  pub fits : m.IsFit e.state

-- the wanted edges are put at the end, in order
abbrev pub Appends : {S : Type 0} → Meaning S → List (Edge S) → List (Edge S) → List (Edge S) → Type 0
Appends {S} m before wanted after = (added : List (Edge S)) × (after ≡ before ++ added) × AllZip (IsSameEdge m) added wanted

-- so are the first of them
abbrev pub AppendsPart : {S : Type 0} → Meaning S → List (Edge S) → List (Edge S) → List (Edge S) → Type 0
AppendsPart {S} m before wanted after = (part rest : List (Edge S)) × (wanted ≡ part ++ rest) × Appends m before part after
