-- How what a list of edges gains is put together from what each push put at its end.
use Rattle.std.proofs.Common.{◌≡◌, ◌∙◌, List, [], ◌∷◌, ◌++◌, map, refl, sym, ap, append_assoc}
use Rattle.std.proofs.lemmas.List.{append-nil}
use Rattle.reg_state.specs.declared.state.State.{State}
use Rattle.reg_state.specs.States.{Known, store_of}
use Rattle.label_fixpoint.specs.declared.edge.Edge.{Edge}
use Rattle.flow_rules.specs.Flow.{known_edge}
use Rattle.flow_rules.specs.KnownEdges.{edge_to}
use Rattle.flow_rules.specs.Gaining.{Gains, GainsPart}

map_joined : (xs ys : List (Edge State)) → map known_edge (xs ++ ys) ≡ map known_edge xs ++ map known_edge ys
map_joined [] ys = refl
map_joined (x ∷ xs) ys = ap (λ (es : List (Edge Known)). known_edge x ∷ es) (map_joined xs ys)

pub Gains-none : (before : List (Edge State)) → Gains before [] before
Gains-none before = ([], sym (append-nil before), refl)

-- a push of a state for what is known
pub Gains-one : (before : List (Edge State)) (e : Edge State) (s : Known) (after : List (Edge State)) → after ≡ before ++ e ∷ [] → store_of e.state ≡ s → Gains before (edge_to e.target s ∷ []) after
Gains-one before e s after is stands = (e ∷ [], is, ap (λ (known : Known). edge_to e.target known ∷ []) stands)

pub Gains-then : (a : List (Edge State)) (xs : List (Edge Known)) (b : List (Edge State)) (ys : List (Edge Known)) (c : List (Edge State)) → Gains a xs b → Gains b ys c → Gains a (xs ++ ys) c
Gains-then a xs b ys c first next = (
  first.0 ++ next.0,
  next.1 ∙ ap (λ (es : List (Edge State)). es ++ next.0) first.1 ∙ append_assoc a first.0 next.0,
  map_joined first.0 next.0 ∙ ap (λ (es : List (Edge Known)). es ++ map known_edge next.0) first.2 ∙ ap (λ (es : List (Edge Known)). xs ++ es) next.2,
)

pub GainsPart-of : (before : List (Edge State)) (part rest wanted : List (Edge Known)) (after : List (Edge State)) → wanted ≡ part ++ rest → Gains before part after → GainsPart before wanted after
GainsPart-of before part rest wanted after is gains = (part, rest, is, gains)

-- none of them
pub GainsPart-none : (before : List (Edge State)) (wanted : List (Edge Known)) → GainsPart before wanted before
GainsPart-none before wanted = GainsPart-of before [] wanted wanted before refl (Gains-none before)

-- a part of what comes first
pub GainsPart-front : (a : List (Edge State)) (xs ys : List (Edge Known)) (c : List (Edge State)) → GainsPart a xs c → GainsPart a (xs ++ ys) c
GainsPart-front a xs ys c g = (g.0, g.1 ++ ys, ap (λ (es : List (Edge Known)). es ++ ys) g.2 ∙ append_assoc g.0 g.1 ys, g.3)

-- what comes first, and a part of the rest
pub GainsPart-then : (a : List (Edge State)) (xs : List (Edge Known)) (b : List (Edge State)) (ys : List (Edge Known)) (c : List (Edge State)) → Gains a xs b → GainsPart b ys c → GainsPart a (xs ++ ys) c
GainsPart-then a xs b ys c first next = (
  xs ++ next.0,
  next.1,
  ap (λ (es : List (Edge Known)). xs ++ es) next.2 ∙ sym (append_assoc xs next.0 next.1),
  Gains-then a xs b next.0 c first next.3,
)
