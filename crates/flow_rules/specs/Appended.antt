-- What a list of edges gains as what is known is what it gains as states.
use Rattle.std.proofs.Common.{◌≡◌, ◌∙◌, ℕ, true, List, [], ◌∷◌, map, sym, ap, subst}
use Rattle.std.specs.List.{All, AllZip}
use Rattle.std.proofs.lemmas.List.{map-append}
use Rattle.std.proofs.lemmas.List.Elements.{All-head, All-tail, All-weaker}
use Rattle.reg_state.specs.declared.state.State.{State}
use Rattle.reg_state.specs.States.{Known, store_of, IsBelow}
use Rattle.reg_state.specs.Ordered.{reflexive}
use Rattle.label_fixpoint.specs.declared.edge.Edge.{Edge}
use Rattle.label_fixpoint.specs.Edges.{IsSameEdge, Appends, AppendsPart}
use Rattle.action_rules.specs.Fitting.{Fits}
use Rattle.flow_rules.specs.Body.{Body, body_fits}
use Rattle.flow_rules.specs.KnownEdges.{known_edges}
use Rattle.flow_rules.specs.Flow.{stated, known_edge, FitsBody, IsBelowState, state_edges, meaning_of}
use Rattle.flow_rules.specs.Gaining.{Gains, GainsPart}
use Rattle.flow_rules.specs.Views.{edge_viewed}
use Rattle.flow_rules.specs.Members.{all_front}
use Rattle.flow_rules.specs.EdgeLaws.{fit_body, FitEdge, known_edges_fit}

abbrev FitState : Body → Edge Known → Type 0
FitState b e = Fits b.bounds e.state

-- an edge is the same as one that says the same
same_edge : (b : Body) (e d : Edge State) → FitState b (known_edge d) → known_edge e ≡ known_edge d → IsSameEdge (meaning_of b) e d
unfolding FitsBody IsBelowState
same_edge b e d fit same = let itself = reflexive (store_of d.state) in record {
  target = ap (λ (c : Edge Known). c.target) same;
  below = subst (λ (s : Known). IsBelow s (store_of d.state)) (sym view) itself;
  above = subst (IsBelow (store_of d.state)) (sym view) itself;
  fits = subst (Fits b.bounds) (sym view) fit;
} where
  view : store_of e.state ≡ store_of d.state
  view = ap (λ (c : Edge Known). c.state) same

pub same_edges : (b : Body) (added : List (Edge State)) (es : List (Edge Known)) → All (FitState b) es → map known_edge added ≡ es → AllZip (IsSameEdge (meaning_of b)) added (map (stated b.bounds.x) es)
same_edges b [] [] fit are = tt
same_edges b [] (d ∷ ds) fit are = absurd cc
same_edges b (e ∷ es) [] fit are = absurd cc
same_edges b (e ∷ es) (d ∷ ds) fit are =
    let edge = All-head (FitState b) d ds fit in
    let view = edge_viewed b.bounds d edge in
    let first : known_edge e ≡ d = cc in
    let rest : map known_edge es ≡ ds = cc in
    (same_edge b e (stated b.bounds.x d) (subst (FitState b) (sym view) edge) (first ∙ sym view), same_edges b es ds (All-tail (FitState b) d ds fit) rest)

module _ (b : Body) (fits : body_fits b ≡ true) (place : ℕ) (s : State) (fit : FitsBody b s) where
  edges_fit : All (FitState b) (known_edges b place (store_of s))
  unfolding FitsBody
  edges_fit = All-weaker (FitEdge b) (FitState b) (λ e edge. edge.state) (known_edges b place (store_of s)) (known_edges_fit b (fit_body b fits) place (store_of s) fit)

  pub appends_from : (before after : List (Edge State)) → Gains before (known_edges b place (store_of s)) after → Appends (meaning_of b) before (state_edges b place s) after
  unfolding state_edges
  appends_from before after gain = (gain.0, gain.1, same_edges b gain.0 (known_edges b place (store_of s)) edges_fit gain.2)

  pub appends_part_from : (before after : List (Edge State)) → GainsPart before (known_edges b place (store_of s)) after → AppendsPart (meaning_of b) before (state_edges b place s) after
  unfolding state_edges
  appends_part_from before after gain =
      let part = gain.0 in
      let rest = gain.1 in
      let put = gain.3 in
      let all = subst (All (FitState b)) gain.2 edges_fit in (
        map (stated b.bounds.x) part,
        map (stated b.bounds.x) rest,
        ap (map (stated b.bounds.x)) gain.2 ∙ map-append (stated b.bounds.x) part rest,
        (put.0, put.1, same_edges b put.0 part (all_front (FitState b) part rest all) put.2),
      )
