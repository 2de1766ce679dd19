-- What a list gains where a block is followed is what it gains as the edges of a block.
use Rattle.std.proofs.Common.{◌≡◌, ◌∙◌, ℕ, ◌<◌, true, List, [], ◌∷◌, map, sym, ap, subst}
use Rattle.std.specs.List.{All, AllZip}
use Rattle.std.proofs.lemmas.List.{map-append}
use Rattle.reg_state.specs.declared.state.State.{State}
use Rattle.reg_state.specs.States.{Known, store_of}
use Rattle.label_fixpoint.specs.declared.edge.Edge.{Edge}
use Rattle.label_fixpoint.specs.Edges.{IsSameEdge, Appends, AppendsPart}
use Rattle.label_fixpoint.specs.Cut.{block_edges, size_of}
use Rattle.func_split.specs.declared.mark.Mark.{Mark}
use Rattle.action_rules.specs.Fitting.{Fits}
use Rattle.flow_rules.specs.Appended.{same_edges}
use Rattle.flow_rules.specs.Body.{Body, body_fits}
use Rattle.flow_rules.specs.Blocks.{blocks_meaning, cut_of, known_block_edges}
use Rattle.flow_rules.specs.BlockViews.{block_edges_fit, edges_of_block}
use Rattle.flow_rules.specs.EdgeLaws.{fit_body}
use Rattle.flow_rules.specs.Flow.{FitsBody, meaning_of, stated}
use Rattle.flow_rules.specs.Gaining.{Gains, GainsPart}
use Rattle.flow_rules.specs.Members.{all_front}

module _ (b : Body) (ms : List Mark) where
  same_of_blocks : (es ds : List (Edge State)) → AllZip (IsSameEdge (meaning_of b)) es ds → AllZip (IsSameEdge (blocks_meaning b ms)) es ds
  same_of_blocks [] [] same = tt
  same_of_blocks [] (d ∷ ds) same = elim same [ ]
  same_of_blocks (e ∷ es) [] same = elim same [ ]
  same_of_blocks (e ∷ es) (d ∷ ds) same = (record { target = same.0.target; below = same.0.below; above = same.0.above; fits = same.0.fits }, same_of_blocks es ds same.1)

  module _ (fits : body_fits b ≡ true) (block : ℕ) (s : State) (long : 0 < size_of (cut_of b ms) block) (fit : FitsBody b s) where
    wanted : block_edges (cut_of b ms) block s ≡ map (stated b.bounds.x) (known_block_edges b ms block (store_of s))
    unfolding FitsBody
    wanted = edges_of_block b (fit_body b fits) ms block s long fit

    states_fit : All (λ (e : Edge Known). Fits b.bounds e.state) (known_block_edges b ms block (store_of s))
    unfolding FitsBody
    states_fit = block_edges_fit b (fit_body b fits) ms block (store_of s) fit

    pub block_appends : (before after : List (Edge State)) → Gains before (known_block_edges b ms block (store_of s)) after → Appends (blocks_meaning b ms) before (block_edges (cut_of b ms) block s) after
    block_appends before after gain =
        let same = same_of_blocks gain.0 (map (stated b.bounds.x) (known_block_edges b ms block (store_of s))) (same_edges b gain.0 (known_block_edges b ms block (store_of s)) states_fit gain.2) in
        (gain.0, gain.1, subst (λ (es : List (Edge State)). AllZip (IsSameEdge (blocks_meaning b ms)) gain.0 es) (sym wanted) same)

    pub block_appends_part : (before after : List (Edge State)) → GainsPart before (known_block_edges b ms block (store_of s)) after → AppendsPart (blocks_meaning b ms) before (block_edges (cut_of b ms) block s) after
    block_appends_part before after gain =
        let part = gain.0 in
        let rest = gain.1 in
        let put = gain.3 in
        let all = subst (All (λ (e : Edge Known). Fits b.bounds e.state)) gain.2 states_fit in (
          map (stated b.bounds.x) part,
          map (stated b.bounds.x) rest,
          wanted ∙ (ap (map (stated b.bounds.x)) gain.2 ∙ map-append (stated b.bounds.x) part rest),
          (put.0, put.1, same_of_blocks put.0 (map (stated b.bounds.x) part) (same_edges b put.0 part (all_front (λ (e : Edge Known). Fits b.bounds e.state) part rest all) put.2)),
        )
