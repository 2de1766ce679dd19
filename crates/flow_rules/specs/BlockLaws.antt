-- The labels of a function cut its flow into blocks.
use Rattle.std.proofs.Common.{◌≡◌, ◌∙◌, ℕ, suc, ◌+◌, ◌<◌, Bool, true, false, if◌then◌else◌, Option, Some, None, option_map, List, [], ◌∷◌, ◌++◌, map, Contains, length, slice_get, refl, sym, ap, subst, arith}
use Rattle.std.specs.List.{All}
use Rattle.std.proofs.lemmas.List.{length-map, map-append}
use Rattle.std.proofs.lemmas.List.Elements.{All-nil, All-append, All-map, All-weaker, All-contains, All-contains_itself, All-head, All-tail}
use Rattle.op_table.specs.declared.plans.Plan.{Plan}
use Rattle.op_table.specs.Rules.{exit_labels}
use Rattle.reg_state.specs.declared.state.State.{State}
use Rattle.reg_state.specs.States.{Known, store_of}
use Rattle.label_fixpoint.specs.declared.edge.Edge.{Edge}
use Rattle.label_fixpoint.specs.Meaning.{IsLawful}
use Rattle.label_fixpoint.specs.Cut.{IsCut, aimed, onward}
use Rattle.label_fixpoint.specs.BlockFlows.{blocks_lawful}
use Rattle.label_fixpoint.specs.Heads.{head_at, number_at, numbers_by}
use Rattle.label_fixpoint.specs.HeadLaws.{block_begun, block_from, block_to, block_within, head_end, head_of_number, head_rises, number_in, number_inside}
use Rattle.label_fixpoint.specs.Mapped.{mapped_from}
use Rattle.func_split.specs.declared.mark.Mark.{Mark}
use Rattle.func_split.specs.declared.mark.Mark.TheVariants as marks
use Rattle.func_split.specs.Marks.{mark_of}
use Rattle.func_split.specs.Faults.{is_label}
use Rattle.action_rules.specs.Fitting.{Fits}
use Rattle.flow_rules.specs.declared.fn_flow.FnFlow.{FnFlow}
use Rattle.flow_rules.specs.Body.{Body, body_fits, place_in}
use Rattle.flow_rules.specs.FlowBody.{body_of}
use Rattle.flow_rules.specs.KnownEdges.{done, edge_to, edges_by, edges_to, entered, caught, goes_at, goes_by, handlers_in, jumps_at, jumps_by, known_edges, may_raise, raise_edges, raises_of}
use Rattle.flow_rules.specs.Flow.{FitsBody, meaning_of, stated, state_edges}
use Rattle.flow_rules.specs.Stating.{state_from}
use Rattle.flow_rules.specs.EdgeLaws.{FitBody, FitEdge, fit_body}
use Rattle.flow_rules.specs.Lawful.{body_lawful}
use Rattle.flow_rules.specs.Starts.{begins, HasEntry, is_head}
use Rattle.flow_rules.specs.Blocks.{blocks_in, blocks_meaning, cut_of, marks_in, numbered, renumbered}
use Rattle.flow_rules.specs.BlockViews.{jumps_at_fit, jumps_renumbered}

-- the labels to which a body leads stand where blocks begin, and so does its entry
pub record HasBlocks (b : Body) (ms : List Mark) : Type 0 where
  pub entry : HasEntry ms b.entry
  pub labels : (label : ℕ) → b.place label < length b.plans → begins ms (b.place label) ≡ true

-- an edge to a label
FromLabel : Body → Edge Known → Type 0
FromLabel b e = (label : ℕ) × (b.place label ≡ e.target)

edges_from_labels : (b : Body) (labels : List ℕ) (s : Known) → All (FromLabel b) (edges_to b.place labels s)
unfolding FromLabel
edges_from_labels b labels s = All-map (FromLabel b) (λ label. edge_to (b.place label) s) labels (All-weaker (Contains labels) (λ (label : ℕ). FromLabel b (edge_to (b.place label) s)) (λ label has. (label, refl)) labels (All-contains_itself labels))

raises_from_labels : (b : Body) (p : Plan) (s : Known) → All (FromLabel b) (raises_of b p s)
raises_from_labels b p s = go (may_raise p) where
  go : (raises : Bool) → All (FromLabel b) (if raises then raise_edges b (entered p s).frame else [])
  go true = edges_from_labels b (handlers_in b.bounds.handlers (entered p s).frame) (caught (entered p s).frame)
  go false = All-nil (FromLabel b)

jumps_from_labels : (b : Body) (place : ℕ) (s : Known) → All (FromLabel b) (jumps_at b place s)
jumps_from_labels b place s = go (slice_get b.plans place) where
  go : (o : Option Plan) → All (FromLabel b) (jumps_by b o s)
  go None = All-nil (FromLabel b)
  go (Some p) = All-append (FromLabel b) _ _ (All-append (FromLabel b) _ _ (edges_from_labels b p.fails (entered p s)) (raises_from_labels b p s)) (edges_from_labels b (exit_labels p.exit) (done p s))

pub edges_apart : (b : Body) (place : ℕ) (s : Known) → known_edges b place s ≡ jumps_at b place s ++ onward (place + 1) (goes_at b place s)
edges_apart b place s = go (slice_get b.plans place) where
  go : (o : Option Plan) → edges_by b place o s ≡ jumps_by b o s ++ onward (place + 1) (goes_by b place o s)
  go None = refl
  go (Some p) = refl

module _ (b : Body) (ms : List Mark) (body : FitBody b) (has : HasBlocks b ms) where
  abbrev n : ℕ
  n = length b.plans

  abbrev head : ℕ → ℕ
  head = head_at (begins ms) n

  abbrev number : ℕ → ℕ
  number = renumbered (numbers_by (begins ms) n)

  -- a block begins at the target
  record AtHead (e : Edge Known) : Type 0 where
    inside : e.target < n
    begun : begins ms e.target ≡ true

  jumps_at_heads : (place : ℕ) (s : Known) → Fits b.bounds s → All AtHead (jumps_at b place s)
  unfolding FromLabel
  jumps_at_heads place s fit = both (jumps_at b place s) (jumps_at_fit b body place s fit) (jumps_from_labels b place s) where
    both : (es : List (Edge Known)) → All (FitEdge b) es → All (FromLabel b) es → All AtHead es
    both es fits from = All-weaker (Contains es) AtHead (λ e held.
        let edge = All-contains (FitEdge b) es e fits held in
        let label = All-contains (FromLabel b) es e from held in
        let inside : b.place label.0 < n = subst (λ (p : ℕ). p < n) (sym label.1) edge.target in
        record { inside = edge.target; begun = subst (λ (p : ℕ). begins ms p ≡ true) label.1 (has.labels label.0 inside) }) es (All-contains_itself es)

  number_is : (p : ℕ) → p < n → number p ≡ number_at (begins ms) p
  number_is p inside = number_in (begins ms) n p p inside

  -- a target that is numbered, and then looked up
  back : (es : List (Edge Known)) → All AtHead es → map (aimed head) (map (stated b.bounds.x) (map (aimed number) es)) ≡ map (stated b.bounds.x) es
  back [] all = refl
  back (e ∷ es) all =
      let first = All-head AtHead e es all in
      let same : head (number e.target) ≡ e.target = ap head (number_is e.target first.inside) ∙ head_of_number (begins ms) n e.target first.begun first.inside in
      ap (λ (target : ℕ). record { target = target; state = state_from b.bounds.x e.state } ∷ map (aimed head) (map (stated b.bounds.x) (map (aimed number) es))) same
      ∙ ap (λ (ds : List (Edge State)). stated b.bounds.x e ∷ ds) (back es (All-tail AtHead e es all))

  on_stated : (to : ℕ) (o : Option Known) → map (stated b.bounds.x) (onward to o) ≡ onward to (option_map (state_from b.bounds.x) o)
  on_stated to None = refl
  on_stated to (Some t) = refl

  edges_cut : (place : ℕ) (s : State) → FitsBody b s → state_edges b place s ≡ map (aimed head) ((cut_of b ms).jumps place s) ++ onward (place + 1) ((cut_of b ms).goes place s)
  unfolding FitsBody state_edges
  edges_cut place s fit =
      let known = store_of s in
      let jumped = jumps_at b place known in
      let on = onward (place + 1) (goes_at b place known) in
      let there = ap (map (stated b.bounds.x)) (jumps_renumbered b (numbers_by (begins ms) n) place known) in
      let looked : map (aimed head) ((cut_of b ms).jumps place s) ≡ map (stated b.bounds.x) jumped = ap (map (aimed head)) there ∙ back jumped (jumps_at_heads place known fit) in
      ap (map (stated b.bounds.x)) (edges_apart b place known)
      ∙ (map-append (stated b.bounds.x) jumped on
      ∙ (ap (λ (es : List (Edge State)). es ++ map (stated b.bounds.x) on) (sym looked)
      ∙ ap (λ (es : List (Edge State)). map (aimed head) ((cut_of b ms).jumps place s) ++ es) (on_stated (place + 1) (goes_at b place known))))

  targets_cut : (place : ℕ) (s : State) (e : Edge State) → FitsBody b s → Contains ((cut_of b ms).jumps place s) e → e.target < (cut_of b ms).count
  unfolding FitsBody
  targets_cut place s e fit held =
      let known = store_of s in
      let from = mapped_from (stated b.bounds.x) (jumps_at (numbered (numbers_by (begins ms) n) b) place known) e held in
      let there = subst (λ (es : List (Edge Known)). Contains es from.0) (jumps_renumbered b (numbers_by (begins ms) n) place known) from.1 in
      let first = mapped_from (aimed number) (jumps_at b place known) from.0 there in
      let at = All-contains AtHead (jumps_at b place known) first.0 (jumps_at_heads place known fit) first.1 in
      let low = number_inside (begins ms) n first.0.target at.begun at.inside in
      let same : number_at (begins ms) first.0.target ≡ e.target = sym (number_is first.0.target at.inside) ∙ (ap (λ (d : Edge Known). d.target) first.2 ∙ ap (λ (d : Edge State). d.target) from.2) in
      subst (λ (p : ℕ). p < (cut_of b ms).count) same low

  pub body_cut : IsCut (meaning_of b) (cut_of b ms)
  body_cut = record {
    rises = head_rises (begins ms) n;
    end = head_end (begins ms) n;
    within = block_within (begins ms) n has.entry.first;
    from = block_from (begins ms) n has.entry.first;
    to = block_to (begins ms) n has.entry.first;
    entry = block_begun (begins ms) n b.entry has.entry.entered body.entry;
    targets = λ place s e inside fit held. targets_cut place s e fit held;
    edges = λ place s inside fit. edges_cut place s fit;
  }

pub body_blocks_lawful : (b : Body) (ms : List Mark) → body_fits b ≡ true → HasBlocks b ms → IsLawful (blocks_meaning b ms)
body_blocks_lawful b ms fits has = blocks_lawful State (meaning_of b) (cut_of b ms) (body_lawful b fits) (body_cut b ms (fit_body b fits) has)

-- ---- labels of functions

label_begins : (label : ℕ) (m : Mark) → is_label label m ≡ true → is_head m ≡ true
label_begins label (marks.Label number) is = refl
label_begins label marks.Line is = is
label_begins label (marks.Func head) is = is
label_begins label marks.Close is = is
label_begins label marks.Other is = is

pub labels_begin : (ms : List Mark) (label : ℕ) → place_in ms label < length ms → begins ms (place_in ms label) ≡ true
labels_begin [] label inside = absurd (omega (arith, inside))
labels_begin (m ∷ ms) label inside = go (is_label label m) refl (labels_begin ms label) inside where
  go : (here : Bool) → is_label label m ≡ here → (place_in ms label < length ms → begins ms (place_in ms label) ≡ true) → (if here then 0 else suc (place_in ms label)) < suc (length ms) → begins (m ∷ ms) (if here then 0 else suc (place_in ms label)) ≡ true
  go true is later low = label_begins label m is
  go false is later low = later (omega (arith, low))

-- ---- flows in memory

as_many : (f : FnFlow) → length (marks_in f) ≡ length f.plans
as_many f = length-map f.function.instrs mark_of ∙ sym f.sized

pub flow_has_blocks : (f : FnFlow) → HasBlocks (body_of f) (marks_in f)
flow_has_blocks f = record {
  entry = f.entered;
  labels = λ label inside. labels_begin (marks_in f) label (subst (λ (n : ℕ). (body_of f).place label < n) (sym (as_many f)) inside);
}

pub flow_cut : (f : FnFlow) → IsCut (meaning_of (body_of f)) (cut_of (body_of f) (marks_in f))
flow_cut f = body_cut (body_of f) (marks_in f) (fit_body (body_of f) f.fits) (flow_has_blocks f)

pub flow_blocks_lawful : (f : FnFlow) → IsLawful (blocks_in f)
flow_blocks_lawful f = body_blocks_lawful (body_of f) (marks_in f) f.fits (flow_has_blocks f)
