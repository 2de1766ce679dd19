-- Edges lead to places of the function, with states that fit it.
use Rattle.std.proofs.Common.{◌≡◌, ℕ, ◌+◌, ◌<◌, ◌≤◌, ◌==◌, nat_lt, nat_le, Bool, true, false, ◌&&◌, if◌then◌else◌, Option, Some, None, List, [], ◌∷◌, length, refl, subst, arith}
use Rattle.std.specs.List.{All, Contains, list_all, slice_get}
use Rattle.std.proofs.lemmas.Bool.{and_parts}
use Rattle.std.proofs.lemmas.Bool.Decides.{nat_tests}
use Rattle.std.proofs.lemmas.List.Elements.{All-nil, All-cons, All-append, All-map, All-weaker, All-contains, All-get_or}
use Rattle.std.proofs.lemmas.List.Sums.{AllPass-from_list_all}
use Rattle.std.proofs.lemmas.Map.Views.{Contains-from_any}
use Rattle.std.proofs.lemmas.Option.{get_or_from_slice_get, slice_get_within}
use Rattle.op_table.specs.declared.plans.Plan.{Plan}
use Rattle.op_table.specs.Rules.{exit_labels}
use Rattle.reg_state.specs.declared.kind.Kind.{Kind}
use Rattle.reg_state.specs.declared.kind.Kind.TheVariants.{Caught, Unset}
use Rattle.reg_state.specs.Store.{SlotOf, FrameOf}
use Rattle.reg_state.specs.Store.SlotOf.{Holds, Tagged}
use Rattle.reg_state.specs.Store.FrameOf.{Absent, Slots, Unknown}
use Rattle.reg_state.specs.States.{Known}
use Rattle.label_fixpoint.specs.declared.edge.Edge.{Edge}
use Rattle.label_fixpoint.specs.Cut.{onward}
use Rattle.action_rules.specs.Fitting.{Bounds, action_fits, slot_fits, frame_fits, is_handler, Fits}
use Rattle.action_rules.specs.FittingKept.{known_effects_fit}
use Rattle.flow_rules.specs.Body.{Body, label_fits, plan_fits, body_fits}
use Rattle.action_rules.specs.Needs.{goes_on}
use Rattle.flow_rules.specs.KnownEdges.{edge_to, edges_to, mark_alone, caught, entered, done, lowest, handlers_in, raise_edges, may_raise, raises_of, jumps, has_next, goes, edges_by, known_edges}

-- ---- what it says that a body or a plan fits

pub record FitBody (b : Body) : Type 0 where
  pub entry : b.entry < length b.plans
  pub arity : b.arity ≤ b.bounds.x
  pub few : 3 ≤ b.bounds.x
  pub handlers : All (λ (label : ℕ). label_fits b label ≡ true) b.bounds.handlers
  pub plans : All (λ (p : Plan). plan_fits b p ≡ true) b.plans

below_from : (m n : ℕ) → nat_lt m n ≡ true → m < n
below_from m n e = grind (arith, nat_tests)

at_most_from : (m n : ℕ) → nat_le m n ≡ true → m ≤ n
at_most_from m n e = grind (arith, nat_tests)

pub fit_body : (b : Body) → body_fits b ≡ true → FitBody b
fit_body b fits =
    let plans = and_parts _ (list_all (plan_fits b) b.plans) fits in
    let handlers = and_parts _ (list_all (label_fits b) b.bounds.handlers) plans.0 in
    let few = and_parts _ (nat_le 3 b.bounds.x) handlers.0 in
    let entry = and_parts (nat_lt b.entry (length b.plans)) (nat_le b.arity b.bounds.x) few.0 in
    record {
      entry = below_from b.entry (length b.plans) entry.0;
      arity = at_most_from b.arity b.bounds.x entry.1;
      few = at_most_from 3 b.bounds.x few.1;
      handlers = AllPass-from_list_all (label_fits b) b.bounds.handlers handlers.1;
      plans = AllPass-from_list_all (plan_fits b) b.plans plans.1;
    }

pub record FitPlan (b : Body) (p : Plan) : Type 0 where
  pub fails : All (λ (label : ℕ). label_fits b label ≡ true) p.fails
  pub exits : All (λ (label : ℕ). label_fits b label ≡ true) (exit_labels p.exit)
  pub before : list_all (action_fits b.bounds) p.before ≡ true
  pub after : list_all (action_fits b.bounds) p.after ≡ true

pub fit_plan : (b : Body) (p : Plan) → plan_fits b p ≡ true → FitPlan b p
fit_plan b p fits =
    let after = and_parts _ (list_all (action_fits b.bounds) p.after) fits in
    let before = and_parts _ (list_all (action_fits b.bounds) p.before) after.0 in
    let labels = and_parts (list_all (label_fits b) p.fails) (list_all (label_fits b) (exit_labels p.exit)) before.0 in
    record {
      fails = AllPass-from_list_all (label_fits b) p.fails labels.0;
      exits = AllPass-from_list_all (label_fits b) (exit_labels p.exit) labels.1;
      before = before.1;
      after = after.1;
    }

pub fit_plan_at : (b : Body) → FitBody b → (place : ℕ) (p : Plan) → slice_get b.plans place ≡ Some p → FitPlan b p
fit_plan_at b fit place p is =
    let first = All-get_or (λ (q : Plan). plan_fits b q ≡ true) b.plans place p (slice_get_within b.plans place p is) fit.plans in
    fit_plan b p (subst (λ (q : Plan). plan_fits b q ≡ true) (get_or_from_slice_get b.plans place p p is) first)

-- ---- handlers

same_number : (m n : ℕ) → (n == m) ≡ true → m ≡ n
same_number m n e = grind (arith, nat_tests)

pub handler_held : (bounds : Bounds) (label : ℕ) → is_handler bounds label ≡ true → Contains bounds.handlers label
handler_held bounds label is = Contains-from_any {eq = λ (m n : ℕ). n == m} same_number label bounds.handlers is

lowest_fits : (b : Body) → FitBody b → (ss : List (SlotOf Kind)) → list_all (slot_fits b.bounds) ss ≡ true → All (λ (label : ℕ). label_fits b label ≡ true) (lowest ss)
lowest_fits b fit [] all = All-nil (λ (label : ℕ). label_fits b label ≡ true)
lowest_fits b fit (Holds kind ∷ ss) all = lowest_fits b fit ss (and_parts (slot_fits b.bounds (Holds kind)) (list_all (slot_fits b.bounds) ss) all).1
lowest_fits b fit (Tagged label kind ∷ ss) all =
    let Fit = λ (label : ℕ). label_fits b label ≡ true in
    let is = (and_parts (is_handler b.bounds label) (list_all (slot_fits b.bounds) ss) all).0 in
    All-cons Fit label [] (All-contains Fit b.bounds.handlers label fit.handlers (handler_held b.bounds label is)) (All-nil Fit)

pub slots_parted : (bounds : Bounds) (ss : List (SlotOf Kind)) → frame_fits bounds (Slots ss) ≡ true → (length ss ≤ bounds.y) × (list_all (slot_fits bounds) ss ≡ true)
slots_parted bounds ss fit =
    let parts = and_parts (nat_le (length ss) bounds.y) (list_all (slot_fits bounds) ss) fit in
    (at_most_from (length ss) bounds.y parts.0, parts.1)

handlers_fit : (b : Body) → FitBody b → (f : FrameOf Kind (Unit {0})) → frame_fits b.bounds f ≡ true → All (λ (label : ℕ). label_fits b label ≡ true) (handlers_in b.bounds.handlers f)
handlers_fit b fit Absent frame = All-nil (λ (label : ℕ). label_fits b label ≡ true)
handlers_fit b fit (Slots ss) frame = lowest_fits b fit ss (slots_parted b.bounds ss frame).1
handlers_fit b fit (Unknown why) frame = fit.handlers

-- ---- states

mark_ends : (i : ℕ) → 3 ≤ i → mark_alone i ≡ Unset
mark_ends i far = go (i == 0) refl where
  go : (first : Bool) → (i == 0) ≡ first → (if first then Caught else Unset) ≡ Unset
  go true is = absurd (grind (arith, nat_tests))
  go false is = refl

pub caught_fits : (b : Body) → FitBody b → (f : FrameOf Kind (Unit {0})) → frame_fits b.bounds f ≡ true → Fits b.bounds (caught f)
caught_fits b fit f frame = record { registers = λ i outside. let few = fit.few in mark_ends i (omega (arith, outside, few)); frame = frame }

pub entered_fits : (b : Body) (p : Plan) → FitPlan b p → (s : Known) → Fits b.bounds s → Fits b.bounds (entered p s)
entered_fits b p plan s fit = known_effects_fit b.bounds p.before s plan.before fit

pub done_fits : (b : Body) (p : Plan) → FitPlan b p → (s : Known) → Fits b.bounds s → Fits b.bounds (done p s)
done_fits b p plan s fit = known_effects_fit b.bounds p.after (entered p s) plan.after (entered_fits b p plan s fit)

-- ---- edges

-- the target is a place, and the state fits
pub record FitEdge (b : Body) (e : Edge Known) : Type 0 where
  pub target : e.target < length b.plans
  pub state : Fits b.bounds e.state

module _ (b : Body) where
  edges_to_fit : (labels : List ℕ) (s : Known) → All (λ (label : ℕ). label_fits b label ≡ true) labels → Fits b.bounds s → All (FitEdge b) (edges_to b.place labels s)
  edges_to_fit labels s all fit =
      All-map (FitEdge b) (λ label. edge_to (b.place label) s) labels (All-weaker (λ (label : ℕ). label_fits b label ≡ true) (λ (label : ℕ). FitEdge b (edge_to (b.place label) s)) (λ label inside. record { target = below_from (b.place label) (length b.plans) inside; state = fit }) labels all)

  raises_fit : FitBody b → (p : Plan) → FitPlan b p → (s : Known) → Fits b.bounds s → All (FitEdge b) (raises_of b p s)
  raises_fit body p plan s fit = go (may_raise p) where
    frame : frame_fits b.bounds (entered p s).frame ≡ true
    frame = (entered_fits b p plan s fit).frame

    go : (raises : Bool) → All (FitEdge b) (if raises then raise_edges b (entered p s).frame else [])
    go true = edges_to_fit (handlers_in b.bounds.handlers (entered p s).frame) (caught (entered p s).frame) (handlers_fit b body (entered p s).frame frame) (caught_fits b body (entered p s).frame frame)
    go false = All-nil (FitEdge b)

  pub jumps_fit : FitBody b → (p : Plan) → FitPlan b p → (s : Known) → Fits b.bounds s → All (FitEdge b) (jumps b p s)
  jumps_fit body p plan s fit =
      let fails = edges_to_fit p.fails (entered p s) plan.fails (entered_fits b p plan s fit) in
      let exits = edges_to_fit (exit_labels p.exit) (done p s) plan.exits (done_fits b p plan s fit) in
      All-append (FitEdge b) _ _ (All-append (FitEdge b) _ _ fails (raises_fit body p plan s fit)) exits

  onward_fits : (place : ℕ) (p : Plan) → FitPlan b p → (s : Known) → Fits b.bounds s → All (FitEdge b) (onward (place + 1) (goes b place p s))
  onward_fits place p plan s fit = go (goes_on p.exit) (has_next b place) refl where
    go : (next inside : Bool) → has_next b place ≡ inside → All (FitEdge b) (onward (place + 1) (if next && inside then Some (done p s) else None))
    go true true is = All-cons (FitEdge b) (edge_to (place + 1) (done p s)) [] (record { target = below_from (place + 1) (length b.plans) is; state = done_fits b p plan s fit }) (All-nil (FitEdge b))
    go true false is = All-nil (FitEdge b)
    go false inside is = All-nil (FitEdge b)

  pub known_edges_fit : FitBody b → (place : ℕ) (s : Known) → Fits b.bounds s → All (FitEdge b) (known_edges b place s)
  known_edges_fit body place s fit = go (slice_get b.plans place) refl where
    go : (o : Option Plan) → slice_get b.plans place ≡ o → All (FitEdge b) (edges_by b place o s)
    go None is = All-nil (FitEdge b)
    go (Some p) is =
        let plan = fit_plan_at b body place p is in
        All-append (FitEdge b) _ _ (jumps_fit body p plan s fit) (onward_fits place p plan s fit)
