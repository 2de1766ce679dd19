-- From a state above, each place leads to the same places, with states above.
use Rattle.std.proofs.Common.{◌≡◌, ℕ, ◌+◌, Bool, true, false, ◌&&◌, if◌then◌else◌, Option, Some, None, List, [], ◌∷◌, ◌++◌, refl, subst, inl}
use Rattle.std.specs.List.{All, Contains, list_all, slice_get}
use Rattle.std.proofs.lemmas.Bool.{and_parts}
use Rattle.std.proofs.lemmas.List.Elements.{All-nil, All-cons, All-append, All-map, All-weaker, All-contains_itself, Contains-append_left, Contains-append_right, Contains-push}
use Rattle.op_table.specs.declared.plans.Plan.{Plan}
use Rattle.op_table.specs.Rules.{exit_labels}
use Rattle.reg_state.specs.declared.kind.Kind.{Kind}
use Rattle.reg_state.specs.Store.{SlotOf, FrameOf}
use Rattle.reg_state.specs.Store.SlotOf.{Holds, Tagged}
use Rattle.reg_state.specs.Store.FrameOf.{Absent, Slots, Unknown}
use Rattle.reg_state.specs.Related.{SlotsRel, FrameRel}
use Rattle.reg_state.specs.Related.SlotRel.{both_hold, both_tagged}
use Rattle.reg_state.specs.Related.SlotsRel.{none, more}
use Rattle.reg_state.specs.Related.FrameRel.{both_absent, both_slots, not_known}
use Rattle.reg_state.specs.Kinds.{KindBelow}
use Rattle.reg_state.specs.States.{Known, IsBelow}
use Rattle.reg_state.specs.Ordered.{reflexive}
use Rattle.label_fixpoint.specs.declared.edge.Edge.{Edge}
use Rattle.label_fixpoint.specs.Cut.{onward}
use Rattle.action_rules.specs.Fitting.{Bounds, slot_fits, frame_fits, is_handler, Fits}
use Rattle.action_rules.specs.Relating.{known_effects_rise}
use Rattle.flow_rules.specs.Body.{Body}
use Rattle.action_rules.specs.Needs.{goes_on}
use Rattle.flow_rules.specs.KnownEdges.{edge_to, edges_to, caught, entered, done, lowest, handlers_in, raise_edges, may_raise, raises_of, jumps, has_next, goes, edges_by, known_edges}
use Rattle.label_fixpoint.specs.Mapped.{mapped_held}
use Rattle.flow_rules.specs.EdgeLaws.{FitBody, FitPlan, fit_plan_at, handler_held, slots_parted, entered_fits}

-- one of the edges has the same target and a state above
abbrev pub HasEdgeAbove : List (Edge Known) → Edge Known → Type 0
HasEdgeAbove others e = (d : Edge Known) × Contains others d × (d.target ≡ e.target) × IsBelow e.state d.state

abbrev pub Rises : List (Edge Known) → List (Edge Known) → Type 0
Rises es others = All (HasEdgeAbove others) es

rises_both : (xs ys us vs : List (Edge Known)) → Rises xs ys → Rises us vs → Rises (xs ++ us) (ys ++ vs)
rises_both xs ys us vs first next =
    let left = All-weaker (HasEdgeAbove ys) (HasEdgeAbove (ys ++ vs)) (λ e above. (above.0, Contains-append_left ys vs above.0 above.1, above.2, above.3)) xs first in
    let right = All-weaker (HasEdgeAbove vs) (HasEdgeAbove (ys ++ vs)) (λ e above. (above.0, Contains-append_right ys vs above.0 above.1, above.2, above.3)) us next in
    All-append (HasEdgeAbove (ys ++ vs)) xs us left right

edges_to_rise : (place : ℕ → ℕ) (labels others : List ℕ) (s t : Known) → All (Contains others) labels → IsBelow s t → Rises (edges_to place labels s) (edges_to place others t)
edges_to_rise place labels others s t held below =
    let above = HasEdgeAbove (edges_to place others t) in
    All-map above (λ label. edge_to (place label) s) labels
    (All-weaker (Contains others) (λ label. above (edge_to (place label) s)) (λ label has. (edge_to (place label) t, mapped_held (λ label. edge_to (place label) t) others label has, refl, below)) labels held)

-- ---- raising

pub lowest_same : {A B : Type 0} {R : A → B → Type 0} {ss : List (SlotOf A)} {ts : List (SlotOf B)} → SlotsRel R ss ts → lowest ss ≡ lowest ts
lowest_same none = refl
lowest_same (more (both_hold related) rest) = lowest_same rest
lowest_same (more (both_tagged label kind) rest) = refl

lowest_held : (bounds : Bounds) (ss : List (SlotOf Kind)) → list_all (slot_fits bounds) ss ≡ true → All (Contains bounds.handlers) (lowest ss)
lowest_held bounds [] all = All-nil (Contains bounds.handlers)
lowest_held bounds (Holds kind ∷ ss) all = lowest_held bounds ss (and_parts (slot_fits bounds (Holds kind)) (list_all (slot_fits bounds) ss) all).1
lowest_held bounds (Tagged label kind ∷ ss) all =
    let is = (and_parts (is_handler bounds label) (list_all (slot_fits bounds) ss) all).0 in
    All-cons (Contains bounds.handlers) label [] (handler_held bounds label is) (All-nil (Contains bounds.handlers))

all_held : (bounds : Bounds) (f : FrameOf Kind (Unit {0})) → frame_fits bounds f ≡ true → All (Contains bounds.handlers) (handlers_in bounds.handlers f)
all_held bounds Absent fit = All-nil (Contains bounds.handlers)
all_held bounds (Slots ss) fit = lowest_held bounds ss (slots_parted bounds ss fit).1
all_held bounds (Unknown why) fit = All-contains_itself bounds.handlers

handlers_kept : (bounds : Bounds) {f g : FrameOf Kind (Unit {0})} → FrameRel KindBelow f g → frame_fits bounds f ≡ true → All (Contains (handlers_in bounds.handlers g)) (handlers_in bounds.handlers f)
handlers_kept bounds both_absent fit = All-nil (Contains [])
handlers_kept bounds (both_slots {ss = ss} {ts = ts} related) fit = subst (λ (labels : List ℕ). All (Contains labels) (lowest ss)) (lowest_same related) (All-contains_itself (lowest ss))
handlers_kept bounds (not_known f why) fit = all_held bounds f fit

caught_below : (f g : FrameOf Kind (Unit {0})) → FrameRel KindBelow f g → IsBelow (caught f) (caught g)
caught_below f g related = let itself = reflexive (caught f) in record { x = itself.x; frame = related; words = inl refl; funs = inl refl }

-- ---- plans

entered_rises : (p : Plan) (s t : Known) → IsBelow s t → IsBelow (entered p s) (entered p t)
entered_rises p s t below = known_effects_rise p.before s t below

done_rises : (p : Plan) (s t : Known) → IsBelow s t → IsBelow (done p s) (done p t)
done_rises p s t below = known_effects_rise p.after (entered p s) (entered p t) (entered_rises p s t below)

module _ (b : Body) where
  raises_rise : (p : Plan) → FitPlan b p → (s t : Known) → Fits b.bounds s → IsBelow s t → Rises (raises_of b p s) (raises_of b p t)
  raises_rise p plan s t fit below = go (may_raise p) where
    from : FrameOf Kind (Unit {0})
    from = (entered p s).frame

    to : FrameOf Kind (Unit {0})
    to = (entered p t).frame

    related : FrameRel KindBelow from to
    related = (entered_rises p s t below).frame

    go : (raises : Bool) → Rises (if raises then raise_edges b from else []) (if raises then raise_edges b to else [])
    go true = edges_to_rise b.place (handlers_in b.bounds.handlers from) (handlers_in b.bounds.handlers to) (caught from) (caught to) (handlers_kept b.bounds related (entered_fits b p plan s fit).frame) (caught_below from to related)
    go false = All-nil (HasEdgeAbove [])

  jumps_rise : (p : Plan) → FitPlan b p → (s t : Known) → Fits b.bounds s → IsBelow s t → Rises (jumps b p s) (jumps b p t)
  jumps_rise p plan s t fit below =
      let fails = edges_to_rise b.place p.fails p.fails (entered p s) (entered p t) (All-contains_itself p.fails) (entered_rises p s t below) in
      let exits = edges_to_rise b.place (exit_labels p.exit) (exit_labels p.exit) (done p s) (done p t) (All-contains_itself (exit_labels p.exit)) (done_rises p s t below) in
      rises_both _ _ _ _ (rises_both _ _ _ _ fails (raises_rise p plan s t fit below)) exits

  onward_rises : (place : ℕ) (p : Plan) (s t : Known) → IsBelow s t → Rises (onward (place + 1) (goes b place p s)) (onward (place + 1) (goes b place p t))
  onward_rises place p s t below = go (goes_on p.exit && has_next b place) where
    next : Known → Bool → List (Edge Known)
    next u goes_there = onward (place + 1) (if goes_there then Some (done p u) else None)

    go : (goes_there : Bool) → Rises (next s goes_there) (next t goes_there)
    go true =
        let Above = HasEdgeAbove (next t true) in
        All-cons Above (edge_to (place + 1) (done p s)) [] (edge_to (place + 1) (done p t), Contains-push [] (edge_to (place + 1) (done p t)), refl, done_rises p s t below) (All-nil Above)
    go false = All-nil (HasEdgeAbove [])

  pub known_edges_rise : FitBody b → (place : ℕ) (s t : Known) → Fits b.bounds s → IsBelow s t → Rises (known_edges b place s) (known_edges b place t)
  known_edges_rise body place s t fit below = go (slice_get b.plans place) refl where
    go : (o : Option Plan) → slice_get b.plans place ≡ o → Rises (edges_by b place o s) (edges_by b place o t)
    go None is = All-nil (HasEdgeAbove [])
    go (Some p) is = rises_both _ _ _ _ (jumps_rise p (fit_plan_at b body place p is) s t fit below) (onward_rises place p s t below)
