-- The edges that a plan has.
use Rattle.std.proofs.Common.{◌≡◌, ℕ, ◌+◌, Bool, true, if◌then◌else◌, Option, Some, None, List, [], ◌++◌, sym, subst}
use Rattle.std.specs.List.{Contains, slice_get}
use Rattle.std.proofs.lemmas.Bool.{and_from}
use Rattle.std.proofs.lemmas.List.Elements.{Contains-append_left, Contains-append_right, Contains-push}
use Rattle.std.proofs.lemmas.Option.{get_or_from_slice_get, slice_get_within}
use Rattle.op_table.specs.declared.plans.Plan.{Plan}
use Rattle.op_table.specs.Rules.{exit_labels}
use Rattle.reg_state.specs.States.{Known}
use Rattle.label_fixpoint.specs.declared.edge.Edge.{Edge}
use Rattle.label_fixpoint.specs.Cut.{onward}
use Rattle.action_rules.specs.Needs.{goes_on}
use Rattle.flow_rules.specs.Body.{Body}
use Rattle.flow_rules.specs.KnownEdges.{caught, done, edge_to, edges_by, edges_to, entered, goes, handlers_in, has_next, jumps, known_edges, may_raise, plan_edges, raise_edges, raises_of}
use Rattle.label_fixpoint.specs.Mapped.{mapped_held}

pub held_at : {X : Type 0} (xs : List X) (k : ℕ) (x : X) → slice_get xs k ≡ Some x → Contains xs x
held_at xs k x is = (k, slice_get_within xs k x is, get_or_from_slice_get xs k x x is)

module _ (b : Body) (place : ℕ) (p : Plan) (s : Known) where
  fails : List (Edge Known)
  fails = edges_to b.place p.fails (entered p s)

  exits : List (Edge Known)
  exits = edges_to b.place (exit_labels p.exit) (done p s)

  next : List (Edge Known)
  next = onward (place + 1) (goes b place p s)

  module _ (is : slice_get b.plans place ≡ Some p) where
    of_plan : (e : Edge Known) → Contains (plan_edges b place p s) e → Contains (known_edges b place s) e
    of_plan e held = subst (λ (o : Option Plan). Contains (edges_by b place o s) e) (sym is) held

    pub fail_edge : (label : ℕ) → Contains p.fails label → Contains (known_edges b place s) (edge_to (b.place label) (entered p s))
    unfolding fails exits next
    fail_edge label held =
        let edge = edge_to (b.place label) (entered p s) in
        of_plan edge (Contains-append_left (jumps b p s) next edge
        (Contains-append_left (fails ++ raises_of b p s) exits edge
        (Contains-append_left fails (raises_of b p s) edge
        (mapped_held (λ l. edge_to (b.place l) (entered p s)) p.fails label held))))

    pub exit_edge : (label : ℕ) → Contains (exit_labels p.exit) label → Contains (known_edges b place s) (edge_to (b.place label) (done p s))
    unfolding fails exits next
    exit_edge label held =
        let edge = edge_to (b.place label) (done p s) in
        of_plan edge (Contains-append_left (jumps b p s) next edge
        (Contains-append_right (fails ++ raises_of b p s) exits edge
        (mapped_held (λ l. edge_to (b.place l) (done p s)) (exit_labels p.exit) label held)))

    pub raise_edge : (label : ℕ) → may_raise p ≡ true → Contains (handlers_in b.bounds.handlers (entered p s).frame) label → Contains (known_edges b place s) (edge_to (b.place label) (caught (entered p s).frame))
    unfolding fails exits next
    raise_edge label raises held =
        let frame = (entered p s).frame in
        let edge = edge_to (b.place label) (caught frame) in
        let raised : Contains (raises_of b p s) edge =
        subst (λ (r : Bool). Contains (if r then raise_edges b frame else []) edge) (sym raises) (mapped_held (λ l. edge_to (b.place l) (caught frame)) (handlers_in b.bounds.handlers frame) label held) in
        of_plan edge (Contains-append_left (jumps b p s) next edge
        (Contains-append_left (fails ++ raises_of b p s) exits edge
        (Contains-append_right fails (raises_of b p s) edge raised)))

    pub next_edge : goes_on p.exit ≡ true → has_next b place ≡ true → Contains (known_edges b place s) (edge_to (place + 1) (done p s))
    unfolding fails exits next
    next_edge goes_there there =
        let edge = edge_to (place + 1) (done p s) in
        let both = and_from (goes_on p.exit) (has_next b place) goes_there there in
        let last : Contains next edge = subst (λ (g : Bool). Contains (onward (place + 1) (if g then Some (done p s) else None)) edge) (sym both) (Contains-push [] edge) in
        of_plan edge (Contains-append_right (jumps b p s) next edge last)
