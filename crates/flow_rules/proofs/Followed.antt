-- What the steps of a walk through one plan add, put together.
use Rattle.std.proofs.Common.{◌≡◌, ℕ, ◌+◌, Bool, true, if◌then◌else◌, Option, Some, List, [], sym, ap, subst}
use Rattle.std.specs.List.{slice_get}
use Rattle.op_table.specs.declared.plans.Plan.{Plan}
use Rattle.op_table.specs.Rules.{exit_labels}
use Rattle.reg_state.specs.declared.state.State.{State}
use Rattle.reg_state.specs.States.{Known}
use Rattle.label_fixpoint.specs.declared.edge.Edge.{Edge}
use Rattle.label_fixpoint.specs.Cut.{onward}
use Rattle.action_rules.specs.Known.{known_effects}
use Rattle.flow_rules.specs.Body.{Body}
use Rattle.flow_rules.specs.KnownEdges.{edges_to, raise_edges, may_raise, failures, entered, done, goes_at, jumps, jumps_at, jumps_by, known_edges}
use Rattle.flow_rules.specs.BlockLaws.{edges_apart}
use Rattle.flow_rules.specs.Gaining.{Gains, GainsPart}
use Rattle.flow_rules.specs.Gathering.{Gains-then, GainsPart-of, GainsPart-front, GainsPart-then}

-- ---- failing

pub fails_part : (b : Body) (p : Plan) (s : Known) (e0 e1 : List (Edge State)) → GainsPart e0 (edges_to b.place p.fails s) e1 → GainsPart e0 (failures b p s) e1
fails_part b p s e0 e1 part = GainsPart-front e0 (edges_to b.place p.fails s) (if may_raise p then raise_edges b s.frame else []) e1 part

pub raises_part : (b : Body) (p : Plan) (s : Known) (e0 e1 e2 : List (Edge State)) → may_raise p ≡ true → Gains e0 (edges_to b.place p.fails s) e1 → GainsPart e1 (raise_edges b s.frame) e2 → GainsPart e0 (failures b p s) e2
raises_part b p s e0 e1 e2 raises first next =
    GainsPart-then e0 (edges_to b.place p.fails s) e1 _ e2 first (subst (λ (may : Bool). GainsPart e1 (if may then raise_edges b s.frame else []) e2) (sym raises) next)

-- ---- the whole of a plan

module _ (b : Body) (place : ℕ) (p : Plan) (s : Known) (at : slice_get b.plans place ≡ Some p) where
  known_at : jumps b p s ≡ jumps_at b place s
  known_at = ap (λ (found : Option Plan). jumps_by b found s) (sym at)

  part : (e0 e1 : List (Edge State)) → GainsPart e0 (jumps b p s) e1 → GainsPart e0 (jumps_at b place s) e1
  part e0 e1 gains = subst (λ (wanted : List (Edge Known)). GainsPart e0 wanted e1) known_at gains

  abbrev labels : List (Edge Known)
  labels = edges_to b.place (exit_labels p.exit) (done p s)

  -- the state m in which it may fail
  module _ (m : Known) (is : m ≡ entered p s) where
    failed : (e0 e1 : List (Edge State)) → Gains e0 (failures b p m) e1 → Gains e0 (failures b p (entered p s)) e1
    failed e0 e1 gains = subst (λ (k : Known). Gains e0 (failures b p k) e1) is gains

    pub failures_part : (e0 e1 : List (Edge State)) → GainsPart e0 (failures b p m) e1 → GainsPart e0 (jumps_at b place s) e1
    failures_part e0 e1 gains = part e0 e1 (GainsPart-front e0 (failures b p (entered p s)) labels e1 (subst (λ (k : Known). GainsPart e0 (failures b p k) e1) is gains))

    pub labels_part : (e0 e1 e2 : List (Edge State)) → Gains e0 (failures b p m) e1 → GainsPart e1 (edges_to b.place (exit_labels p.exit) (known_effects p.after m)) e2 → GainsPart e0 (jumps_at b place s) e2
    labels_part e0 e1 e2 first gains =
        let next = subst (λ (k : Known). GainsPart e1 (edges_to b.place (exit_labels p.exit) (known_effects p.after k)) e2) is gains in
        part e0 e2 (GainsPart-then e0 (failures b p (entered p s)) e1 labels e2 (failed e0 e1 first) next)

    pub all_jumps : (e0 e1 e2 : List (Edge State)) → Gains e0 (failures b p m) e1 → Gains e1 (edges_to b.place (exit_labels p.exit) (known_effects p.after m)) e2 → Gains e0 (jumps_at b place s) e2
    all_jumps e0 e1 e2 first next =
        let last = subst (λ (k : Known). Gains e1 (edges_to b.place (exit_labels p.exit) (known_effects p.after k)) e2) is next in
        subst (λ (wanted : List (Edge Known)). Gains e0 wanted e2) known_at (Gains-then e0 (failures b p (entered p s)) e1 labels e2 (failed e0 e1 first) last)

-- ---- and the next place

module _ (b : Body) (place : ℕ) (s : Known) where
  pub jumps_part : (e0 e1 : List (Edge State)) → GainsPart e0 (jumps_at b place s) e1 → GainsPart e0 (known_edges b place s) e1
  jumps_part e0 e1 gains = subst (λ (wanted : List (Edge Known)). GainsPart e0 wanted e1) (sym (edges_apart b place s)) (GainsPart-front e0 (jumps_at b place s) (onward (place + 1) (goes_at b place s)) e1 gains)

  pub jumps_alone : (e0 e1 : List (Edge State)) → Gains e0 (jumps_at b place s) e1 → GainsPart e0 (known_edges b place s) e1
  jumps_alone e0 e1 gains = GainsPart-of e0 (jumps_at b place s) (onward (place + 1) (goes_at b place s)) (known_edges b place s) e1 (edges_apart b place s) gains

  -- it goes on with `on`
  pub jumps_and_next : (e0 e1 e2 : List (Edge State)) (on : Option Known) → goes_at b place s ≡ on → Gains e0 (jumps_at b place s) e1 → Gains e1 (onward (place + 1) on) e2 → Gains e0 (known_edges b place s) e2
  jumps_and_next e0 e1 e2 on goes first next =
      let last = subst (λ (o : Option Known). Gains e1 (onward (place + 1) o) e2) (sym goes) next in
      subst (λ (wanted : List (Edge Known)). Gains e0 wanted e2) (sym (edges_apart b place s)) (Gains-then e0 (jumps_at b place s) e1 (onward (place + 1) (goes_at b place s)) e2 first last)
