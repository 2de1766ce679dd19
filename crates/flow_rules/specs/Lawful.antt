-- The flow of a body that fits is lawful.
use Rattle.std.proofs.Common.{◌≡◌, ℕ, ◌<◌, ◌≤◌, nat_lt, Bool, true, false, if◌then◌else◌, Contains, length, map, refl, sym, subst, arith}
use Rattle.std.proofs.lemmas.Bool.Decides.{nat_tests}
use Rattle.std.proofs.lemmas.List.Elements.{All-contains}
use Rattle.reg_state.specs.declared.kind.Kind.TheVariants.{Term, Unset}
use Rattle.reg_state.specs.declared.state.State.{State}
use Rattle.reg_state.specs.States.{Known, store_of, IsBelow}
use Rattle.reg_state.specs.Ordered.{reflexive, transitive}
use Rattle.label_fixpoint.specs.declared.edge.Edge.{Edge}
use Rattle.label_fixpoint.specs.Meaning.{IsLawful}
use Rattle.action_rules.specs.Fitting.{Fits}
use Rattle.flow_rules.specs.Body.{Body, body_fits}
use Rattle.flow_rules.specs.KnownEdges.{arguments, first_known, known_edges}
use Rattle.flow_rules.specs.Ranks.{rank}
use Rattle.flow_rules.specs.Stating.{state_from}
use Rattle.flow_rules.specs.Flow.{stated, FitsBody, IsBelowState, state_edges, state_rank, meaning_of}
use Rattle.flow_rules.specs.Views.{state_viewed}
use Rattle.label_fixpoint.specs.Mapped.{mapped_from, mapped_held}
use Rattle.flow_rules.specs.EdgeLaws.{FitBody, fit_body, FitEdge, known_edges_fit}
use Rattle.flow_rules.specs.Rising.{HasEdgeAbove, known_edges_rise}
use Rattle.flow_rules.specs.RankLaws.{rank_within, rank_keeps, no_rise_back}

-- ---- states that stand for what is known

stated_fits : (b : Body) (s : Known) → Fits b.bounds s → Fits b.bounds (store_of (state_from b.bounds.x s))
stated_fits b s fit = subst (Fits b.bounds) (sym (state_viewed b.bounds s fit)) fit

stated_below : (b : Body) (s t : Known) → Fits b.bounds s → Fits b.bounds t → IsBelow s t → IsBelow (store_of (state_from b.bounds.x s)) (store_of (state_from b.bounds.x t))
stated_below b s t first second below =
    let left = subst (λ (u : Known). IsBelow u t) (sym (state_viewed b.bounds s first)) below in
    subst (IsBelow (store_of (state_from b.bounds.x s))) (sym (state_viewed b.bounds t second)) left

past_arguments : (arity i : ℕ) → arity ≤ i → arguments arity i ≡ Unset
past_arguments arity i past = go (nat_lt i arity) refl where
  go : (given : Bool) → nat_lt i arity ≡ given → (if given then Term else Unset) ≡ Unset
  go true is = absurd (grind (arith, nat_tests))
  go false is = refl

pub first_fits : (b : Body) → FitBody b → Fits b.bounds (first_known b.arity)
first_fits b body = record { registers = λ i outside. let few = body.arity in past_arguments b.arity i (omega (arith, few, outside)); frame = refl }

-- ---- edges

module _ (b : Body) (body : FitBody b) (place : ℕ) where
  stated_edge_fits : (s : Known) (e : Edge State) → Fits b.bounds s → Contains (map (stated b.bounds.x) (known_edges b place s)) e → (e.target < length b.plans) × Fits b.bounds (store_of e.state)
  stated_edge_fits s e fit held =
      let from = mapped_from (stated b.bounds.x) (known_edges b place s) e held in
      let edge = All-contains (FitEdge b) (known_edges b place s) from.0 (known_edges_fit b body place s fit) from.1 in
      subst (λ (d : Edge State). (d.target < length b.plans) × Fits b.bounds (store_of d.state)) from.2 (edge.target, stated_fits b from.0.state edge.state)

  stated_edge_rises : (s t : Known) (e : Edge State) → Fits b.bounds s → Fits b.bounds t → IsBelow s t → Contains (map (stated b.bounds.x) (known_edges b place s)) e
      → (d : Edge State) × Contains (map (stated b.bounds.x) (known_edges b place t)) d × (d.target ≡ e.target) × IsBelow (store_of e.state) (store_of d.state)
  stated_edge_rises s t e first second below held =
      let from = mapped_from (stated b.bounds.x) (known_edges b place s) e held in
      let edge = All-contains (FitEdge b) (known_edges b place s) from.0 (known_edges_fit b body place s first) from.1 in
      let above = All-contains (HasEdgeAbove (known_edges b place t)) (known_edges b place s) from.0 (known_edges_rise b body place s t first below) from.1 in
      let other = All-contains (FitEdge b) (known_edges b place t) above.0 (known_edges_fit b body place t second) above.1 in
      subst Above from.2 (
        stated b.bounds.x above.0,
        mapped_held (stated b.bounds.x) (known_edges b place t) above.0 above.1,
        above.2,
        stated_below b from.0.state above.0.state edge.state other.state above.3,
      ) where
        Above : Edge State → Type 0
        Above c = (d : Edge State) × Contains (map (stated b.bounds.x) (known_edges b place t)) d × (d.target ≡ c.target) × IsBelow (store_of c.state) (store_of d.state)

-- ---- ranks

below_or_not : (m n : ℕ) → (n ≤ m → ⊥) → m < n
below_or_not m n not_above = go (nat_lt m n) refl where
  go : (below : Bool) → nat_lt m n ≡ below → m < n
  go true is = grind (arith, nat_tests)
  go false is = absurd (not_above (grind (arith, nat_tests)))

pub body_lawful : (b : Body) → body_fits b ≡ true → IsLawful (meaning_of b)
unfolding FitsBody IsBelowState state_edges state_rank
body_lawful b fits = let body = fit_body b fits in record {
  first_fits = stated_fits b (first_known b.arity) (first_fits b body);
  entry_is_place = body.entry;
  reflexive = λ s fit. reflexive (store_of s);
  transitive = λ s t u first second third below above. transitive (store_of s) (store_of t) (store_of u) below above;
  targets = λ place s e inside fit held. (stated_edge_fits b body place (store_of s) e fit held).0;
  edges_fit = λ place s e inside fit held. (stated_edge_fits b body place (store_of s) e fit held).1;
  monotone = λ place s t e inside first second below held. stated_edge_rises b body place (store_of s) (store_of t) e first second below held;
  rank_bound = λ s fit. rank_within b.bounds (store_of s) fit;
  rank_keeps = λ s t first second below. rank_keeps b.bounds (store_of s) (store_of t) first below;
  rank_rises = λ s t first second below not_back. below_or_not (rank b.bounds (store_of s)) (rank b.bounds (store_of t)) (λ low. not_back (no_rise_back b.bounds (store_of s) (store_of t) first second below low));
}
