-- The edges of a block as states are those that are known, and states that are known fit along a block.
use Rattle.std.proofs.Common.{◌≡◌, ◌∙◌, ℕ, zero, suc, ◌+◌, ◌<◌, Bool, true, false, ◌&&◌, if◌then◌else◌, Option, Some, None, option_map, option_and_then, List, [], ◌∷◌, ◌++◌, map, length, slice_get, refl, sym, ap, subst, arith}
use Rattle.std.specs.List.{All}
use Rattle.std.proofs.lemmas.List.{map-append}
use Rattle.std.proofs.lemmas.List.Elements.{All-nil, All-cons, All-append, All-map, All-weaker}
use Rattle.std.proofs.lemmas.Option.{none-some, same_Some}
use Rattle.op_table.specs.declared.plans.Plan.{Plan}
use Rattle.op_table.specs.Rules.{exit_labels}
use Rattle.reg_state.specs.declared.state.State.{State}
use Rattle.reg_state.specs.States.{Known, store_of}
use Rattle.label_fixpoint.specs.declared.edge.Edge.{Edge}
use Rattle.label_fixpoint.specs.Cut.{Cut, aimed, along, at_state, block_edges, gathered, onward, size_of}
use Rattle.func_split.specs.declared.mark.Mark.{Mark}
use Rattle.action_rules.specs.Fitting.{Fits}
use Rattle.action_rules.specs.Needs.{goes_on}
use Rattle.flow_rules.specs.Body.{Body}
use Rattle.flow_rules.specs.KnownEdges.{done, edge_to, edges_to, entered, goes_at, goes_by, handlers_in, has_next, jumps, jumps_at, jumps_by, caught, may_raise, raise_edges, raises_of}
use Rattle.flow_rules.specs.Flow.{stated}
use Rattle.flow_rules.specs.Stating.{state_from}
use Rattle.flow_rules.specs.Views.{state_viewed}
use Rattle.flow_rules.specs.EdgeLaws.{FitBody, FitEdge, done_fits, fit_plan_at, jumps_fit}
use Rattle.label_fixpoint.specs.Heads.{numbers_by}
use Rattle.flow_rules.specs.Starts.{begins}
use Rattle.flow_rules.specs.Blocks.{cut_of, known_block_edges, known_cut, numbered, renumbered}

-- ---- edges with other targets

edges_renumbered : (place number : ℕ → ℕ) (labels : List ℕ) (s : Known) → edges_to (λ label. number (place label)) labels s ≡ map (aimed number) (edges_to place labels s)
edges_renumbered place number [] s = refl
edges_renumbered place number (label ∷ labels) s = ap (λ (es : List (Edge Known)). edge_to (number (place label)) s ∷ es) (edges_renumbered place number labels s)

module _ (b : Body) (numbers : List ℕ) where
  abbrev number : ℕ → ℕ
  number = renumbered numbers

  raises_renumbered : (p : Plan) (s : Known) → raises_of (numbered numbers b) p s ≡ map (aimed number) (raises_of b p s)
  raises_renumbered p s = go (may_raise p) where
    frame_edges : raise_edges (numbered numbers b) (entered p s).frame ≡ map (aimed number) (raise_edges b (entered p s).frame)
    frame_edges = edges_renumbered b.place number (handlers_in b.bounds.handlers (entered p s).frame) (caught (entered p s).frame)

    go : (raises : Bool) → (if raises then raise_edges (numbered numbers b) (entered p s).frame else []) ≡ map (aimed number) (if raises then raise_edges b (entered p s).frame else [])
    go true = frame_edges
    go false = refl

  plan_renumbered : (p : Plan) (s : Known) → jumps (numbered numbers b) p s ≡ map (aimed number) (jumps b p s)
  plan_renumbered p s =
      let fails = edges_renumbered b.place number p.fails (entered p s) in
      let raises = raises_renumbered p s in
      let exits = edges_renumbered b.place number (exit_labels p.exit) (done p s) in
      let first = edges_to b.place p.fails (entered p s) in
      let second = raises_of b p s in
      let third = edges_to b.place (exit_labels p.exit) (done p s) in
      ap (λ (es : List (Edge Known)). (es ++ raises_of (numbered numbers b) p s) ++ edges_to (numbered numbers b).place (exit_labels p.exit) (done p s)) fails
      ∙ (ap (λ (es : List (Edge Known)). (map (aimed number) first ++ es) ++ edges_to (numbered numbers b).place (exit_labels p.exit) (done p s)) raises
      ∙ (ap (λ (es : List (Edge Known)). (map (aimed number) first ++ map (aimed number) second) ++ es) exits
      ∙ (ap (λ (es : List (Edge Known)). es ++ map (aimed number) third) (sym (map-append (aimed number) first second))
      ∙ sym (map-append (aimed number) (first ++ second) third))))

  pub jumps_renumbered : (place : ℕ) (s : Known) → jumps_at (numbered numbers b) place s ≡ map (aimed number) (jumps_at b place s)
  jumps_renumbered place s = go (slice_get b.plans place) where
    go : (o : Option Plan) → jumps_by (numbered numbers b) o s ≡ map (aimed number) (jumps_by b o s)
    go None = refl
    go (Some p) = plan_renumbered p s

-- ---- what fits

module _ (b : Body) (body : FitBody b) where
  pub jumps_at_fit : (place : ℕ) (s : Known) → Fits b.bounds s → All (FitEdge b) (jumps_at b place s)
  jumps_at_fit place s fit = go (slice_get b.plans place) refl where
    go : (o : Option Plan) → slice_get b.plans place ≡ o → All (FitEdge b) (jumps_by b o s)
    go None is = All-nil (FitEdge b)
    go (Some p) is = jumps_fit b body p (fit_plan_at b body place p is) s fit

  pub goes_fit : (place : ℕ) (s t : Known) → Fits b.bounds s → goes_at b place s ≡ Some t → Fits b.bounds t
  goes_fit place s t fit on = go (slice_get b.plans place) refl on where
    go : (o : Option Plan) → slice_get b.plans place ≡ o → goes_by b place o s ≡ Some t → Fits b.bounds t
    go None is now = absurd (none-some t now)
    go (Some p) is now = next (goes_on p.exit && has_next b place) now where
      next : (on : Bool) → (if on then Some (done p s) else None) ≡ Some t → Fits b.bounds t
      next true there = subst (Fits b.bounds) (same_Some (done p s) t there) (done_fits b p (fit_plan_at b body place p is) s fit)
      next false there = absurd (none-some t there)

  pub along_fits : (p k : ℕ) (s t : Known) → Fits b.bounds s → along (goes_at b) p k s ≡ Some t → Fits b.bounds t
  along_fits p zero s t fit is = subst (Fits b.bounds) (same_Some s t is) fit
  along_fits p (suc k) s t fit is = go (λ r was. along_fits p k s r fit was) (along (goes_at b) p k s) refl is where
    go : ((r : Known) → along (goes_at b) p k s ≡ Some r → Fits b.bounds r) → (o : Option Known) → along (goes_at b) p k s ≡ o → option_and_then (goes_at b (p + k)) o ≡ Some t → Fits b.bounds t
    go before None was now = absurd (none-some t now)
    go before (Some r) was now = goes_fit (p + k) r t (before r was) now

  -- ---- states

  module _ (ms : List Mark) where
    abbrev places : Cut State
    places = cut_of b ms

    abbrev known : Cut Known
    known = known_cut b ms

    -- the next state, as what is known
    viewed_next : (p : ℕ) (o : Option State) (k : Option Known) → option_map store_of o ≡ k → ((s : Known) → k ≡ Some s → Fits b.bounds s) → option_map store_of (option_and_then (places.goes p) o) ≡ option_and_then (known.goes p) k
    viewed_next p None None is fit = refl
    viewed_next p None (Some k) is fit = absurd (none-some k is)
    viewed_next p (Some s) None is fit = absurd cc
    viewed_next p (Some s) (Some k) is fit =
        let same = same_Some (store_of s) k is in
        go (known.goes p (store_of s)) refl ∙ ap (known.goes p) same where
          go : (o : Option Known) → known.goes p (store_of s) ≡ o → option_map store_of (option_map (state_from b.bounds.x) o) ≡ o
          go None on = refl
          go (Some t) on =
              let here = subst (Fits b.bounds) (sym (same_Some (store_of s) k is)) (fit k refl) in
              ap Some (state_viewed b.bounds t (goes_fit p (store_of s) t here on))

    pub along_viewed : (p k : ℕ) (s : State) → Fits b.bounds (store_of s) → option_map store_of (along places.goes p k s) ≡ along known.goes p k (store_of s)
    along_viewed p zero s fit = refl
    along_viewed p (suc k) s fit = viewed_next (p + k) (along places.goes p k s) (along known.goes p k (store_of s)) (along_viewed p k s fit) (λ t is. along_fits p k (store_of s) t fit is)

    -- what is read off states by what is known
    pub read_viewed : {A : Type 0} (f : ℕ → Known → List A) (p k : ℕ) (s : State) → Fits b.bounds (store_of s) → gathered places.goes (λ place t. f place (store_of t)) p k s ≡ gathered known.goes f p k (store_of s)
    read_viewed f p zero s fit = refl
    read_viewed {A} f p (suc k) s fit =
        let last = along_viewed p k s fit in
        ap (λ (xs : List A). xs ++ at_state (λ t. f (p + k) (store_of t)) (along places.goes p k s)) (read_viewed f p k s fit)
        ∙ ap (λ (xs : List A). gathered known.goes f p k (store_of s) ++ xs) (off (along places.goes p k s) ∙ ap (at_state (f (p + k))) last) where
          off : (o : Option State) → at_state (λ t. f (p + k) (store_of t)) o ≡ at_state (f (p + k)) (option_map store_of o)
          off None = refl
          off (Some t) = refl

    jumps_viewed : (p k : ℕ) (s : State) → Fits b.bounds (store_of s) → gathered places.goes places.jumps p k s ≡ map (stated b.bounds.x) (gathered known.goes known.jumps p k (store_of s))
    jumps_viewed p zero s fit = refl
    jumps_viewed p (suc k) s fit =
        let last = along_viewed p k s fit in
        let before = gathered known.goes known.jumps p k (store_of s) in
        ap (λ (es : List (Edge State)). es ++ at_state (places.jumps (p + k)) (along places.goes p k s)) (jumps_viewed p k s fit)
        ∙ (ap (λ (es : List (Edge State)). map (stated b.bounds.x) before ++ es) (off (along places.goes p k s) ∙ ap (λ (o : Option Known). map (stated b.bounds.x) (at_state (known.jumps (p + k)) o)) last)
        ∙ sym (map-append (stated b.bounds.x) before (at_state (known.jumps (p + k)) (along known.goes p k (store_of s))))) where
          off : (o : Option State) → at_state (places.jumps (p + k)) o ≡ map (stated b.bounds.x) (at_state (known.jumps (p + k)) (option_map store_of o))
          off None = refl
          off (Some t) = refl

    onward_viewed : (to p k : ℕ) (s : State) → Fits b.bounds (store_of s) → onward to (along places.goes p (suc k) s) ≡ map (stated b.bounds.x) (onward to (along known.goes p (suc k) (store_of s)))
    onward_viewed to p k s fit =
        ap (onward to) (off (along places.goes p k s) ∙ ap (λ (o : Option Known). option_map (state_from b.bounds.x) (option_and_then (known.goes (p + k)) o)) (along_viewed p k s fit))
        ∙ led (along known.goes p (suc k) (store_of s)) where
          off : (o : Option State) → option_and_then (places.goes (p + k)) o ≡ option_map (state_from b.bounds.x) (option_and_then (known.goes (p + k)) (option_map store_of o))
          off None = refl
          off (Some t) = refl

          led : (o : Option Known) → onward to (option_map (state_from b.bounds.x) o) ≡ map (stated b.bounds.x) (onward to o)
          led None = refl
          led (Some t) = refl

    pub edges_of_block : (block : ℕ) (s : State) → 0 < size_of places block → Fits b.bounds (store_of s) → block_edges places block s ≡ map (stated b.bounds.x) (known_block_edges b ms block (store_of s))
    edges_of_block block s long fit = go (size_of places block) long where
      go : (size : ℕ) → 0 < size
          → gathered places.goes places.jumps (places.head block) size s ++ onward (block + 1) (along places.goes (places.head block) size s)
          ≡ map (stated b.bounds.x) (gathered known.goes known.jumps (known.head block) size (store_of s) ++ onward (block + 1) (along known.goes (known.head block) size (store_of s)))
      go zero any = absurd (omega (arith, any))
      go (suc k) any =
          let jumped = gathered known.goes known.jumps (known.head block) (suc k) (store_of s) in
          let on = onward (block + 1) (along known.goes (known.head block) (suc k) (store_of s)) in
          ap (λ (es : List (Edge State)). es ++ onward (block + 1) (along places.goes (places.head block) (suc k) s)) (jumps_viewed (places.head block) (suc k) s fit)
          ∙ (ap (λ (es : List (Edge State)). map (stated b.bounds.x) jumped ++ es) (onward_viewed (block + 1) (places.head block) k s fit)
          ∙ sym (map-append (stated b.bounds.x) jumped on))

    -- ---- the states of edges

    abbrev FitState : Edge Known → Type 0
    FitState e = Fits b.bounds e.state

    jumps_states_fit : (p : ℕ) (s : Known) → Fits b.bounds s → All FitState (known.jumps p s)
    jumps_states_fit p s fit =
        let numbers = numbers_by (begins ms) (length b.plans) in
        subst (All FitState) (sym (jumps_renumbered b numbers p s))
        (All-map FitState (aimed (renumbered numbers)) (jumps_at b p s) (All-weaker (FitEdge b) (λ (e : Edge Known). FitState (aimed (renumbered numbers) e)) (λ e fits. fits.state) (jumps_at b p s) (jumps_at_fit p s fit)))

    gathered_fit : (p k : ℕ) (s : Known) → Fits b.bounds s → All FitState (gathered known.goes known.jumps p k s)
    gathered_fit p zero s fit = All-nil FitState
    gathered_fit p (suc k) s fit = All-append FitState _ _ (gathered_fit p k s fit) (off (along known.goes p k s) refl) where
      off : (o : Option Known) → along known.goes p k s ≡ o → All FitState (at_state (known.jumps (p + k)) o)
      off None is = All-nil FitState
      off (Some t) is = jumps_states_fit (p + k) t (along_fits p k s t fit is)

    pub block_edges_fit : (block : ℕ) (s : Known) → Fits b.bounds s → All FitState (known_block_edges b ms block s)
    block_edges_fit block s fit = All-append FitState _ _ (gathered_fit (known.head block) (size_of known block) s fit) (off (along known.goes (known.head block) (size_of known block) s) refl) where
      off : (o : Option Known) → along known.goes (known.head block) (size_of known block) s ≡ o → All FitState (onward (block + 1) o)
      off None is = All-nil FitState
      off (Some t) is = All-cons FitState (edge_to (block + 1) t) [] (along_fits (known.head block) (size_of known block) s t fit is) (All-nil FitState)
