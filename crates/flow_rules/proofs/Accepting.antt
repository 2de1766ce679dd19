-- Where nothing is wrong with a module, each of its functions has a typing with which no need fails.
use Rattle.std.proofs.Common.{◌≡◌, ◌∙◌, ℕ, zero, suc, ◌+◌, ◌<◌, nat_lt, Bool, true, false, if◌then◌else◌, Option, Some, None, option_map, List, [], ◌∷◌, ◌++◌, length, slice_get, refl, sym, ap, subst, inl, inr, arith}
use Rattle.std.specs.List.{Contains}
use Rattle.std.proofs.lemmas.Bool.{lt-ltb}
use Rattle.std.proofs.lemmas.Bool.Decides.{nat_tests}
use Rattle.std.proofs.lemmas.List.Elements.{All-contains}
use Rattle.std.proofs.lemmas.Option.{same_Some}
use Rattle.op_table.specs.declared.plans.Plan.{Plan}
use Rattle.op_table.specs.Instruction.{Instruction}
use Rattle.reg_state.specs.declared.state.State.{State}
use Rattle.reg_state.specs.States.{Known, IsBelow, store_of}
use Rattle.label_fixpoint.specs.declared.edge.Edge.{Edge}
use Rattle.label_fixpoint.specs.Typing.{IsConsistent, Typing}
use Rattle.func_split.specs.Functions.{IsSplit, Piece, StandsIn}
use Rattle.beam_module.specs.Module.{ModuleValue}
use Rattle.action_rules.specs.declared.reason.Reason.{Reason}
use Rattle.action_rules.specs.Fitting.{Fits}
use Rattle.code_faults.specs.declared.fault.Fault.{Fault}
use Rattle.code_faults.specs.Faults.{faults_at}
use Rattle.flow_rules.specs.Body.{Body, body_fits}
use Rattle.flow_rules.specs.Conforming.{AllTyped, HasKnown, Typed}
use Rattle.flow_rules.specs.EdgeLaws.{FitBody, FitEdge, fit_body, known_edges_fit}
use Rattle.flow_rules.specs.Flow.{FitsBody, IsBelowState, meaning_of, state_edges, stated}
use Rattle.flow_rules.specs.FlowBody.{need_at}
use Rattle.flow_rules.specs.KnownEdges.{first_known, known_edges}
use Rattle.flow_rules.specs.Lawful.{first_fits}
use Rattle.flow_rules.specs.Making.{ArePlans, body_with}
use Rattle.label_fixpoint.specs.Mapped.{mapped_held}
use Rattle.flow_rules.specs.Reporting.{AreReported, IsFunctionReport, IsReport, IsTypedReport, faults_in, typed_faults}
use Rattle.flow_rules.specs.Stating.{state_from}
use Rattle.flow_rules.specs.Views.{state_viewed}

-- ---- empty reports

no_parts : {X : Type 0} (xs ys : List X) → [] ≡ xs ++ ys → ([] ≡ xs) × ([] ≡ ys)
no_parts [] ys none = (refl, none)
no_parts (x ∷ xs) ys none = absurd cc

no_need : (number place : ℕ) (o : Option Reason) → [] ≡ faults_at number place o → o ≡ None
no_need number place None none = refl
no_need number place (Some why) none = absurd cc

-- no place has a fault
none_at : (number first : ℕ) (b : Body) (t : Typing State) (places : ℕ) → [] ≡ typed_faults number first b t places → (place : ℕ) → place < places → [] ≡ faults_in number first b place (t place)
none_at number first b t zero none place below = absurd (omega (arith, below))
none_at number first b t (suc places) none place below = go (nat_lt place places) refl (none_at number first b t places parts.0 place) where
  parts : ([] ≡ typed_faults number first b t places) × ([] ≡ faults_in number first b places (t places))
  parts = no_parts (typed_faults number first b t places) (faults_in number first b places (t places)) none

  go : (earlier : Bool) → nat_lt place places ≡ earlier → (place < places → [] ≡ faults_in number first b place (t place)) → [] ≡ faults_in number first b place (t place)
  go true is before = before (grind (arith, nat_tests))
  go false is before =
      let last : places ≡ place = grind (arith, nat_tests) in
      subst (λ (k : ℕ). [] ≡ faults_in number first b k (t k)) last parts.1

-- ---- typings

-- what is known at the first places, as many as the number says
known_in : ℕ → Typing State → ℕ → Option Known
known_in size t place = if nat_lt place size then option_map store_of (t place) else None

record IsAt (size : ℕ) (t : Typing State) (place : ℕ) (s : Known) : Type 0 where
  inside : place < size
  state : State
  state_is : t place ≡ Some state
  same : store_of state ≡ s

is_at : (size : ℕ) (t : Typing State) (place : ℕ) (s : Known) → known_in size t place ≡ Some s → IsAt size t place s
unfolding known_in
is_at size t place s is = go (nat_lt place size) refl (t place) refl is where
  go : (below : Bool) → nat_lt place size ≡ below → (o : Option State) → t place ≡ o → (if below then option_map store_of o else None) ≡ Some s → IsAt size t place s
  go false at o there known = absurd cc
  go true at None there known = absurd cc
  go true at (Some state) there known = record { inside = grind (arith, nat_tests); state = state; state_is = there; same = same_Some (store_of state) s known }

known_at : (size : ℕ) (t : Typing State) (place : ℕ) (state : State) → place < size → t place ≡ Some state → known_in size t place ≡ Some (store_of state)
unfolding known_in
known_at size t place state below is =
    let inside : nat_lt place size ≡ true = lt-ltb place size below in
    rw inside (ap (option_map store_of) is)

-- ---- functions

-- a consistent typing of a function with which no need fails
record Judged (m : ModuleValue) (f : Piece) : Type 0 where
  number : ℕ
  plans : List Plan
  plans_are : ArePlans m f f.instrs plans
  typing : Typing State
  consistent : IsConsistent (meaning_of (body_with f plans)) typing
  none : [] ≡ typed_faults number f.first (body_with f plans) typing (length plans)

module _ (m : ModuleValue) (f : Piece) (judged : Judged m f) (fits : body_fits (body_with f judged.plans) ≡ true) where
  abbrev b : Body
  b = body_with f judged.plans

  known : ℕ → Option Known
  known place = known_in (length judged.plans) judged.typing place

  body : FitBody b
  body = fit_body b fits

  state_fits : (place : ℕ) (s : Known) → IsAt (length judged.plans) judged.typing place s → Fits b.bounds s
  unfolding FitsBody
  state_fits place s at = subst (Fits b.bounds) at.same (judged.consistent.fits place at.state at.inside at.state_is)

  above : (place : ℕ) (s : Known) → place < length judged.plans → Fits b.bounds s → (state : State) → judged.typing place ≡ Some state → IsBelowState (state_from b.bounds.x s) state → HasKnown known place s
  unfolding known IsBelowState
  above place s below fit state is lower = (
    store_of state,
    known_at (length judged.plans) judged.typing place state below is,
    subst (λ (u : Known). IsBelow u (store_of state)) (state_viewed b.bounds s fit) lower,
  )

  begins_known : HasKnown known f.entry (first_known f.arity)
  begins_known =
      let has = judged.consistent.enters in
      above f.entry (first_known f.arity) body.entry (first_fits b body) has.0 has.1 has.2

  leads_known : (place : ℕ) (s : Known) (e : Edge Known) → known place ≡ Some s → Contains (known_edges b place s) e → HasKnown known e.target e.state
  unfolding known state_edges
  leads_known place s e is held =
      let at = is_at (length judged.plans) judged.typing place s is in
      let edge = All-contains (FitEdge b) (known_edges b place s) e (known_edges_fit b body place s (state_fits place s at)) held in
      let here = subst (λ (u : Known). Contains (known_edges b place u) e) (sym at.same) held in
      let stated_held = mapped_held (stated b.bounds.x) (known_edges b place (store_of at.state)) e here in
      let has = judged.consistent.follows place at.state (stated b.bounds.x e) at.inside at.state_is stated_held in
      above e.target e.state edge.target edge.state has.0 has.1 has.2

  meets : (place : ℕ) (s : Known) → known place ≡ Some s → need_at b place s ≡ None
  unfolding known
  meets place s is =
      let at = is_at (length judged.plans) judged.typing place s is in
      let none = none_at judged.number f.first b judged.typing (length judged.plans) judged.none place at.inside in
      let here : [] ≡ faults_at judged.number (f.first + place) (need_at b place (store_of at.state)) = none ∙ ap (faults_in judged.number f.first b place) at.state_is in
      subst (λ (u : Known). need_at b place u ≡ None) at.same (no_need judged.number (f.first + place) (need_at b place (store_of at.state)) here)

  typed_judged : Typed m f
  unfolding known
  typed_judged = record {
    plans = judged.plans;
    plans_are = judged.plans_are;
    known = known;
    inside = λ place s is. (is_at (length judged.plans) judged.typing place s is).inside;
    enters = begins_known;
    follows = leads_known;
    met = meets;
    fits = fits;
  }

-- ---- reports

judged_by : (m : ModuleValue) (number : ℕ) (f : Piece) → slice_get m.code.functions number ≡ Some f → IsTypedReport m number f [] → Judged m f
judged_by m number f there report =
    let flow = report.body_is in
    let same : flow.function ≡ f = same_Some flow.function f (sym flow.is_there ∙ there) in
    let size : length report.body.plans ≡ length flow.plans = ap (λ (b : Body). length b.plans) flow.is in
    let first : f.first ≡ flow.function.first = ap (λ (g : Piece). g.first) (sym same) in
    let none = report.list_is ∙ (ap (λ (k : ℕ). typed_faults number k report.body report.typing (length report.body.plans)) first ∙ ap (λ (b : Body). typed_faults number flow.function.first b report.typing (length b.plans)) flow.is) in
    subst (Judged m) same (record {
      number = number;
      plans = flow.plans;
      plans_are = flow.plans_are;
      typing = report.typing;
      consistent = subst (λ (b : Body). IsConsistent (meaning_of b) report.typing) flow.is report.least.consistent;
      none = none;
    })

reported_at : (m : ModuleValue) (functions : List Piece) (number : ℕ) (list : List Fault) → AreReported m number functions list → [] ≡ list → (k : ℕ) (f : Piece) → slice_get functions k ≡ Some f → IsFunctionReport m (number + k) f []
reported_at m [] number list are none k f is = absurd cc
reported_at m (g ∷ functions) number list are none zero f is =
    let parts = no_parts are.0 are.1 (none ∙ are.2) in
    let same : g ≡ f = same_Some g f is in
    let here : number ≡ number + 0 = omega arith in
    subst (λ (n : ℕ). IsFunctionReport m n f []) here (subst (λ (h : Piece). IsFunctionReport m number h []) same (subst (IsFunctionReport m number g) (sym parts.0) are.3))
reported_at m (g ∷ functions) number list are none (suc k) f is =
    let parts = no_parts are.0 are.1 (none ∙ are.2) in
    let there : suc number + k ≡ number + suc k = omega arith in
    subst (λ (n : ℕ). IsFunctionReport m n f []) there (reported_at m functions (suc number) are.1 are.4 parts.1 k f is)

pub all_typed : ((labels : ℕ) (code : List Instruction) (functions : List Piece) → IsSplit labels code functions → (i : ℕ) (f : Piece) → slice_get functions i ≡ Some f → StandsIn code i f)
    → ((m : ModuleValue) (f : Piece) (plans : List Plan) → ArePlans m f f.instrs plans → f.entry < length f.instrs → body_fits (body_with f plans) ≡ true)
    → (m : ModuleValue) → IsSplit m.code.labels m.code.instrs m.code.functions → IsReport m [] → AllTyped m
all_typed stand fit m split report number f there =
    let none : 0 + number ≡ number = omega arith in
    let of_function = subst (λ (n : ℕ). IsFunctionReport m n f []) none (reported_at m m.code.functions 0 [] report refl number f there) in
    elim of_function [
      | inl faulty ↦ absurd (faulty.0 refl)
      | inr sound ↦
          let judged = judged_by m number f there sound in
          typed_judged m f judged (fit m f judged.plans judged.plans_are (stand m.code.labels m.code.instrs m.code.functions split number f there).entry)
    ]
