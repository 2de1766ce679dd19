-- A machine that has what is known at its place is not stuck, and each state that it goes to has what is known there.
use Rattle.std.proofs.Common.{◌≡◌, ◌∙◌, ℕ, zero, suc, ◌+◌, ◌<◌, ◌==◌, nat_lt, Bool, true, false, ◌||◌, if◌then◌else◌, Option, Some, None, Result, Ok, List, [], ◌∷◌, ◌++◌, length, refl, sym, ap, subst, arith, T, inl, inr}
use Rattle.std.specs.List.{AllByRecursion, Contains, list_all, slice_get}
use Rattle.std.specs.Option.{option_map, option_or}
use Rattle.std.proofs.lemmas.Bool.{and_parts, or_right}
use Rattle.std.proofs.lemmas.Bool.Decides.{nat_tests}
use Rattle.std.proofs.lemmas.Option.{slice_get_within}
use Rattle.std.proofs.lemmas.Slice.Zip.{AllZip-long}
use Rattle.compact_term.specs.declared.operand.Operand.{Operand}
use Rattle.compact_term.specs.declared.operand.Reg.TheVariants as regs
use Rattle.op_table.specs.declared.action.Src.TheVariants as sources
use Rattle.op_table.specs.declared.action.Action.{Action}
use Rattle.op_table.specs.declared.action.Action.TheVariants as acts
use Rattle.op_table.specs.declared.plans.Exit.{Exit}
use Rattle.op_table.specs.declared.plans.Exit.TheVariants as exits
use Rattle.op_table.specs.declared.plans.Plan.{Plan}
use Rattle.op_table.specs.declared.role.Role.TheVariants as roles
use Rattle.op_table.specs.declared.row.Profile.TheVariants as profiles
use Rattle.op_table.specs.Instruction.{Instruction}
use Rattle.op_table.specs.Planned.{label_in, operand_at}
use Rattle.op_table.specs.Planning.{plan_of}
use Rattle.op_table.specs.Rules.{CallsLocal, Enters, IsPlanOf, LeavesBy, Replaces, exit_labels}
use Rattle.op_table.specs.Table.{Row, arity_of, roles_in, roles_of, row_with}
use Rattle.reg_state.specs.declared.kind.Kind.{Kind}
use Rattle.reg_state.specs.declared.kind.Kind.TheVariants as kind
use Rattle.reg_state.specs.Store.{SlotOf, FrameOf}
use Rattle.reg_state.specs.Store.SlotOf.{Holds, Tagged}
use Rattle.reg_state.specs.Store.FrameOf.{Absent, Slots, Unknown}
use Rattle.reg_state.specs.Related.{FrameRel, StoreRel}
use Rattle.reg_state.specs.Related.FrameRel.{both_absent, both_slots, not_known}
use Rattle.reg_state.specs.States.{Known}
use Rattle.label_fixpoint.specs.declared.edge.Edge.{Edge}
use Rattle.func_split.specs.Functions.{IsEntry, IsSplit, Piece}
use Rattle.beam_module.specs.Module.{ModuleValue}
use Rattle.action_rules.specs.declared.reason.Reason.{Reason}
use Rattle.action_rules.specs.declared.reason.Reason.TheVariants as reasons
use Rattle.action_rules.specs.Effects.{effects, first_kept}
use Rattle.action_rules.specs.Fitting.{Bounds, is_handler}
use Rattle.action_rules.specs.KindDomain.{kinds}
use Rattle.action_rules.specs.Needs.{check, exit_need, goes_on, live_from, needs, no_frame, plan_need}
use Rattle.action_rules.specs.Relating.{effects_related, needs_pass}
use Rattle.code_faults.specs.Ending.{ends}
use Rattle.code_faults.specs.Operands.{arguments_of, instruction_fault}
use Rattle.flow_rules.specs.Body.{Body}
use Rattle.flow_rules.specs.EdgeLaws.{FitPlan, fit_body, fit_plan_at, handler_held}
use Rattle.flow_rules.specs.FlowBody.{need_by}
use Rattle.flow_rules.specs.KnownEdges.{caught, done, entered, exit_raises, first_known, handlers_in, has_next, known_edges, lowest, may_raise}
use Rattle.flow_rules.specs.Making.{HasPlan, body_with}
use Rattle.flow_rules.specs.Rising.{lowest_same}
use Rattle.flow_rules.specs.Values.{Contents, Frame, Local, is_term, values}
use Rattle.flow_rules.specs.Values.Value.{Term, Mark}
use Rattle.flow_rules.specs.Machine.{Activation, Machine, has_next_at, label_place, plan_at, stop, stop_by}
use Rattle.flow_rules.specs.Outcomes.{Choice, Outcome, Way, after_call, alone, bare, before_done, caught_in, all_done, handler, jumps_to, at_exit, outcome, outcome_by, outcome_of, raised, raises_itself, resumed, returned, terms_left}
use Rattle.flow_rules.specs.Outcomes.Outcome.{Goes, Ends, Never}
use Rattle.flow_rules.specs.Conforming.{AllTyped, Conforms, HasKnown, IsCall, IsKnown, Typed, tag_is_own, tags_are_own}
use Rattle.flow_rules.proofs.Agreeing.{agrees_above, effects_own, values_agree}
use Rattle.flow_rules.proofs.Leading.{exit_edge, fail_edge, held_at, next_edge, raise_edge}
use Rattle.flow_rules.proofs.Placed.{Begins, begins, label_here, next_here, plan_here, zip_at}

-- ---- parts of needs

pub both_met : (a b : Option Reason) → option_or a b ≡ None → (a ≡ None) × (b ≡ None)
both_met None b met = (refl, met)
both_met (Some why) b met = absurd cc

pub checked_is : (b : Bool) (why : Reason) → check b why ≡ None → b ≡ true
checked_is true why met = refl
checked_is false why met = absurd cc

live_terms : (x : ℕ → Contents) (from n : ℕ) → live_from values x from n ≡ None → (i : ℕ) → i < n → is_term (x (from + i)) ≡ true
live_terms x from zero met i below = absurd (omega (arith, below))
live_terms x from (suc n) met zero below =
    let same : from + 0 ≡ from = omega arith in
    let first = checked_is (is_term (x from)) _ (both_met _ _ met).0 in
    ap (λ (k : ℕ). is_term (x k)) same ∙ first
live_terms x from (suc n) met (suc i) below =
    let same : from + suc i ≡ suc from + i = omega arith in
    let later = live_terms x (suc from) n (both_met _ _ met).1 i (omega (arith, below)) in
    ap (λ (k : ℕ). is_term (x k)) same ∙ later

pub arguments_live : (x : ℕ → Contents) (n : ℕ) → live_from values x 0 n ≡ None → (i : ℕ) → i < n → is_term (x i) ≡ true
arguments_live x n met i below =
    let same : i ≡ 0 + i = omega arith in
    ap (λ (k : ℕ). is_term (x k)) same ∙ live_terms x 0 n met i below

some_at : {X : Type 0} (xs : List X) (k : ℕ) → k < length xs → (x : X) × (slice_get xs k ≡ Some x)
some_at [] k below = absurd (omega (arith, below))
some_at (x ∷ xs) zero below = (x, refl)
some_at (x ∷ xs) (suc k) below = some_at xs k (omega (arith, below))

-- ---- stores

holds : (b : Bool) → b ≡ true → T b
holds true is = tt
holds false is = absurd cc

mark_agrees : (frame : Frame) (f : FrameOf Kind (Unit {0})) → FrameRel Conforms frame f → StoreRel Conforms (bare (alone (Some Mark)) frame) (caught f)
mark_agrees frame f related = record { x = λ i. go (i == 0); frame = related; words = inl refl; funs = inl refl } where
  go : (first : Bool) → Conforms (if first then Some Mark else None) (if first then kind.Caught else kind.Unset)
  go true = tt
  go false = tt

pub arguments_agree : (x : ℕ → Contents) (arity : ℕ) → ((i : ℕ) → i < arity → is_term (x i) ≡ true) → StoreRel Conforms (bare x Absent) (first_known arity)
arguments_agree x arity terms = record { x = λ i. go i (nat_lt i arity) refl; frame = both_absent; words = inl refl; funs = inl refl } where
  go : (i : ℕ) (given : Bool) → nat_lt i arity ≡ given → Conforms (x i) (if given then kind.Term else kind.Unset)
  go i true is = holds (is_term (x i)) (terms i (grind (arith, nat_tests)))
  go i false is = tt

-- what a call leaves, with a term in x0
result_agrees : (p : Plan) (s : Known) (frame : Frame) (a : Contents) → p.after ≡ acts.Keep 0 ∷ acts.Write (regs.X 0) ∷ [] → is_term a ≡ true → FrameRel Conforms frame (entered p s).frame → StoreRel Conforms (after_call p frame a) (done p s)
result_agrees p s frame a after term related = subst (λ (list : List Action). StoreRel Conforms (left_by list) (effects kinds list [] (entered p s))) (sym after) (record {
  x = λ i. go (i == 0) i;
  frame = related;
  words = inl refl;
  funs = inl refl;
}) where
  left_by : List Action → Local
  left_by list = after_call (record { before = []; fails = []; raises = false; after = list; exit = exits.Next }) frame a

  go : (first : Bool) (i : ℕ) → Conforms (if first then a else (if first then Some (Term 0) else first_kept values 0 (λ j. None) i)) (if first then kind.Term else first_kept kinds 0 (entered p s).x i)
  go true i = holds (is_term a) term
  go false i = none (first_kept values 0 (λ j. None) i) (nat_lt i 0) refl where
    none : (v : Contents) (b : Bool) → nat_lt i 0 ≡ b → Conforms v (if b then (entered p s).x i else kind.Unset)
    none v true is = absurd (grind (arith, nat_tests))
    none v false is = tt

-- ---- handlers

tag_own : (b : Bounds) (ss : List (SlotOf Contents)) (label : ℕ) (labels : List ℕ) → list_all (tag_is_own b) ss ≡ true → lowest ss ≡ label ∷ labels → is_handler b label ≡ true
tag_own b [] label labels own is = absurd cc
tag_own b (Holds a ∷ ss) label labels own is = tag_own b ss label labels (and_parts (tag_is_own b (Holds a)) (list_all (tag_is_own b) ss) own).1 is
tag_own b (Tagged other kind ∷ ss) label labels own is =
    let same : other ≡ label = cc in
    subst (λ (l : ℕ). is_handler b l ≡ true) same (and_parts (is_handler b other) (list_all (tag_is_own b) ss) own).0

first_held : (list others : List ℕ) (label : ℕ) (labels : List ℕ) → list ≡ others → list ≡ label ∷ labels → Contains others label
first_held list others label labels same is = subst (λ (l : List ℕ). Contains l label) (sym is ∙ same) (held_at (label ∷ labels) 0 label refl)

-- what is known tells of the handler that a frame has
handler_known : (b : Bounds) (frame : Frame) (f : FrameOf Kind (Unit {0})) → FrameRel Conforms frame f → tags_are_own b frame ≡ true → (label : ℕ) (labels : List ℕ) → handler frame ≡ label ∷ labels → Contains (handlers_in b.handlers f) label
handler_known b Absent f related own label labels is = absurd cc
handler_known b (Slots ss) _ (both_slots {ts = ts} related) own label labels is = first_held (lowest ss) (lowest ts) label labels (lowest_same related) is
handler_known b (Slots ss) _ (not_known _ why) own label labels is = handler_held b label (tag_own b ss label labels own is)
handler_known b (Unknown why) f related own label labels is = elim why [ ]

-- what laws on plans and on calls say
pub record Laws : Type 0 where
  pub rows : (i : Instruction) (ends : Bool) (p : Plan) → plan_of i ends ≡ Ok p → IsPlanOf i ends p
  pub arities : (op : ℕ) (r : Row) → row_with op ≡ Some r → r.profile ≡ profiles.Typed → length r.roles ≡ r.arity
  pub leave : (i : Instruction) (ends : Bool) (p : Plan) → plan_of i ends ≡ Ok p → LeavesBy i p.exit p
  pub targets : (m : ModuleValue) (f : Piece) (i : Instruction) (k : ℕ) (o : Operand) → instruction_fault m f i ≡ None → slice_get (roles_of i.op) k ≡ Some roles.E → slice_get i.operands k ≡ Some o → IsEntry m.code.functions (label_in (Some o)) (arguments_of i)

-- the function that a call names has as many arguments as the call
called : Laws → (m : ModuleValue) (f : Piece) (i : Instruction) (p : Plan) → HasPlan m f i p → (label : ℕ) → CallsLocal i label → IsEntry m.code.functions label (arguments_of i)
called laws m f i p has label calls =
    let of_row = laws.rows i (ends m i) p has.plan in
    let arity_is : arity_of i.op ≡ Some of_row.row.arity = ap (option_map (λ (r : Row). r.arity)) of_row.found in
    let operands_are : of_row.row.arity ≡ length i.operands = same_number _ _ (sym arity_is ∙ has.instruction) in
    let roles_are = ap (λ (rs : Option Row). length (roles_in rs)) of_row.found ∙ laws.arities i.op of_row.row of_row.found of_row.typed in
    let inside = slice_get_within (roles_of i.op) 1 roles.E calls.entry in
    let operand = some_at i.operands 1 (omega (arith, inside, roles_are, operands_are)) in
    let named : label_in (operand_at i.operands 2) ≡ label_in (Some operand.0) = ap label_in operand.1 in
    subst (λ (l : ℕ). IsEntry m.code.functions l (arguments_of i)) (sym (calls.names ∙ named)) (laws.targets m f i 1 operand.0 has.sound calls.entry operand.1) where
      same_number : (a b : ℕ) → Some a ≡ Some b → a ≡ b
      same_number a b is = cc

module _ (laws : Laws) (m : ModuleValue) (split : IsSplit m.code.labels m.code.instrs m.code.functions) (typed : AllTyped m) where
  -- a place of a function, what is known there, and its plan
  record Spot : Type 0 where
    number : ℕ
    function : Piece
    is_there : slice_get m.code.functions number ≡ Some function
    at : ℕ
    known : Known
    known_is : (typed number function is_there).known at ≡ Some known
    plan : Plan
    plan_is : slice_get (typed number function is_there).plans at ≡ Some plan

  abbrev typing : (spot : Spot) → Typed m spot.function
  typing spot = typed spot.number spot.function spot.is_there

  abbrev body : Spot → Body
  body spot = body_with spot.function (typing spot).plans

  abbrev Waits : List Activation → Type 0
  Waits waiting = AllByRecursion (IsCall m typed) waiting

  abbrev Good : Outcome → Type 0
  Good (Goes s) = IsKnown m typed s
  Good Ends = Unit {0}
  Good Never = Unit {0}

  abbrev spot_of : (s : Machine) → IsKnown m typed s → Spot
  spot_of s is =
      let t = typed is.number is.function is.is_there in
      let plan = some_at t.plans is.at (t.inside is.at is.known is.known_is) in
      record { number = is.number; function = is.function; is_there = is.is_there; at = is.at; known = is.known; known_is = is.known_is; plan = plan.0; plan_is = plan.1 }

  abbrev call_spot : (call : Activation) → IsCall m typed call → Spot
  call_spot call is = record { number = is.number; function = is.function; is_there = is.is_there; at = is.at; known = is.known; known_is = is.known_is; plan = is.plan; plan_is = is.plan_is }

  -- ---- at a place

  module _ (spot : Spot) where
    abbrev f : Piece
    f = spot.function

    abbrev t : Typed m spot.function
    t = typing spot

    abbrev p : Plan
    p = spot.plan

    sized : length t.plans ≡ length f.instrs
    sized = AllZip-long (HasPlan m f) f.instrs t.plans t.plans_are

    inside : (place : ℕ) (s : Known) → t.known place ≡ Some s → place < length f.instrs
    inside place s is =
        let below = t.inside place s is in
        let size = sized in
        omega (arith, below, size)

    has_plan : (i : Instruction) × (slice_get f.instrs spot.at ≡ Some i) × HasPlan m f i p
    has_plan = zip_at (HasPlan m f) f.instrs t.plans t.plans_are spot.at p spot.plan_is

    plan_there : plan_at m (f.first + spot.at) ≡ Ok p
    plan_there = let has = has_plan in plan_here m split spot.number f spot.is_there spot.at has.0 p has.1 has.2

    fit : FitPlan (body spot) p
    fit = fit_plan_at (body spot) (fit_body (body spot) t.fits) spot.at p spot.plan_is

    follows : (e : Edge Known) → Contains (known_edges (body spot) spot.at spot.known) e → HasKnown t.known e.target e.state
    follows e held = t.follows spot.at spot.known e spot.known_is held

    -- what is needed is met
    need_met : plan_need kinds (has_next (body spot) spot.at) p spot.known ≡ None
    need_met = subst (λ (o : Option Plan). need_by (body spot) spot.at o spot.known ≡ None) spot.plan_is (t.met spot.at spot.known spot.known_is)

    kinds_met : needs kinds (p.before ++ p.after) [] spot.known ≡ None
    kinds_met = (both_met _ _ need_met).0

    exit_met : exit_need (has_next (body spot) spot.at) p.exit ≡ None
    exit_met = (both_met _ _ need_met).1

    next_there : goes_on p.exit ≡ true → has_next (body spot) spot.at ≡ true
    next_there goes = checked_is (has_next (body spot) spot.at) _ (subst (λ (b : Bool). (if b then check (has_next (body spot) spot.at) reasons.Leave else None) ≡ None) goes exit_met)

    -- ---- from there

    -- the place that an edge leads to
    arrives : (place : ℕ) (s : Known) → HasKnown t.known place s → (local : Local) → StoreRel Conforms local s → tags_are_own (body spot).bounds local.frame ≡ true → (waiting : List Activation) → Waits waiting → (at : ℕ) → at ≡ f.first + place → Good (Goes (record { place = at; local = local; waiting = waiting }))
    arrives place s has local agrees own waiting waits at is = record {
      number = spot.number;
      function = f;
      is_there = spot.is_there;
      at = place;
      place = is;
      known = has.0;
      known_is = has.1;
      local = agrees_above local s has.0 agrees has.2;
      tags = own;
      waiting = waits;
    }

    -- the label that an edge leads to
    arrives_at : (label : ℕ) (s : Known) → HasKnown t.known ((body spot).place label) s → (local : Local) → StoreRel Conforms local s → tags_are_own (body spot).bounds local.frame ≡ true → (waiting : List Activation) → Waits waiting → Good (Goes (record { place = label_place m label; local = local; waiting = waiting }))
    arrives_at label s has local agrees own waiting waits =
        let place = label_here m split spot.number f spot.is_there label (inside ((body spot).place label) has.0 has.1) in
        arrives ((body spot).place label) s has local agrees own waiting waits (label_place m label) place

    catches : may_raise p ≡ true → (frame : Frame) → FrameRel Conforms frame (entered p spot.known).frame → tags_are_own (body spot).bounds frame ≡ true → (waiting : List Activation) → Waits waiting → (outside : Outcome) → Good outside → (labels : List ℕ) → handler frame ≡ labels → Good (caught_in m frame waiting labels outside)
    catches raises frame related own waiting waits outside good [] is = good
    catches raises frame related own waiting waits outside good (label ∷ labels) is =
        let held = handler_known (body spot).bounds frame (entered p spot.known).frame related own label labels is in
        let edge = raise_edge (body spot) spot.at p spot.known spot.plan_is label raises held in
        arrives_at label (caught (entered p spot.known).frame) (follows _ edge) (bare (alone (Some Mark)) frame) (mark_agrees frame (entered p spot.known).frame related) own waiting waits

  -- ---- raises and returns

  call_raises : (call : Activation) (is : IsCall m typed call) → may_raise is.plan ≡ true
  call_raises call is = or_right is.plan.raises (exit_raises is.plan.exit) (ap exit_raises is.enters)

  -- out of a frame that has no handler
  unwinds : (waiting : List Activation) → Waits waiting → Good (raised m Absent waiting)
  unwinds [] waits = tt
  unwinds (call ∷ []) waits =
      catches (call_spot call waits.0) (call_raises call waits.0) call.frame waits.0.frame waits.0.tags [] tt Ends tt (handler call.frame) refl
  unwinds (call ∷ other ∷ waiting) waits =
      catches (call_spot call waits.0) (call_raises call waits.0) call.frame waits.0.frame waits.0.tags (other ∷ waiting) waits.1 (raised m other.frame waiting) (unwinds (other ∷ waiting) waits.1) (handler call.frame) refl

  raises_well : (spot : Spot) → may_raise spot.plan ≡ true → (frame : Frame) → FrameRel Conforms frame (entered spot.plan spot.known).frame → tags_are_own (body spot).bounds frame ≡ true → (waiting : List Activation) → Waits waiting → Good (raised m frame waiting)
  raises_well spot raises frame related own [] waits = catches spot raises frame related own [] tt Ends tt (handler frame) refl
  raises_well spot raises frame related own (call ∷ waiting) waits = catches spot raises frame related own (call ∷ waiting) waits (raised m call.frame waiting) (unwinds (call ∷ waiting) waits) (handler frame) refl

  returns_well : (waiting : List Activation) → Waits waiting → (a : Contents) → is_term a ≡ true → Good (returned m waiting a)
  returns_well [] waits a term = tt
  returns_well (call ∷ waiting) waits a term =
      let is = waits.0 in
      let spot = call_spot call is in
      let has = has_plan spot in
      let enters : Enters has.0 is.label is.plan = subst (λ (e : Exit). LeavesBy has.0 e is.plan) is.enters (laws.leave has.0 (ends m has.0) is.plan has.2.plan) in
      let plan = ap (plan_at m) is.place ∙ plan_there spot in
      let on : goes_on is.plan.exit ≡ true = ap goes_on is.enters in
      let edge = next_edge (body spot) is.at is.plan is.known is.plan_is on (next_there spot on) in
      let agrees = result_agrees is.plan is.known call.frame a enters.after term is.frame in
      let own = effects_own (body spot).bounds is.plan.after [] (bare (λ i. None) call.frame) (fit spot).after is.tags in
      let place = is.place in
      let good = arrives spot (is.at + 1) (done is.plan is.known) (follows spot _ edge) (after_call is.plan call.frame a) agrees own waiting waits.1 (call.place + 1) (omega (arith, place)) in
      subst (λ (r : Result Plan Reason). Good (resumed call waiting a r)) (sym plan) good

  -- a function is entered with its arguments
  enters_well : (label arity : ℕ) → Begins m label arity → (x : ℕ → Contents) → ((i : ℕ) → i < arity → is_term (x i) ≡ true) → (waiting : List Activation) → Waits waiting → Good (Goes (record { place = label_place m label; local = bare x Absent; waiting = waiting }))
  enters_well label arity is x terms waiting waits =
      let t = typed is.number is.function is.is_there in
      let has = t.enters in
      let same = is.arity_is in
      let given = arguments_agree x is.function.arity (λ i below. terms i (omega (arith, below, same))) in
      record {
        number = is.number;
        function = is.function;
        is_there = is.is_there;
        at = is.function.entry;
        place = is.place;
        known = has.0;
        known_is = has.1;
        local = agrees_above (bare x Absent) (first_known is.function.arity) has.0 given has.2;
        tags = refl;
        waiting = waits;
      }

  -- ---- steps

  module _ (s : Machine) (is : IsKnown m typed s) where
    abbrev here : Spot
    here = spot_of s is

    abbrev plan : Plan
    plan = here.plan

    plan_is_here : plan_at m s.place ≡ Ok plan
    plan_is_here = ap (plan_at m) is.place ∙ plan_there here

    values_met : needs values (plan.before ++ plan.after) [] s.local ≡ None
    values_met = needs_pass values_agree (plan.before ++ plan.after) [] [] s.local is.known is.local (kinds_met here)

    pub not_stuck : stop m s ≡ None
    not_stuck =
        let below = inside here is.at is.known is.known_is in
        let size = sized here in
        let next = ap (has_next_at m) is.place ∙ next_here m split is.number is.function is.is_there is.at below in
        let same : has_next (body here) is.at ≡ nat_lt (is.at + 1) (length is.function.instrs) = ap (nat_lt (is.at + 1)) size in
        let exit : exit_need (has_next_at m s.place) plan.exit ≡ None = ap (λ (b : Bool). exit_need b plan.exit) (next ∙ sym same) ∙ exit_met here in
        let all : plan_need values (has_next_at m s.place) plan s.local ≡ None = ap (λ (o : Option Reason). option_or o (exit_need (has_next_at m s.place) plan.exit)) values_met ∙ exit in
        ap (stop_by (has_next_at m s.place) s.local) plan_is_here ∙ all

    -- ---- what the plan does

    before_agrees : (terms : List ℕ) → StoreRel Conforms (before_done plan terms s.local) (entered plan is.known)
    before_agrees terms = effects_related values_agree plan.before terms [] s.local is.known is.local

    before_own : (terms : List ℕ) → tags_are_own (body here).bounds (before_done plan terms s.local).frame ≡ true
    before_own terms = effects_own (body here).bounds plan.before terms s.local (fit here).before is.tags

    all_agrees : (terms : List ℕ) → StoreRel Conforms (all_done plan terms s.local) (done plan is.known)
    all_agrees terms = effects_related values_agree plan.after (terms_left plan terms) [] (before_done plan terms s.local) (entered plan is.known) (before_agrees terms)

    all_own : (terms : List ℕ) → tags_are_own (body here).bounds (all_done plan terms s.local).frame ≡ true
    all_own terms = effects_own (body here).bounds plan.after (terms_left plan terms) (before_done plan terms s.local) (fit here).after (before_own terms)

    -- with these actions first
    met_by : (list : List Action) → plan.before ≡ list → needs values (list ++ plan.after) [] s.local ≡ None
    met_by list before = subst (λ (first : List Action). needs values (first ++ plan.after) [] s.local ≡ None) before values_met

    before_by : (list : List Action) → plan.before ≡ list → (terms : List ℕ) → before_done plan terms s.local ≡ effects values list terms s.local
    before_by list before terms = ap (λ (first : List Action). effects values first terms s.local) before

    -- ---- ways

    jumps_well : (terms : List ℕ) (o : Option ℕ) (k : ℕ) → slice_get (exit_labels plan.exit) k ≡ o → Good (jumps_to m o (all_done plan terms s.local) s.waiting)
    jumps_well terms None k at = tt
    jumps_well terms (Some label) k at =
        let edge = exit_edge (body here) is.at plan is.known here.plan_is label (held_at (exit_labels plan.exit) k label at) in
        arrives_at here label (done plan is.known) (follows here _ edge) (all_done plan terms s.local) (all_agrees terms) (all_own terms) s.waiting is.waiting

    fails_well : (terms : List ℕ) (o : Option ℕ) (k : ℕ) → slice_get plan.fails k ≡ o → Good (jumps_to m o (before_done plan terms s.local) s.waiting)
    fails_well terms None k at = tt
    fails_well terms (Some label) k at =
        let edge = fail_edge (body here) is.at plan is.known here.plan_is label (held_at plan.fails k label at) in
        arrives_at here label (entered plan is.known) (follows here _ edge) (before_done plan terms s.local) (before_agrees terms) (before_own terms) s.waiting is.waiting

    -- after a tail call there is no frame
    leaves_no_frame : (terms : List ℕ) (n : ℕ) → Replaces n plan → (before_done plan terms s.local).frame ≡ Absent
    leaves_no_frame terms n replaces = elim replaces.leaves [
      | inl none ↦
          let before = replaces.before ∙ ap (λ (a : Action). acts.Live n ∷ a ∷ []) none in
          let met = met_by (acts.Live n ∷ acts.NoFrame ∷ []) before in
          ap (λ (l : Local). l.frame) (before_by _ before terms) ∙ absent s.local.frame (both_met _ _ (both_met _ _ met).1).0
      | inr drops ↦
          let before = replaces.before ∙ ap (λ (a : Action). acts.Live n ∷ a ∷ []) drops.1 in
          ap (λ (l : Local). l.frame) (before_by (acts.Live n ∷ acts.DropFrame drops.0 ∷ []) before terms)
    ] where
      absent : (frame : Frame) → no_frame frame ≡ None → frame ≡ Absent
      absent Absent met = refl
      absent (Slots ss) met = absurd cc
      absent (Unknown why) met = elim why [ ]

    leaves_x : (terms : List ℕ) (n : ℕ) → Replaces n plan → (before_done plan terms s.local).x ≡ s.local.x
    leaves_x terms n replaces = elim replaces.leaves [
      | inl none ↦ ap (λ (l : Local). l.x) (before_by (acts.Live n ∷ acts.NoFrame ∷ []) (replaces.before ∙ ap (λ (a : Action). acts.Live n ∷ a ∷ []) none) terms)
      | inr drops ↦ ap (λ (l : Local). l.x) (before_by (acts.Live n ∷ acts.DropFrame drops.0 ∷ []) (replaces.before ∙ ap (λ (a : Action). acts.Live n ∷ a ∷ []) drops.1) terms)
    ]

    raises_or_not : (terms : List ℕ) (i : Instruction) (e : Exit) → plan.exit ≡ e → LeavesBy i e plan → (raises : Bool) → plan.raises ≡ raises → Good (if raises || raises_itself e then raised m (before_done plan terms s.local).frame s.waiting else Never)
    raises_or_not terms i e exit leave true own =
        raises_well here (ap (λ (b : Bool). b || exit_raises plan.exit) own) (before_done plan terms s.local).frame (before_agrees terms).frame (before_own terms) s.waiting is.waiting
    raises_or_not terms i exits.End exit leave false own =
        raises_well here (or_right plan.raises (exit_raises plan.exit) (ap exit_raises exit)) (before_done plan terms s.local).frame (before_agrees terms).frame (before_own terms) s.waiting is.waiting
    raises_or_not terms i exits.TailExt exit leave false own =
        subst (λ (frame : Frame). Good (raised m frame s.waiting)) (sym (leaves_no_frame terms leave.arguments leave.replaces)) (unwinds s.waiting is.waiting)
    raises_or_not terms i exits.Next exit leave false own = tt
    raises_or_not terms i (exits.Labels labels) exit leave false own = tt
    raises_or_not terms i (exits.Enter label) exit leave false own = tt
    raises_or_not terms i (exits.TailLocal label) exit leave false own = tt
    raises_or_not terms i exits.Return exit leave false own = tt

    -- ---- exits

    goes_next : (terms : List ℕ) → goes_on plan.exit ≡ true → Good (Goes (record { place = s.place + 1; local = all_done plan terms s.local; waiting = s.waiting }))
    goes_next terms on =
        let edge = next_edge (body here) is.at plan is.known here.plan_is on (next_there here on) in
        let place = is.place in
        arrives here (is.at + 1) (done plan is.known) (follows here _ edge) (all_done plan terms s.local) (all_agrees terms) (all_own terms) s.waiting is.waiting (s.place + 1) (omega (arith, place))

    goes_in : (terms : List ℕ) (i : Instruction) → HasPlan m is.function i plan → (label : ℕ) → plan.exit ≡ exits.Enter label → Enters i label plan → Good (at_exit m s plan terms (exits.Enter label))
    goes_in terms i has label exit enters =
        let n = arguments_of i in
        let met = met_by (acts.Live n ∷ acts.InFrame ∷ acts.FullY ∷ []) enters.before in
        let live = arguments_live s.local.x n (both_met _ _ met).0 in
        let same : (before_done plan terms s.local).x ≡ s.local.x = ap (λ (l : Local). l.x) (before_by (acts.Live n ∷ acts.InFrame ∷ acts.FullY ∷ []) enters.before terms) in
        let call : IsCall m typed (record { place = s.place; frame = (before_done plan terms s.local).frame }) = record {
          number = is.number;
          function = is.function;
          is_there = is.is_there;
          at = is.at;
          place = is.place;
          plan = plan;
          plan_is = here.plan_is;
          label = label;
          enters = exit;
          known = is.known;
          known_is = is.known_is;
          frame = (before_agrees terms).frame;
          tags = before_own terms;
        } in
        let begin = begins m split label n (called laws m is.function i plan has label enters.calls) in
        enters_well label n begin (before_done plan terms s.local).x (λ k below. ap (λ (x : ℕ → Contents). is_term (x k)) same ∙ live k below) (record { place = s.place; frame = (before_done plan terms s.local).frame } ∷ s.waiting) (call, is.waiting)

    goes_over : (terms : List ℕ) (i : Instruction) → HasPlan m is.function i plan → (label : ℕ) → LeavesBy i (exits.TailLocal label) plan → Good (at_exit m s plan terms (exits.TailLocal label))
    goes_over terms i has label leave =
        let n = arguments_of i in
        let same = leaves_x terms n leave.replaces in
        let met = met_by (acts.Live n ∷ leave.replaces.leave ∷ []) leave.replaces.before in
        let live = arguments_live s.local.x n (both_met _ _ met).0 in
        let begin = begins m split label n (called laws m is.function i plan has label leave.calls) in
        enters_well label n begin (before_done plan terms s.local).x (λ k below. ap (λ (x : ℕ → Contents). is_term (x k)) same ∙ live k below) s.waiting is.waiting

    goes_back : (terms : List ℕ) (i : Instruction) → LeavesBy i exits.Return plan → Good (at_exit m s plan terms exits.Return)
    goes_back terms i leave =
        let list = acts.NoFrame ∷ acts.Read (sources.Reg (regs.X 0)) ∷ [] in
        let met = met_by list leave.before in
        let same : (before_done plan terms s.local).x ≡ s.local.x = ap (λ (l : Local). l.x) (before_by list leave.before terms) in
        let term = checked_is (is_term (s.local.x 0)) _ (both_met _ _ (both_met _ _ met).1).0 in
        returns_well s.waiting is.waiting ((before_done plan terms s.local).x 0) (ap (λ (x : ℕ → Contents). is_term (x 0)) same ∙ term)

    leaves_well : (terms : List ℕ) (i : Instruction) → HasPlan m is.function i plan → (e : Exit) → plan.exit ≡ e → LeavesBy i e plan → Good (at_exit m s plan terms e)
    leaves_well terms i has exits.Next exit leave = goes_next terms (ap goes_on exit)
    leaves_well terms i has (exits.Labels labels) exit leave = tt
    leaves_well terms i has (exits.Enter label) exit leave = goes_in terms i has label exit leave
    leaves_well terms i has (exits.TailLocal label) exit leave = goes_over terms i has label leave
    leaves_well terms i has exits.TailExt exit leave = returns_well s.waiting is.waiting _ refl
    leaves_well terms i has exits.Return exit leave = goes_back terms i leave
    leaves_well terms i has exits.End exit leave = tt

    -- ---- outcomes

    goes_well : (terms : List ℕ) (way : Way) → Good (outcome_of m s plan terms way)
    goes_well terms Way.Done =
        let has = has_plan here in
        leaves_well terms has.0 has.2 plan.exit refl (laws.leave has.0 (ends m has.0) plan has.2.plan)
    goes_well terms (Way.Jump k) = jumps_well terms (slice_get (exit_labels plan.exit) k) k refl
    goes_well terms (Way.Fail k) = fails_well terms (slice_get plan.fails k) k refl
    goes_well terms Way.Raise =
        let has = has_plan here in
        let leave = laws.leave has.0 (ends m has.0) plan has.2.plan in
        raises_or_not terms has.0 plan.exit refl leave plan.raises refl

    pub outcome_good : (c : Choice) (next : Machine) → outcome m s c ≡ Goes next → IsKnown m typed next
    outcome_good c next goes =
        let good : Good (outcome m s c) = subst (λ (r : Result Plan Reason). Good (outcome_by m s c r)) (sym plan_is_here) (goes_well c.terms c.way) in
        subst Good goes good
