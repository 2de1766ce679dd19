-- A state of a run that is not stuck has something that may happen next.
use Rattle.std.proofs.Common.{◌≡◌, ◌∙◌, ◌||◌, ℕ, zero, suc, Bool, true, false, if◌then◌else◌, Option, Some, None, Result, Ok, Err, List, [], ◌∷◌, refl, sym, ap, subst}
use Rattle.std.specs.List.{AllByRecursion, slice_get}
use Rattle.std.proofs.lemmas.Bool.{or_right}
use Rattle.std.proofs.lemmas.Option.{same_Some}
use Rattle.op_table.specs.declared.plans.Exit.{Exit}
use Rattle.op_table.specs.declared.plans.Exit.TheVariants as exits
use Rattle.op_table.specs.declared.plans.Plan.{Plan}
use Rattle.op_table.specs.declared.plans.PlanRefusal.{PlanRefusal}
use Rattle.op_table.specs.Instruction.{Instruction, IsInstruction}
use Rattle.op_table.specs.Planning.{plan_of}
use Rattle.op_table.specs.Rules.{exit_labels}
use Rattle.func_split.specs.Functions.{Piece}
use Rattle.beam_module.specs.Module.{ModuleValue}
use Rattle.action_rules.specs.declared.reason.Reason.{Reason}
use Rattle.code_faults.specs.Ending.{ends}
use Rattle.code_faults.specs.Operands.{instruction_fault}
use Rattle.flow_rules.specs.Values.{Contents, Frame, Local}
use Rattle.flow_rules.specs.Machine.{Activation, Machine, function_at, has_next_at, plan_at, found_plan, plan_or_fault, stop, stop_by}
use Rattle.flow_rules.specs.Outcomes.{Choice, Outcome, Way, before_done, can_raise, caught_in, all_done, handler, jumps_to, at_exit, outcome, outcome_by, outcome_of, raised, raises_itself, resumed, returned}
use Rattle.flow_rules.specs.Outcomes.Outcome.{Goes, Ends, Never}
use Rattle.flow_rules.specs.Runs.{AreSteps, HasOutcome, IsRun}

all_at : {X : Type 0} (P : X → Type 0) (xs : List X) → AllByRecursion P xs → (k : ℕ) (x : X) → slice_get xs k ≡ Some x → P x
all_at P [] all k x is = absurd cc
all_at P (y ∷ xs) all zero x is = subst P (same_Some y x is) all.0
all_at P (y ∷ xs) all (suc k) x is = all_at P xs all.1 k x is

planned : (why : Option Reason) (r : Result Plan PlanRefusal) (p : Plan) → plan_or_fault why r ≡ Ok p → r ≡ Ok p
planned (Some why) r p is = absurd cc
planned None (Ok q) p is = cc
planned None (Err refusal) p is = absurd cc

-- an instruction that has a plan
record IsPlanned (m : ModuleValue) (o : Option Instruction) (p : Plan) : Type 0 where
  instr : Instruction
  there : o ≡ Some instr
  plan : plan_of instr (ends m instr) ≡ Ok p

planned_in : (m : ModuleValue) (f : Option Piece) (o : Option Instruction) (p : Plan) → found_plan m f o ≡ Ok p → IsPlanned m o p
planned_in m None o p is = absurd cc
planned_in m (Some f) None p is = absurd cc
planned_in m (Some f) (Some i) p is = record { instr = i; there = refl; plan = planned (instruction_fault m f i) (plan_of i (ends m i)) p is }

module _ (leads : (i : Instruction) (ends : Bool) (p : Plan) → IsInstruction i → plan_of i ends ≡ Ok p → p.exit ≡ exits.Labels [] → p.raises ≡ false → p.fails ≡ [] → ⊥)
    (m : ModuleValue) (instrs : AllByRecursion IsInstruction m.code.instrs) where
  -- ---- the calls that wait have plans

  abbrev IsCalled : Activation → Type 0
  IsCalled call = (p : Plan) × (plan_at m call.place ≡ Ok p)

  abbrev Waits : List Activation → Type 0
  Waits waiting = AllByRecursion IsCalled waiting

  abbrev Good : Outcome → Type 0
  Good (Goes s) = Waits s.waiting
  Good Ends = Unit {0}
  Good Never = Unit {0}

  caught_good : (frame : Frame) (waiting : List Activation) (labels : List ℕ) (outside : Outcome) → Waits waiting → Good outside → Good (caught_in m frame waiting labels outside)
  caught_good frame waiting [] outside waits good = good
  caught_good frame waiting (label ∷ labels) outside waits good = waits

  raised_good : (waiting : List Activation) (frame : Frame) → Waits waiting → Good (raised m frame waiting)
  raised_good [] frame waits = caught_good frame [] (handler frame) Ends tt tt
  raised_good (call ∷ waiting) frame waits = caught_good frame (call ∷ waiting) (handler frame) (raised m call.frame waiting) waits (raised_good waiting call.frame waits.1)

  resumed_good : (call : Activation) (waiting : List Activation) (a : Contents) (r : Result Plan Reason) → Waits waiting → Good (resumed call waiting a r)
  resumed_good call waiting a (Ok p) waits = waits
  resumed_good call waiting a (Err why) waits = tt

  returned_good : (waiting : List Activation) (a : Contents) → Waits waiting → Good (returned m waiting a)
  returned_good [] a waits = tt
  returned_good (call ∷ waiting) a waits = resumed_good call waiting a (plan_at m call.place) waits.1

  jumps_good : (o : Option ℕ) (local : Local) (waiting : List Activation) → Waits waiting → Good (jumps_to m o local waiting)
  jumps_good None local waiting waits = tt
  jumps_good (Some label) local waiting waits = waits

  module _ (s : Machine) (waits : Waits s.waiting) where
    exit_good : (p : Plan) (terms : List ℕ) (e : Exit) → plan_at m s.place ≡ Ok p → Good (at_exit m s p terms e)
    exit_good p terms exits.Next is = waits
    exit_good p terms (exits.Labels labels) is = tt
    exit_good p terms (exits.Enter label) is = ((p, is), waits)
    exit_good p terms (exits.TailLocal label) is = waits
    exit_good p terms exits.TailExt is = returned_good s.waiting _ waits
    exit_good p terms exits.Return is = returned_good s.waiting _ waits
    exit_good p terms exits.End is = tt

    raise_good : (p : Plan) (terms : List ℕ) (can : Bool) → Good (if can then raised m (before_done p terms s.local).frame s.waiting else Never)
    raise_good p terms true = raised_good s.waiting (before_done p terms s.local).frame waits
    raise_good p terms false = tt

    of_good : (p : Plan) (terms : List ℕ) (way : Way) → plan_at m s.place ≡ Ok p → Good (outcome_of m s p terms way)
    of_good p terms Way.Done is = exit_good p terms p.exit is
    of_good p terms (Way.Jump k) is = jumps_good (slice_get (exit_labels p.exit) k) (all_done p terms s.local) s.waiting waits
    of_good p terms (Way.Fail k) is = jumps_good (slice_get p.fails k) (before_done p terms s.local) s.waiting waits
    of_good p terms Way.Raise is = raise_good p terms (can_raise p)

    outcome_waits : (c : Choice) → Good (outcome m s c)
    outcome_waits c = go (plan_at m s.place) refl where
      go : (r : Result Plan Reason) → plan_at m s.place ≡ r → Good (outcome_by m s c r)
      go (Ok p) is = of_good p c.terms c.way is
      go (Err why) is = tt

  -- ---- something may happen

  raised_goes : (waiting : List Activation) (frame : Frame) → raised m frame waiting ≡ Never → ⊥
  raised_goes [] frame never = caught_goes (handler frame) never where
    caught_goes : (labels : List ℕ) → caught_in m frame [] labels Ends ≡ Never → ⊥
    caught_goes [] is = absurd cc
    caught_goes (label ∷ labels) is = absurd cc
  raised_goes (call ∷ waiting) frame never = caught_goes (handler frame) (raised_goes waiting call.frame) never where
    caught_goes : (labels : List ℕ) → (raised m call.frame waiting ≡ Never → ⊥) → caught_in m frame (call ∷ waiting) labels (raised m call.frame waiting) ≡ Never → ⊥
    caught_goes [] outside is = outside is
    caught_goes (label ∷ labels) outside is = absurd cc

  returned_goes : (waiting : List Activation) (a : Contents) → Waits waiting → returned m waiting a ≡ Never → ⊥
  returned_goes [] a waits never = absurd cc
  returned_goes (call ∷ waiting) a waits never =
      let goes : resumed call waiting a (Ok waits.0.0) ≡ Never = ap (resumed call waiting a) (sym waits.0.1) ∙ never in
      absurd cc

  module _ (s : Machine) (waits : Waits s.waiting) (p : Plan) (is : plan_at m s.place ≡ Ok p) where
    by_way : (way : Way) → (outcome_of m s p [] way ≡ Never → ⊥) → HasOutcome m s
    by_way way goes =
        let c : Choice = record { way = way; terms = [] } in
        (c, λ never. goes (ap (outcome_by m s c) (sym is) ∙ never))

    by_raise : can_raise p ≡ true → HasOutcome m s
    by_raise can = by_way Way.Raise (λ never.
        let goes : raised m (before_done p [] s.local).frame s.waiting ≡ Never = ap (λ (b : Bool). if b then raised m (before_done p [] s.local).frame s.waiting else Never) (sym can) ∙ never in
        raised_goes s.waiting (before_done p [] s.local).frame goes)

    by_fail : (fails : List ℕ) → p.fails ≡ fails → p.raises ≡ false → p.exit ≡ exits.Labels [] → HasOutcome m s
    by_fail [] none quiet exit =
        let i = planned_in m (function_at m s.place) (slice_get m.code.instrs s.place) p is in
        absurd (leads i.instr (ends m i.instr) p (all_at IsInstruction m.code.instrs instrs s.place i.instr i.there) i.plan exit quiet none)
    by_fail (label ∷ labels) some quiet exit = by_way (Way.Fail 0) (λ never.
        let goes : jumps_to m (slice_get (label ∷ labels) 0) (before_done p [] s.local) s.waiting ≡ Never = ap (λ (fails : List ℕ). jumps_to m (slice_get fails 0) (before_done p [] s.local) s.waiting) (sym some) ∙ never in
        absurd cc)

    by_labels : (raises : Bool) → p.raises ≡ raises → p.exit ≡ exits.Labels [] → HasOutcome m s
    by_labels true own exit = by_raise (ap (λ (b : Bool). b || raises_itself p.exit) own)
    by_labels false own exit = by_fail p.fails refl own exit

    by_exit : (e : Exit) → p.exit ≡ e → HasOutcome m s
    by_exit exits.Next exit = by_way Way.Done (λ never. let goes = ap (at_exit m s p []) (sym exit) ∙ never in absurd cc)
    by_exit (exits.Labels []) exit = by_labels p.raises refl exit
    by_exit (exits.Labels (label ∷ labels)) exit = by_way (Way.Jump 0) (λ never.
        let goes : jumps_to m (slice_get (label ∷ labels) 0) (all_done p [] s.local) s.waiting ≡ Never = ap (λ (e : Exit). jumps_to m (slice_get (exit_labels e) 0) (all_done p [] s.local) s.waiting) (sym exit) ∙ never in
        absurd cc)
    by_exit (exits.Enter label) exit = by_way Way.Done (λ never. let goes = ap (at_exit m s p []) (sym exit) ∙ never in absurd cc)
    by_exit (exits.TailLocal label) exit = by_way Way.Done (λ never. let goes = ap (at_exit m s p []) (sym exit) ∙ never in absurd cc)
    by_exit exits.TailExt exit = by_way Way.Done (λ never. returned_goes s.waiting _ waits (ap (at_exit m s p []) (sym exit) ∙ never))
    by_exit exits.Return exit = by_way Way.Done (λ never. returned_goes s.waiting _ waits (ap (at_exit m s p []) (sym exit) ∙ never))
    by_exit exits.End exit = by_raise (or_right p.raises (raises_itself p.exit) (ap raises_itself exit))

  has_outcome : (s : Machine) → Waits s.waiting → stop m s ≡ None → HasOutcome m s
  has_outcome s waits free = go (plan_at m s.place) refl where
    go : (r : Result Plan Reason) → plan_at m s.place ≡ r → HasOutcome m s
    go (Ok p) is = by_exit s waits p is p.exit refl
    go (Err why) is =
        let stuck : Some why ≡ None = ap (stop_by (has_next_at m s.place) s.local) (sym is) ∙ free in
        absurd cc

  -- ---- runs

  from_waiting : (s : Machine) → Waits s.waiting → (states : List Machine) → AreSteps m s states → AllByRecursion (λ u. stop m u ≡ None → HasOutcome m u) states
  from_waiting s waits [] steps = tt
  from_waiting s waits (next ∷ states) steps =
      let goes = steps.0.1 in
      let there : Waits next.waiting = subst Good goes.1 (outcome_waits s waits goes.0) in
      (has_outcome next there, from_waiting next there states steps.1)

  pub go_on : (states : List Machine) → IsRun m states → AllByRecursion (λ s. stop m s ≡ None → HasOutcome m s) states
  go_on [] run = tt
  go_on (s ∷ states) run =
      let waits : Waits s.waiting = subst Waits (sym run.0.waiting) tt in
      (has_outcome s waits, from_waiting s waits states run.1)
