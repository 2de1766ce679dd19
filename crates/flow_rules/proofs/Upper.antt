-- Where no instruction of a module names a register from x5 up, none of these ever has a value in a run that begins without.
use Rattle.std.proofs.Common.{◌≡◌, ◌==◌, ◌&&◌, nat_lt, ℕ, zero, suc, ◌<◌, ◌≤◌, Bool, true, false, if◌then◌else◌, Option, Some, None, Result, Ok, Err, List, [], ◌∷◌, drop, refl, arith}
use Rattle.std.specs.List.{list_all, slice_get}
use Rattle.std.proofs.lemmas.Bool.{and_parts, eqb-true, ltb-true}
use Rattle.compact_term.specs.declared.operand.Reg.{Reg}
use Rattle.compact_term.specs.declared.operand.Reg.TheVariants as regs
use Rattle.op_table.specs.declared.action.Action.{Action}
use Rattle.op_table.specs.declared.action.Action.TheVariants as acts
use Rattle.op_table.specs.declared.plans.Exit.{Exit}
use Rattle.op_table.specs.declared.plans.Exit.TheVariants as exits
use Rattle.op_table.specs.declared.plans.Plan.{Plan}
use Rattle.op_table.specs.declared.plans.PlanRefusal.{PlanRefusal}
use Rattle.op_table.specs.Instruction.{Instruction}
use Rattle.op_table.specs.Planning.{plan_of}
use Rattle.op_table.specs.Rules.{exit_labels}
use Rattle.func_split.specs.Functions.{Piece}
use Rattle.beam_module.specs.Module.{ModuleValue}
use Rattle.action_rules.specs.declared.reason.Reason.{Reason}
use Rattle.action_rules.specs.Effects.{arrived, chosen, effect, effects, first_kept, put_x, source_value, terms_of, value_of, write_reg}
use Rattle.code_faults.specs.Ending.{ends}
use Rattle.code_faults.specs.Operands.{instruction_fault}
use Rattle.flow_rules.specs.Values.{Contents, Frame, Local, values}
use Rattle.flow_rules.specs.Values.Value.{Mark}
use Rattle.flow_rules.specs.Machine.{Activation, Machine, function_at, plan_at, found_plan, plan_or_fault, stop}
use Rattle.flow_rules.specs.Outcomes.{Choice, Outcome, Way, alone, bare, before_done, can_raise, caught_in, all_done, handler, jumps_to, at_exit, outcome, outcome_by, outcome_of, raised, resumed, returned, terms_left}
use Rattle.flow_rules.specs.Outcomes.Outcome.{Goes, Ends, Never}
use Rattle.flow_rules.specs.Shown.{free_only, led}

-- ---- registers

abbrev pub AreEmpty : (ℕ → Contents) → Type 0
AreEmpty x = (i : ℕ) → 5 ≤ i → x i ≡ None

chosen_by : (b : Bool) (one other : Contents) → (b ≡ true → one ≡ None) → other ≡ None → (if b then one else other) ≡ None
chosen_by true one other here there = here refl
chosen_by false one other here there = there

put_empty : (x : ℕ → Contents) (n : ℕ) (new : Contents) → nat_lt n 5 ≡ true → AreEmpty x → AreEmpty (put_x x n new)
put_empty x n new low empty i far = chosen_by (i == n) new (x i) (λ same.
    let at : i ≡ n = eqb-true i n same in
    let below : n < 5 = ltb-true n 5 low in
    absurd (omega (arith, at, below, far))) (empty i far)

kept_empty : (n : ℕ) (x : ℕ → Contents) → AreEmpty x → AreEmpty (first_kept values n x)
kept_empty n x empty i far = chosen_by (nat_lt i n) (x i) None (λ inside. empty i far) refl

arrived_empty : (n : ℕ) (terms : List ℕ) → n ≤ 5 → AreEmpty (arrived values n terms)
arrived_empty n terms few i far = chosen_by (nat_lt i n) (chosen values terms i) None (λ inside.
    let below : i < n = ltb-true i n inside in
    absurd (omega (arith, below, few, far))) refl

alone_empty : (a : Contents) → AreEmpty (alone a)
alone_empty a i far = chosen_by (i == 0) a None (λ same.
    let at : i ≡ 0 = eqb-true i 0 same in
    absurd (omega (arith, at, far))) refl

-- ---- actions

abbrev pub low_reg : Reg → Bool
low_reg (regs.X n) = nat_lt n 5
low_reg (regs.Y y) = true

abbrev pub low : Action → Bool
low (acts.Write r) = low_reg r
low (acts.Copy source r) = low_reg r
low (acts.Swap a b) = low_reg a && low_reg b
low _ = true

write_empty : (r : Reg) (new : Contents) (s : Local) → low_reg r ≡ true → AreEmpty s.x → AreEmpty (write_reg r new s).x
write_empty (regs.X n) new s is empty = put_empty s.x n new is empty
write_empty (regs.Y y) new s is empty = empty

effect_empty : (a : Action) (terms : List ℕ) (s : Local) → low a ≡ true → AreEmpty s.x → AreEmpty (effect values a terms s).x
effect_empty (acts.Read source) terms s is empty = empty
effect_empty (acts.Live n) terms s is empty = empty
effect_empty acts.FullY terms s is empty = empty
effect_empty (acts.Keep n) terms s is empty = kept_empty n s.x empty
effect_empty (acts.Room words funs) terms s is empty = empty
effect_empty (acts.Take words) terms s is empty = empty
effect_empty acts.TakeFun terms s is empty = empty
effect_empty (acts.Write r) terms s is empty = write_empty r (chosen values terms 0) s is empty
effect_empty (acts.Copy source r) terms s is empty = write_empty r (source_value values source terms s) s is empty
effect_empty (acts.Swap a b) terms s is empty =
    let both = and_parts (low_reg a) (low_reg b) is in
    write_empty b (value_of values a s) (write_reg a (value_of values b s) s) both.1 (write_empty a (value_of values b s) s both.0 empty)
effect_empty (acts.NewFrame n) terms s is empty = empty
effect_empty (acts.DropFrame n) terms s is empty = empty
effect_empty (acts.Trim n r) terms s is empty = empty
effect_empty acts.InFrame terms s is empty = empty
effect_empty acts.NoFrame terms s is empty = empty
effect_empty (acts.Tag y label kind) terms s is empty = empty
effect_empty (acts.Untag y kind) terms s is empty = empty
effect_empty acts.Caught terms s is empty = arrived_empty 1 terms (omega arith)
effect_empty acts.Landed terms s is empty = arrived_empty 3 terms (omega arith)

effects_empty : (actions : List Action) (terms : List ℕ) (s : Local) → list_all low actions ≡ true → AreEmpty s.x → AreEmpty (effects values actions terms s).x
effects_empty [] terms s is empty = empty
effects_empty (a ∷ rest) terms s is empty =
    let both = and_parts (low a) (list_all low rest) is in
    effects_empty rest (drop (terms_of a) terms) (effect values a terms s) both.1 (effect_empty a terms s both.0 empty)

-- ---- plans

abbrev pub low_plan : Plan → Bool
low_plan p = list_all low p.before && list_all low p.after

abbrev pub low_planned : {E : Type 0} → Result Plan E → Bool
low_planned (Ok p) = low_plan p
low_planned (Err why) = true

abbrev pub low_instr : ModuleValue → Instruction → Bool
low_instr m i = low_planned (plan_of i (ends m i))

abbrev low_found : ModuleValue → Option Instruction → Bool
low_found m None = true
low_found m (Some i) = low_instr m i

found_low : (m : ModuleValue) (instrs : List Instruction) → list_all (low_instr m) instrs ≡ true → (k : ℕ) → low_found m (slice_get instrs k) ≡ true
found_low m [] all k = refl
found_low m (i ∷ instrs) all zero = (and_parts (low_instr m i) (list_all (low_instr m) instrs) all).0
found_low m (i ∷ instrs) all (suc k) = found_low m instrs (and_parts (low_instr m i) (list_all (low_instr m) instrs) all).1 k

unless_low : (why : Option Reason) (r : Result Plan PlanRefusal) → low_planned r ≡ true → low_planned (plan_or_fault why r) ≡ true
unless_low (Some why) r is = refl
unless_low None (Ok p) is = is
unless_low None (Err refusal) is = refl

in_low : (m : ModuleValue) (f : Option Piece) (o : Option Instruction) → low_found m o ≡ true → low_planned (found_plan m f o) ≡ true
in_low m None o is = refl
in_low m (Some f) None is = refl
in_low m (Some f) (Some i) is = unless_low (instruction_fault m f i) (plan_of i (ends m i)) is

-- ---- outcomes

abbrev pub IsEmptyAfter : Outcome → Type 0
IsEmptyAfter (Goes s) = AreEmpty s.local.x
IsEmptyAfter Ends = Unit {0}
IsEmptyAfter Never = Unit {0}

module _ (m : ModuleValue) (all : list_all (low_instr m) m.code.instrs ≡ true) where
  plan_low : (place : ℕ) → low_planned (plan_at m place) ≡ true
  plan_low place = in_low m (function_at m place) (slice_get m.code.instrs place) (found_low m m.code.instrs all place)

  caught_empty : (frame : Frame) (waiting : List Activation) (labels : List ℕ) (outside : Outcome) → IsEmptyAfter outside → IsEmptyAfter (caught_in m frame waiting labels outside)
  caught_empty frame waiting [] outside empty = empty
  caught_empty frame waiting (label ∷ labels) outside empty = alone_empty (Some Mark)

  raised_empty : (waiting : List Activation) (frame : Frame) → IsEmptyAfter (raised m frame waiting)
  raised_empty [] frame = caught_empty frame [] (handler frame) Ends tt
  raised_empty (call ∷ waiting) frame = caught_empty frame (call ∷ waiting) (handler frame) (raised m call.frame waiting) (raised_empty waiting call.frame)

  resumed_empty : (call : Activation) (waiting : List Activation) (a : Contents) (r : Result Plan Reason) → low_planned r ≡ true → IsEmptyAfter (resumed call waiting a r)
  resumed_empty call waiting a (Err why) is = tt
  resumed_empty call waiting a (Ok p) is =
      let after = effects values p.after [] (bare (λ i. None) call.frame) in
      put_empty after.x 0 a refl (effects_empty p.after [] (bare (λ i. None) call.frame) (and_parts (list_all low p.before) (list_all low p.after) is).1 (λ i far. refl))

  returned_empty : (waiting : List Activation) (a : Contents) → IsEmptyAfter (returned m waiting a)
  returned_empty [] a = tt
  returned_empty (call ∷ waiting) a = resumed_empty call waiting a (plan_at m call.place) (plan_low call.place)

  jumps_empty : (o : Option ℕ) (local : Local) (waiting : List Activation) → AreEmpty local.x → IsEmptyAfter (jumps_to m o local waiting)
  jumps_empty None local waiting empty = tt
  jumps_empty (Some label) local waiting empty = empty

  module _ (s : Machine) (empty : AreEmpty s.local.x) where
    module _ (p : Plan) (terms : List ℕ) (is : low_plan p ≡ true) where
      first_empty : AreEmpty (before_done p terms s.local).x
      first_empty = effects_empty p.before terms s.local (and_parts (list_all low p.before) (list_all low p.after) is).0 empty

      all_empty : AreEmpty (all_done p terms s.local).x
      all_empty = effects_empty p.after (terms_left p terms) (before_done p terms s.local) (and_parts (list_all low p.before) (list_all low p.after) is).1 first_empty

      exit_empty : (e : Exit) → IsEmptyAfter (at_exit m s p terms e)
      exit_empty exits.Next = all_empty
      exit_empty (exits.Labels labels) = tt
      exit_empty (exits.Enter label) = first_empty
      exit_empty (exits.TailLocal label) = first_empty
      exit_empty exits.TailExt = returned_empty s.waiting _
      exit_empty exits.Return = returned_empty s.waiting _
      exit_empty exits.End = tt

      raise_empty : (can : Bool) → IsEmptyAfter (if can then raised m (before_done p terms s.local).frame s.waiting else Never)
      raise_empty true = raised_empty s.waiting (before_done p terms s.local).frame
      raise_empty false = tt

      way_empty : (way : Way) → IsEmptyAfter (outcome_of m s p terms way)
      way_empty Way.Done = exit_empty p.exit
      way_empty (Way.Jump k) = jumps_empty (slice_get (exit_labels p.exit) k) (all_done p terms s.local) s.waiting all_empty
      way_empty (Way.Fail k) = jumps_empty (slice_get p.fails k) (before_done p terms s.local) s.waiting first_empty
      way_empty Way.Raise = raise_empty (can_raise p)

    by_empty : (c : Choice) (r : Result Plan Reason) → low_planned r ≡ true → IsEmptyAfter (outcome_by m s c r)
    by_empty c (Err why) is = tt
    by_empty c (Ok p) is = way_empty p c.terms is c.way

    outcome_empty : (c : Choice) → IsEmptyAfter (outcome m s c)
    outcome_empty c = by_empty c (plan_at m s.place) (plan_low s.place)

  free_empty : (why : Option Reason) (o : Outcome) → IsEmptyAfter o → IsEmptyAfter (free_only why o)
  free_empty None o empty = empty
  free_empty (Some why) o empty = tt

  pub led_empty : (choices : List Choice) (o : Outcome) → IsEmptyAfter o → IsEmptyAfter (led m choices o)
  led_empty [] o empty = empty
  led_empty (c ∷ choices) (Goes s) empty = led_empty choices (free_only (stop m s) (outcome m s c)) (free_empty (stop m s) (outcome m s c) (outcome_empty s empty c))
  led_empty (c ∷ choices) Ends empty = tt
  led_empty (c ∷ choices) Never empty = tt
