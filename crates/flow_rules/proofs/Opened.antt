-- A module that was opened has the report that is found by plans and rounds.
use Rattle.std.proofs.Common.{◌≡◌, ℕ, suc, ◌+◌, ◌<◌, Bool, true, Option, Some, None, Result, Ok, List, [], ◌∷◌, ◌++◌, length, slice_get, refl, sym, subst, inl, inr, arith}
use Rattle.std.specs.List.{AllByRecursion, AllZip}
use Rattle.bk_codec.specs.Spelling.{SpellsMany}
use Rattle.op_table.specs.declared.plans.Plan.{Plan}
use Rattle.op_table.specs.declared.plans.PlanRefusal.{PlanRefusal}
use Rattle.op_table.specs.Instruction.{Instruction, IsInstruction}
use Rattle.op_table.specs.Planning.{plan_of}
use Rattle.reg_state.specs.States.{Known}
use Rattle.reg_state.specs.Join.{IsLeastAbove, joined}
use Rattle.code_chunk.specs.declared.code.CodeVal.{CodeVal}
use Rattle.code_chunk.specs.Spelling.{SpellsCode, SpellsInstr}
use Rattle.func_split.specs.Functions.{AreFrom, IsSplit, Piece, StandsIn}
use Rattle.beam_module.specs.Module.{IsModule, ModuleValue}
use Rattle.action_rules.specs.declared.reason.Reason.{Reason}
use Rattle.code_faults.specs.declared.fault.Fault.{Fault}
use Rattle.code_faults.specs.Ending.{ends}
use Rattle.code_faults.specs.Faults.{faults_at, faults_from, function_faults}
use Rattle.code_faults.specs.Operands.{instruction_fault}
use Rattle.code_faults.specs.Registers.{x_bound}
use Rattle.flow_rules.specs.Body.{body_fits, body_from}
use Rattle.flow_rules.specs.Lawful.{body_lawful}
use Rattle.flow_rules.specs.Making.{HasPlan, handlers_of, y_bound}
use Rattle.flow_rules.specs.Reporting.{AreReported, IsFunctionReport, IsReport}
use Rattle.flow_rules.specs.Reports.{body_in, function_report, made_plan, plans_in, report_after, report_of, reports_from, typing_in}
use Rattle.flow_rules.proofs.Told.{typing_found}

-- ---- instructions have as many operands as their opcodes

parts : {X : Type 0} (P : X → Type 0) (xs ys : List X) → AllByRecursion P (xs ++ ys) → AllByRecursion P xs × AllByRecursion P ys
parts P [] ys all = (tt, all)
parts P (x ∷ xs) ys all = let later = parts P xs ys all.1 in ((all.0, later.0), later.1)

all_instructions : (instrs : List Instruction) (bytes : List ℕ) → SpellsMany SpellsInstr instrs bytes → AllByRecursion IsInstruction instrs
all_instructions [] bytes spelled = tt
all_instructions (i ∷ instrs) bytes spelled = (spelled.front_is.0, all_instructions instrs spelled.back spelled.back_is)

code_instructions : (c : CodeVal) (payload : List ℕ) → SpellsCode c payload → AllByRecursion IsInstruction c.instrs
code_instructions c payload spelled =
    let instrs = spelled.back_is.back_is.back_is.back_is.back_is in
    all_instructions c.instrs instrs.back instrs.back_is

own_instructions : (place : ℕ) (functions : List Piece) (code : List Instruction) → AreFrom place functions code → AllByRecursion IsInstruction code → AllByRecursion (λ f. AllByRecursion IsInstruction f.instrs) functions
own_instructions place [] code are all = tt
own_instructions place (f ∷ functions) code are all =
    let split = parts IsInstruction f.instrs are.1.0 (subst (AllByRecursion IsInstruction) are.1.1 all) in
    (split.0, own_instructions (place + length f.instrs) functions are.1.0 are.1.2 split.1)

-- what the laws on instructions with which nothing is wrong, on functions and on joins say
pub record Laws : Type 0 where
  pub plans : (m : ModuleValue) (f : Piece) (i : Instruction) (last : Bool) → instruction_fault m f i ≡ None → (p : Plan) × (plan_of i last ≡ Ok p)
  pub fit : (m : ModuleValue) (f : Piece) (plans : List Plan) → AllZip (HasPlan m f) f.instrs plans → f.entry < length f.instrs → body_fits (body_from f plans (handlers_of plans) (x_bound f) (y_bound plans)) ≡ true
  pub joins : (s t : Known) → IsLeastAbove s t (joined s t)
  pub stand : (labels : ℕ) (code : List Instruction) (functions : List Piece) → IsSplit labels code functions → (i : ℕ) (f : Piece) → slice_get functions i ≡ Some f → StandsIn code i f

module _ (laws : Laws) (m : ModuleValue) where
  -- ---- plans

  have_plans : (f : Piece) (number place : ℕ) (instrs : List Instruction) → AllByRecursion IsInstruction instrs → faults_from m f number place instrs ≡ [] → AllZip (HasPlan m f) instrs (plans_in m instrs)
  have_plans f number place [] all sound = tt
  have_plans f number place (i ∷ instrs) all sound = go (instruction_fault m f i) refl (have_plans f number (place + 1) instrs all.1) where
    go : (o : Option Reason) → instruction_fault m f i ≡ o → (faults_from m f number (place + 1) instrs ≡ [] → AllZip (HasPlan m f) instrs (plans_in m instrs)) → AllZip (HasPlan m f) (i ∷ instrs) (plans_in m (i ∷ instrs))
    go (Some why) is rest =
        let some = subst (λ (found : Option Reason). faults_at number place found ++ faults_from m f number (place + 1) instrs ≡ []) is sound in
        absurd cc
    go None is rest =
        let later = subst (λ (found : Option Reason). faults_at number place found ++ faults_from m f number (place + 1) instrs ≡ []) is sound in
        let plan = laws.plans m f i (ends m i) is in
        let has : HasPlan m f i plan.0 = record { instruction = all.0; sound = is; plan = plan.1 } in
        subst (λ (made : Result Plan PlanRefusal). AllZip (HasPlan m f) (i ∷ instrs) (made_plan made ++ plans_in m instrs)) (sym plan.1) (has, rest later)

  -- ---- reports

  has_report : (number : ℕ) (f : Piece) → slice_get m.code.functions number ≡ Some f → AllByRecursion IsInstruction f.instrs → f.entry < length f.instrs → IsFunctionReport m number f (function_report m number f)
  has_report number f there all entry = go (function_faults m number f) refl where
    go : (list : List Fault) → function_faults m number f ≡ list → IsFunctionReport m number f (report_after m number f list)
    go (fault ∷ faults) is = inl ((λ none. absurd cc), sym is)
    go [] is =
        let have = have_plans f number f.first f.instrs all is in
        let lawful = body_lawful (body_in m f) (laws.fit m f (plans_in m f.instrs) have entry) in
        inr (record {
          sound = is;
          body = body_in m f;
          body_is = record { function = f; is_there = there; plans = plans_in m f.instrs; plans_are = have; is = refl };
          typing = typing_in (body_in m f);
          least = typing_found laws.joins (body_in m f) lawful;
          list_is = refl;
        })

  are_reported : (functions : List Piece) (number : ℕ) → ((k : ℕ) (f : Piece) → slice_get functions k ≡ Some f → slice_get m.code.functions (number + k) ≡ Some f)
      → ((k : ℕ) (f : Piece) → slice_get m.code.functions k ≡ Some f → f.entry < length f.instrs) → AllByRecursion (λ f. AllByRecursion IsInstruction f.instrs) functions
      → AreReported m number functions (reports_from m number functions)
  are_reported [] number there entries all = refl
  are_reported (f ∷ functions) number there entries all =
      let here : slice_get m.code.functions number ≡ Some f = subst (λ (k : ℕ). slice_get m.code.functions k ≡ Some f) (omega arith) (there 0 f refl) in
      let later = λ (k : ℕ) (g : Piece) (is : slice_get functions k ≡ Some g). subst (λ (j : ℕ). slice_get m.code.functions j ≡ Some g) (omega arith) (there (suc k) g is) in (
        function_report m number f,
        reports_from m (suc number) functions,
        refl,
        has_report number f here all.0 (entries number f here),
        are_reported functions (suc number) later entries all.1,
      )

pub module_reported : Laws → (m : ModuleValue) (bytes : List ℕ) → IsModule m bytes → IsReport m (report_of m)
module_reported laws m bytes is =
    let split = is.functions.split in
    let own = own_instructions 0 m.code.functions is.code.instrs split.pieces (code_instructions is.code is.payload is.code_is) in
    are_reported laws m m.code.functions 0 (λ k f there. subst (λ (j : ℕ). slice_get m.code.functions j ≡ Some f) (omega arith) there) (λ k f there. (laws.stand is.code.labels is.code.instrs m.code.functions split k f there).entry) own
