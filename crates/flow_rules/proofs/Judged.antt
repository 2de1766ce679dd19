-- The faults and the plans of the first instructions of a function, as a loop finds them.
use Rattle.std.proofs.Common.{◌≡◌, ◌∙◌, ℕ, ◌+◌, ◌<◌, List, [], ◌∷◌, ◌++◌, take, drop, length, get_or, slice_get, Option, Some, sym, ap, subst, arith}
use Rattle.std.specs.List.{AllZip}
use Rattle.std.proofs.lemmas.List.{append_assoc, drop_more}
use Rattle.std.proofs.lemmas.Grind.{take_at_read}
use Rattle.op_table.specs.declared.plans.Plan.{Plan}
use Rattle.op_table.specs.Instruction.{Instruction}
use Rattle.func_split.specs.Functions.{Piece}
use Rattle.beam_module.specs.Module.{ModuleValue}
use Rattle.action_rules.specs.declared.reason.Reason.{Reason}
use Rattle.code_faults.specs.declared.fault.Fault.{Fault}
use Rattle.code_faults.specs.Faults.{faults_at, faults_from, function_faults}
use Rattle.code_faults.specs.Operands.{instruction_fault}
use Rattle.code_faults.specs.Registers.{x_bound}
use Rattle.flow_rules.specs.Body.{body_from}
use Rattle.flow_rules.specs.Making.{HasPlan, IsFlowOf, faults_of, faults_of_piece, handlers_of, y_bound}

-- ---- lists

zip_push : {A B : Type 0} (R : A → B → Type 0) (xs : List A) (ys : List B) (x : A) (y : B) → AllZip R xs ys → R x y → AllZip R (xs ++ x ∷ []) (ys ++ y ∷ [])
zip_push R [] [] x y all one = (one, tt)
zip_push R [] (z ∷ ys) x y all one = absurd all
zip_push R (z ∷ xs) [] x y all one = absurd all
zip_push R (z ∷ xs) (w ∷ ys) x y all one = (all.0, zip_push R xs ys x y all.1 one)

-- ---- instructions

module _ (m : ModuleValue) (f : Piece) (number : ℕ) where
  -- the faults of the first instructions, before those of the others, are all faults
  abbrev pub HasFaults : ℕ → List Fault → Type 0
  HasFaults place faults = faults ++ faults_from m f number (f.first + place) (drop place f.instrs) ≡ function_faults m number f

  -- where these are no faults, the first instructions have these plans
  abbrev pub HavePlans : ℕ → List Fault → List Plan → Type 0
  HavePlans place faults plans = faults ≡ [] → AllZip (HasPlan m f) (take place f.instrs) plans

  pub none_yet : HasFaults 0 []
  none_yet = ap (λ (n : ℕ). faults_from m f number n f.instrs) (omega arith)

  pub next_faults : (place : ℕ) (faults : List Fault) (i : Instruction) (fault : Option Reason) → place < length f.instrs → i ≡ get_or f.instrs place i → instruction_fault m f i ≡ fault → HasFaults place faults → HasFaults (place + 1) (faults ++ faults_at number (f.first + place) fault)
  next_faults place faults i fault below at told has =
      let rest = drop (place + 1) f.instrs in
      let here = faults_at number (f.first + place) fault in
      let later : ℕ → List Fault = λ n. faults_from m f number n rest in
      let behind : f.first + place + 1 ≡ f.first + (place + 1) = omega arith in
      let split : faults_from m f number (f.first + place) (drop place f.instrs) ≡ here ++ later (f.first + (place + 1)) =
      ap (faults_from m f number (f.first + place)) (drop_more f.instrs place i below ∙ ap (λ (j : Instruction). j ∷ rest) (sym at))
      ∙ (ap (λ (o : Option Reason). faults_at number (f.first + place) o ++ later (f.first + place + 1)) told ∙ ap (λ (n : ℕ). here ++ later n) behind) in
      append_assoc faults here (later (f.first + (place + 1))) ∙ (ap (λ (others : List Fault). faults ++ others) (sym split) ∙ has)

  pub next_plan : (place : ℕ) (faults : List Fault) (plans : List Plan) (i : Instruction) (p : Plan) → place < length f.instrs → i ≡ get_or f.instrs place i → HasPlan m f i p → HavePlans place faults plans → HavePlans (place + 1) faults (plans ++ p ∷ [])
  next_plan place faults plans i p below at one have none =
      let taken = (take_at_read f.instrs place i below).1 ∙ ap (λ (j : Instruction). take place f.instrs ++ j ∷ []) (sym at) in
      subst (λ (is : List Instruction). AllZip (HasPlan m f) is (plans ++ p ∷ [])) (sym taken) (zip_push (HasPlan m f) (take place f.instrs) plans i p (have none) one)

  pub no_plan : (place : ℕ) (faults : List Fault) (fault : Fault) (plans : List Plan) → HavePlans place (faults ++ fault ∷ []) plans
  no_plan place [] fault plans none = absurd cc
  no_plan place (other ∷ faults) fault plans none = absurd cc

pub faults_are : (m : ModuleValue) (number : ℕ) (f : Piece) → slice_get m.code.functions number ≡ Some f → faults_of m number ≡ function_faults m number f
faults_are m number f there = ap (faults_of_piece m number) there

pub flow_is : (m : ModuleValue) (number : ℕ) (f : Piece) (plans : List Plan) (handlers : List ℕ) → slice_get m.code.functions number ≡ Some f → AllZip (HasPlan m f) f.instrs plans → handlers ≡ handlers_of plans → IsFlowOf m number (body_from f plans handlers (x_bound f) (y_bound plans))
flow_is m number f plans handlers there have is = record {
  function = f;
  is_there = there;
  plans = plans;
  plans_are = have;
  is = ap (λ (hs : List ℕ). body_from f plans hs (x_bound f) (y_bound plans)) is;
}
