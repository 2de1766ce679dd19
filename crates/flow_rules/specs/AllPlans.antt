-- What holds of all plans of a function, since it holds of each plan.
use Rattle.std.proofs.Common.{◌≡◌, Bool, true, List, [], ◌∷◌, Ok, refl}
use Rattle.std.specs.List.{list_all}
use Rattle.std.proofs.lemmas.Bool.{and_from}
use Rattle.op_table.specs.declared.plans.Plan.{Plan}
use Rattle.op_table.specs.Instruction.{Instruction}
use Rattle.op_table.specs.Planning.{plan_of}
use Rattle.func_split.specs.Functions.{Piece}
use Rattle.beam_module.specs.Module.{ModuleValue}
use Rattle.code_faults.specs.Ending.{ends}
use Rattle.flow_rules.specs.Body.{plan_is_steady}
use Rattle.flow_rules.specs.Making.{ArePlans}

-- a test that each plan passes, all plans pass
all_pass : (q : Plan → Bool) (m : ModuleValue) (f : Piece) (instrs : List Instruction) (plans : List Plan) → ((i : Instruction) (last : Bool) (p : Plan) → plan_of i last ≡ Ok p → q p ≡ true) → ArePlans m f instrs plans → list_all q plans ≡ true
all_pass q m f [] [] each are = refl
all_pass q m f [] (p ∷ ps) each are = elim are [ ]
all_pass q m f (i ∷ is) [] each are = elim are [ ]
all_pass q m f (i ∷ is) (p ∷ ps) each are = and_from _ _ (each i (ends m i) p are.0.plan) (all_pass q m f is ps each are.1)

pub plans_steady : (m : ModuleValue) (f : Piece) (instrs : List Instruction) (plans : List Plan) → ((i : Instruction) (last : Bool) (p : Plan) → plan_of i last ≡ Ok p → plan_is_steady p ≡ true) → ArePlans m f instrs plans → list_all plan_is_steady plans ≡ true
plans_steady m f instrs plans each are = all_pass plan_is_steady m f instrs plans each are
