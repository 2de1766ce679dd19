-- What is wrong with a module, function by function in the order of the code.
use Rattle.std.specs.Prelude.{◌≡◌, ◌≢◌, ◌⊎◌, ℕ, zero, suc, ◌+◌, Option, Some, None, List, [], ◌∷◌, ◌++◌, length}
use Rattle.reg_state.specs.declared.state.State.{State}
use Rattle.reg_state.specs.States.{store_of}
use Rattle.label_fixpoint.specs.Typing.{Typing, IsLeast}
use Rattle.func_split.specs.Functions.{Piece}
use Rattle.beam_module.specs.Module.{ModuleValue}
use Rattle.code_faults.specs.declared.fault.Fault.{Fault}
use Rattle.code_faults.specs.Faults.{faults_at, function_faults}
use Rattle.flow_rules.specs.Body.{Body}
use Rattle.flow_rules.specs.Flow.{meaning_of}
use Rattle.flow_rules.specs.FlowBody.{need_at}
use Rattle.flow_rules.specs.Making.{IsFlowOf}

-- of a place that has a state, the first need that fails
abbrev pub faults_in : ℕ → ℕ → Body → ℕ → Option State → List Fault
faults_in number first b place None = []
faults_in number first b place (Some s) = faults_at number (first + place) (need_at b place (store_of s))

-- of the first places, as many as the number says, in order
abbrev pub typed_faults : ℕ → ℕ → Body → Typing State → ℕ → List Fault
typed_faults number first b t zero = []
typed_faults number first b t (suc places) = typed_faults number first b t places ++ faults_in number first b places (t places)

-- nothing is wrong with opcodes and operands: these are the needs that fail where its least typing has states
pub record IsTypedReport (m : ModuleValue) (number : ℕ) (f : Piece) (list : List Fault) : Type 0 where
  pub sound : function_faults m number f ≡ []
  pub body : Body
  pub body_is : IsFlowOf m number body
  pub typing : Typing State
  pub least : IsLeast (meaning_of body) typing
  pub list_is : list ≡ typed_faults number f.first body typing (length body.plans)

-- faults of opcodes and operands are told alone
abbrev pub IsFunctionReport : ModuleValue → ℕ → Piece → List Fault → Type 0
IsFunctionReport m number f list = ((list ≢ []) × (list ≡ function_faults m number f)) ⊎ IsTypedReport m number f list

-- of these functions, the first of which has this number
abbrev pub AreReported : ModuleValue → ℕ → List Piece → List Fault → Type 0
AreReported m number [] list = list ≡ []
AreReported m number (f ∷ functions) list = (front rest : List Fault) × (list ≡ front ++ rest) × IsFunctionReport m number f front × AreReported m (suc number) functions rest

abbrev pub IsReport : ModuleValue → List Fault → Type 0
IsReport m list = AreReported m 0 m.code.functions list
