-- A module has one report at most, and what is found by plans and rounds is the one of a function.
use Rattle.std.proofs.Common.{◌≡◌, ◌∙◌, ℕ, zero, suc, ◌+◌, ◌<◌, Option, Some, None, option_map, List, [], ◌∷◌, ◌++◌, length, slice_get, refl, sym, ap, subst, inl, inr, arith}
use Rattle.std.proofs.lemmas.Option.{none-some, same_Some}
use Rattle.op_table.specs.declared.plans.Plan.{Plan}
use Rattle.op_table.specs.Instruction.{Instruction}
use Rattle.op_table.specs.Planning.{plan_of}
use Rattle.reg_state.specs.declared.state.State.{State}
use Rattle.reg_state.specs.States.{Known, IsBelow, store_of}
use Rattle.reg_state.specs.Ordered.{same}
use Rattle.reg_state.specs.Join.{IsLeastAbove, joined}
use Rattle.label_fixpoint.specs.Meaning.{IsLawful}
use Rattle.label_fixpoint.specs.Typing.{Typing, IsLeast}
use Rattle.label_fixpoint.specs.RoundLaws.{HasJoins, rounds_find_least}
use Rattle.func_split.specs.Functions.{Piece}
use Rattle.beam_module.specs.Module.{ModuleValue}
use Rattle.action_rules.specs.Fitting.{Fits}
use Rattle.code_faults.specs.declared.fault.Fault.{Fault}
use Rattle.code_faults.specs.Ending.{ends}
use Rattle.code_faults.specs.Faults.{faults_at, function_faults}
use Rattle.flow_rules.specs.Body.{Body}
use Rattle.flow_rules.specs.Flow.{FitsBody, IsBelowState, state_rank, meaning_of}
use Rattle.flow_rules.specs.FlowBody.{need_at}
use Rattle.flow_rules.specs.Making.{ArePlans, IsFlowOf, body_with}
use Rattle.flow_rules.specs.RankLaws.{no_rise_back}
use Rattle.flow_rules.specs.Reporting.{AreReported, IsFunctionReport, IsReport, IsTypedReport, faults_in, typed_faults}
use Rattle.flow_rules.specs.Reports.{body_in, function_report, joined_state, made_plan, plans_in, report_after, typed_report, typing_in}
use Rattle.flow_rules.specs.Views.{state_viewed}
use Rattle.flow_rules.proofs.Joined.{joined_fits}

-- ---- bodies

plans_found : (m : ModuleValue) (f : Piece) (instrs : List Instruction) (plans : List Plan) → ArePlans m f instrs plans → plans ≡ plans_in m instrs
plans_found m f [] [] are = refl
plans_found m f [] (p ∷ plans) are = elim are [ ]
plans_found m f (i ∷ instrs) [] are = elim are [ ]
plans_found m f (i ∷ instrs) (p ∷ plans) are =
    let rest = plans_found m f instrs plans are.1 in
    let first : made_plan (plan_of i (ends m i)) ≡ p ∷ [] = ap made_plan are.0.plan in
    ap (λ (more : List Plan). p ∷ more) rest ∙ ap (λ (front : List Plan). front ++ plans_in m instrs) (sym first)

pub body_found : (m : ModuleValue) (number : ℕ) (f : Piece) (b : Body) → slice_get m.code.functions number ≡ Some f → IsFlowOf m number b → b ≡ body_in m f
body_found m number f b is flow =
    let same_function : flow.function ≡ f = same_Some flow.function f (sym flow.is_there ∙ is) in
    let plans = plans_found m flow.function flow.function.instrs flow.plans flow.plans_are in
    flow.is ∙ (ap (body_with flow.function) plans ∙ ap (body_in m) same_function)

-- ---- typings

known_at : Typing State → ℕ → Option Known
known_at t p = option_map store_of (t p)

typings_agree : (b : Body) (t u : Typing State) → IsLeast (meaning_of b) t → IsLeast (meaning_of b) u → (p : ℕ) → p < length b.plans → known_at t p ≡ known_at u p
unfolding IsBelowState known_at
typings_agree b t u first second p inside = go (t p) refl (u p) refl where
  go : (o : Option State) → t p ≡ o → (r : Option State) → u p ≡ r → option_map store_of o ≡ option_map store_of r
  go None is None other = refl
  go (Some s) is None other = let has = first.least u second.consistent p s inside is in absurd (none-some has.0 (sym other ∙ has.1))
  go None is (Some r) other = let has = second.least t first.consistent p r inside other in absurd (none-some has.0 (sym is ∙ has.1))
  go (Some s) is (Some r) other =
      let up = first.least u second.consistent p s inside is in
      let down = second.least t first.consistent p r inside other in
      let below = subst (λ (x : State). IsBelow (store_of s) (store_of x)) (same_Some up.0 r (sym up.1 ∙ other)) up.2 in
      let above = subst (λ (x : State). IsBelow (store_of r) (store_of x)) (same_Some down.0 s (sym down.1 ∙ is)) down.2 in
      ap Some (same (store_of s) (store_of r) below above)

-- ---- faults of typings

known_faults : ℕ → ℕ → Body → ℕ → Option Known → List Fault
known_faults number first b place None = []
known_faults number first b place (Some s) = faults_at number (first + place) (need_at b place s)

faults_known : (number first : ℕ) (b : Body) (place : ℕ) (o : Option State) → faults_in number first b place o ≡ known_faults number first b place (option_map store_of o)
unfolding known_faults
faults_known number first b place None = refl
faults_known number first b place (Some s) = refl

faults_agree : (number first : ℕ) (b : Body) (t u : Typing State) (places : ℕ) → ((p : ℕ) → p < places → known_at t p ≡ known_at u p) → typed_faults number first b t places ≡ typed_faults number first b u places
unfolding known_at
faults_agree number first b t u zero agree = refl
faults_agree number first b t u (suc places) agree =
    let rest = faults_agree number first b t u places (λ p below. agree p (omega (arith, below))) in
    let here = faults_known number first b places (t places) ∙ (ap (known_faults number first b places) (agree places (omega arith)) ∙ sym (faults_known number first b places (u places))) in
    ap (λ (xs : List Fault). xs ++ faults_in number first b places (t places)) rest ∙ ap (λ (ys : List Fault). typed_faults number first b u places ++ ys) here

typed_agree : (number first : ℕ) (b : Body) (t u : Typing State) → IsLeast (meaning_of b) t → IsLeast (meaning_of b) u → typed_faults number first b t (length b.plans) ≡ typed_faults number first b u (length b.plans)
typed_agree number first b t u one other = faults_agree number first b t u (length b.plans) (typings_agree b t u one other)

-- ---- one report

-- the report by any least typing of the body that is found
typed_by : (m : ModuleValue) (number : ℕ) (f : Piece) (list : List Fault) → slice_get m.code.functions number ≡ Some f → IsTypedReport m number f list → (u : Typing State) → IsLeast (meaning_of (body_in m f)) u
    → list ≡ typed_faults number f.first (body_in m f) u (length (body_in m f).plans)
typed_by m number f list there has u least =
    let is = body_found m number f has.body there has.body_is in
    let own = subst (λ (b : Body). IsLeast (meaning_of b) has.typing) is has.least in
    has.list_is ∙ (ap (λ (b : Body). typed_faults number f.first b has.typing (length b.plans)) is ∙ typed_agree number f.first (body_in m f) has.typing u own least)

function_reports_agree : (m : ModuleValue) (number : ℕ) (f : Piece) (a c : List Fault) → slice_get m.code.functions number ≡ Some f → IsFunctionReport m number f a → IsFunctionReport m number f c → a ≡ c
function_reports_agree m number f a c there first second =
    elim first [
      | inl wrong ↦ elim second [ inl other ↦ wrong.1 ∙ sym other.1 | inr typed ↦ absurd (wrong.0 (wrong.1 ∙ typed.sound)) ]
      | inr typed ↦
          elim second [
            | inl wrong ↦ absurd (wrong.0 (wrong.1 ∙ typed.sound))
            | inr other ↦
                let least = subst (λ (b : Body). IsLeast (meaning_of b) other.typing) (body_found m number f other.body there other.body_is) other.least in
                typed_by m number f a there typed other.typing least ∙ sym (typed_by m number f c there other other.typing least)
          ]
    ]

agree_from : (m : ModuleValue) (functions : List Piece) (number : ℕ) (a c : List Fault) → ((k : ℕ) (f : Piece) → slice_get functions k ≡ Some f → slice_get m.code.functions (number + k) ≡ Some f)
    → AreReported m number functions a → AreReported m number functions c → a ≡ c
agree_from m [] number a c there first second = first ∙ sym second
agree_from m (f ∷ functions) number a c there first second =
    let here : slice_get m.code.functions number ≡ Some f = subst (λ (k : ℕ). slice_get m.code.functions k ≡ Some f) (omega arith) (there 0 f refl) in
    let fronts = function_reports_agree m number f first.0 second.0 here first.3 second.3 in
    let later = λ (k : ℕ) (g : Piece) (is : slice_get functions k ≡ Some g). subst (λ (j : ℕ). slice_get m.code.functions j ≡ Some g) (omega arith) (there (suc k) g is) in
    let rests = agree_from m functions (suc number) first.1 second.1 later first.4 second.4 in
    first.2 ∙ (ap (λ (front : List Fault). front ++ first.1) fronts ∙ (ap (λ (rest : List Fault). second.0 ++ rest) rests ∙ sym second.2))

pub reports_agree : (m : ModuleValue) (a c : List Fault) → IsReport m a → IsReport m c → a ≡ c
reports_agree m a c first second = agree_from m m.code.functions 0 a c (λ k f is. subst (λ (j : ℕ). slice_get m.code.functions j ≡ Some f) (omega arith) is) first second

-- ---- typings by rounds

module _ (joins : (s t : Known) → IsLeastAbove s t (joined s t)) (b : Body) where
  viewed : (s t : State) → Fits b.bounds (store_of s) → Fits b.bounds (store_of t) → store_of (joined_state b s t) ≡ joined (store_of s) (store_of t)
  viewed s t first second = state_viewed b.bounds (joined (store_of s) (store_of t)) (joined_fits b.bounds (store_of s) (store_of t) first second)

  states_join : HasJoins (meaning_of b) (joined_state b)
  unfolding FitsBody IsBelowState state_rank
  states_join = record {
    fits = λ s t first second. subst (Fits b.bounds) (sym (viewed s t first second)) (joined_fits b.bounds (store_of s) (store_of t) first second);
    first = λ s t first second. subst (IsBelow (store_of s)) (sym (viewed s t first second)) (joins (store_of s) (store_of t)).first;
    second = λ s t first second. subst (IsBelow (store_of t)) (sym (viewed s t first second)) (joins (store_of s) (store_of t)).second;
    least = λ s t u first second third below above.
        subst (λ (k : Known). IsBelow k (store_of u)) (sym (viewed s t first second)) ((joins (store_of s) (store_of t)).below (store_of u) below above);
    falls_back = λ s t first second below low. no_rise_back b.bounds (store_of s) (store_of t) first second below low;
  }

  pub typing_found : IsLawful (meaning_of b) → IsLeast (meaning_of b) (typing_in b)
  typing_found lawful = rounds_find_least State (meaning_of b) (joined_state b) lawful states_join

pub function_told : ((s t : Known) → IsLeastAbove s t (joined s t)) → (m : ModuleValue) (number : ℕ) (f : Piece) (b : Body) (t : Typing State) → slice_get m.code.functions number ≡ Some f → function_faults m number f ≡ []
    → IsFlowOf m number b → IsLawful (meaning_of b) → IsLeast (meaning_of b) t → typed_faults number f.first b t (length b.plans) ≡ function_report m number f
function_told joins m number f b t there sound flow lawful least =
    let found = ap (typed_report number f) (body_found m number f b there flow) in
    typed_agree number f.first b t (typing_in b) least (typing_found joins b lawful) ∙ (found ∙ sym (ap (report_after m number f) sound))
