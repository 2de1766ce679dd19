-- How a report is put together, function by function, and where its faults are.
use Rattle.std.proofs.Common.{◌≡◌, ◌∙◌, ℕ, zero, suc, ◌+◌, ◌-◌, ◌<◌, ◌≤◌, Option, Some, None, Result, Ok, Err, OnOk, List, [], ◌∷◌, ◌++◌, length, take, slice_get, get_or, refl, sym, ap, subst, append_assoc, inl, inr, arith}
use Rattle.std.specs.List.{All}
use Rattle.std.proofs.lemmas.Bool.{cases_lt}
use Rattle.std.proofs.lemmas.List.{append-nil, length-take-le, take_more}
use Rattle.std.proofs.lemmas.List.Elements.{All-nil, All-cons, All-append}
use Rattle.std.proofs.lemmas.Option.{same_Some, slice_get-get_or, slice_get_cases}
use Rattle.std.proofs.lemmas.Slice.Zip.{AllZip-long}
use Rattle.op_table.specs.Instruction.{Instruction}
use Rattle.op_table.specs.Table.{row_name, row_with}
use Rattle.reg_state.specs.declared.state.State.{State}
use Rattle.reg_state.specs.States.{store_of}
use Rattle.label_fixpoint.specs.Cut.{at_state, read}
use Rattle.label_fixpoint.specs.Typing.{Typing, IsLeast}
use Rattle.func_split.specs.Functions.{Piece}
use Rattle.beam_module.specs.Module.{ModuleValue}
use Rattle.action_rules.specs.declared.reason.Reason.{Reason}
use Rattle.code_faults.specs.declared.fault.Fault.{Fault}
use Rattle.code_faults.specs.Faults.{fault_at, faults_at, faults_from, function_faults}
use Rattle.code_faults.specs.Operands.{instruction_fault}
use Rattle.flow_rules.specs.Body.{Body}
use Rattle.flow_rules.specs.Flow.{meaning_of}
use Rattle.flow_rules.specs.FlowBody.{need_at}
use Rattle.flow_rules.specs.Making.{IsFlowOf, faults_of, faults_of_piece}
use Rattle.flow_rules.specs.Reporting.{AreReported, IsFunctionReport, IsReport, IsTypedReport, faults_in, typed_faults}
use Rattle.flow_rules.specs.Reports.{function_report, reports_from}
use Rattle.validator.specs.Reported.{AddsReport, IsIn, IsReportOf}
use Rattle.validator.specs.Counted.{if_sound, least_of, summed}
use Rattle.validator.specs.Text.{fault_line, line_in, line_with, opcode_text}

-- ---- one function more

-- of these functions, the first of which has this number
pub record Covers (m : ModuleValue) (number : ℕ) (functions : List Piece) (report : List Fault) : Type 0 where
  pub reported : AreReported m number functions report
  pub told : report ≡ reports_from m number functions

covers_more : (m : ModuleValue) (functions : List Piece) (number : ℕ) (report : List Fault) (f : Piece) (list : List Fault) → IsReportOf m (number + length functions) f list → AreReported m number functions report → AreReported m number (functions ++ f ∷ []) (report ++ list)
covers_more m [] number report f list has are =
    let here : IsFunctionReport m number f list = subst (λ (n : ℕ). IsFunctionReport m n f list) (omega arith) has.is in
    (list, [], ap (λ (xs : List Fault). xs ++ list) are ∙ sym (append-nil list), here, refl)
covers_more m (g ∷ functions) number report f list has are =
    let later = subst (λ (n : ℕ). IsReportOf m n f list) (omega arith) has in (
      are.0,
      are.1 ++ list,
      ap (λ (xs : List Fault). xs ++ list) are.2 ∙ append_assoc are.0 are.1 list,
      are.3,
      covers_more m functions (suc number) are.1 f list later are.4,
    )

told_more : (m : ModuleValue) (functions : List Piece) (number : ℕ) (f : Piece) → reports_from m number (functions ++ f ∷ []) ≡ reports_from m number functions ++ function_report m (number + length functions) f
told_more m [] number f = append-nil (function_report m number f) ∙ ap (λ (n : ℕ). function_report m n f) (omega arith)
told_more m (g ∷ functions) number f =
    let rest = told_more m functions (suc number) f in
    let at : function_report m (suc number + length functions) f ≡ function_report m (number + suc (length functions)) f = ap (λ (n : ℕ). function_report m n f) (omega arith) in
    ap (λ (xs : List Fault). function_report m number g ++ xs) (rest ∙ ap (λ (last : List Fault). reports_from m (suc number) functions ++ last) at)
    ∙ sym (append_assoc (function_report m number g) (reports_from m (suc number) functions) (function_report m (number + suc (length functions)) f))

pub covers_next : (m : ModuleValue) (functions : List Piece) (report : List Fault) (f : Piece) (list after : List Fault) → after ≡ report ++ list → IsReportOf m (length functions) f list → Covers m 0 functions report → Covers m 0 (functions ++ f ∷ []) after
covers_next m functions report f list after is has covers =
    let at : length functions ≡ 0 + length functions = omega arith in
    let own = subst (λ (n : ℕ). IsReportOf m n f list) at has in
    record {
      reported = subst (AreReported m 0 (functions ++ f ∷ [])) (sym is) (covers_more m functions 0 report f list own covers.reported);
      told = is ∙ (ap (λ (xs : List Fault). xs ++ list) covers.told ∙ (ap (λ (last : List Fault). reports_from m 0 functions ++ last) own.found ∙ sym (told_more m functions 0 f)));
    }

-- function i is judged
pub covers_step : (m : ModuleValue) (i : ℕ) (report after : List Fault) → i < length m.code.functions → ((f : Piece) → slice_get m.code.functions i ≡ Some f → AddsReport m i f report after)
    → Covers m 0 (take i m.code.functions) report → Covers m 0 (take (i + 1) m.code.functions) after
covers_step m i report after inside added covers =
    elim (slice_get_cases m.code.functions i).1 [
      | inl found ↦
          let f = found.0 in
          let new = added f found.2 in
          let size : length (take i m.code.functions) ≡ i = length-take-le i m.code.functions (omega (arith, inside)) in
          let has = subst (λ (n : ℕ). IsReportOf m n f new.0) (sym size) new.2 in
          let next : take (i + 1) m.code.functions ≡ take i m.code.functions ++ f ∷ [] =
          take_more m.code.functions i f inside ∙ ap (λ (g : Piece). take i m.code.functions ++ g ∷ []) found.3 in
          subst (λ (functions : List Piece). Covers m 0 functions after) (sym next) (covers_next m (take i m.code.functions) report f new.0 after new.1 has covers)
      | inr past ↦ let far = past.0 in absurd (omega (arith, far, inside))
    ]

-- ---- where faults are

faults_are_in : (m : ModuleValue) (number place : ℕ) (f : Piece) → slice_get m.code.functions number ≡ Some f → f.first ≤ place → place < f.first + length f.instrs → (found : Option Reason) → All (IsIn m) (faults_at number place found)
faults_are_in m number place f there from below None = All-nil (IsIn m)
faults_are_in m number place f there from below (Some why) =
    All-cons (IsIn m) (fault_at number place why) [] (record { function = f; is_there = there; from = from; below = below }) (All-nil (IsIn m))

listed_are_in : (m : ModuleValue) (number : ℕ) (f : Piece) → slice_get m.code.functions number ≡ Some f → (place : ℕ) (instrs : List Instruction) → f.first ≤ place → place + length instrs ≤ f.first + length f.instrs → All (IsIn m) (faults_from m f number place instrs)
listed_are_in m number f there place [] from below = All-nil (IsIn m)
listed_are_in m number f there place (i ∷ instrs) from below =
    All-append (IsIn m) _ _ (faults_are_in m number place f there from (omega (arith, below)) (instruction_fault m f i))
    (listed_are_in m number f there (place + 1) instrs (omega (arith, from)) (omega (arith, below)))

typed_are_in : (m : ModuleValue) (number : ℕ) (f : Piece) → slice_get m.code.functions number ≡ Some f → (b : Body) (t : Typing State) (places : ℕ) → places ≤ length f.instrs → All (IsIn m) (typed_faults number f.first b t places)
typed_are_in m number f there b t zero most = All-nil (IsIn m)
typed_are_in m number f there b t (suc places) most =
    All-append (IsIn m) _ _ (typed_are_in m number f there b t places (omega (arith, most))) (at_place (t places)) where
      at_place : (o : Option State) → All (IsIn m) (faults_in number f.first b places o)
      at_place None = All-nil (IsIn m)
      at_place (Some s) = faults_are_in m number (f.first + places) f there (omega arith) (omega (arith, most)) (need_at b places (store_of s))

report_is_in : (m : ModuleValue) (number : ℕ) (f : Piece) (list : List Fault) → slice_get m.code.functions number ≡ Some f → IsFunctionReport m number f list → All (IsIn m) list
report_is_in m number f list there is =
    elim is [
      | inl wrong ↦ subst (All (IsIn m)) (sym wrong.1) (listed_are_in m number f there f.first f.instrs (omega arith) (omega arith))
      | inr typed ↦
          let flow = typed.body_is in
          let same_function : flow.function ≡ f = same_Some flow.function f (sym flow.is_there ∙ there) in
          let size : length flow.plans ≡ length flow.function.instrs = AllZip-long _ flow.function.instrs flow.plans flow.plans_are in
          let same_plans : length typed.body.plans ≡ length flow.plans = ap (λ (b : Body). length b.plans) flow.is in
          let same_size : length flow.function.instrs ≡ length f.instrs = ap (λ (g : Piece). length g.instrs) same_function in
          subst (All (IsIn m)) (sym typed.list_is) (typed_are_in m number f there typed.body typed.typing (length typed.body.plans) (omega (arith, size, same_plans, same_size)))
    ]

reports_are_in : (m : ModuleValue) (functions : List Piece) (number : ℕ) (list : List Fault) → ((k : ℕ) (f : Piece) → slice_get functions k ≡ Some f → slice_get m.code.functions (number + k) ≡ Some f) → AreReported m number functions list → All (IsIn m) list
reports_are_in m [] number list there are = subst (All (IsIn m)) (sym are) (All-nil (IsIn m))
reports_are_in m (f ∷ functions) number list there are =
    let here : slice_get m.code.functions number ≡ Some f = subst (λ (k : ℕ). slice_get m.code.functions k ≡ Some f) (omega arith) (there 0 f refl) in
    let later = λ (k : ℕ) (g : Piece) (is : slice_get functions k ≡ Some g). subst (λ (j : ℕ). slice_get m.code.functions j ≡ Some g) (omega arith) (there (suc k) g is) in
    subst (All (IsIn m)) (sym are.2) (All-append (IsIn m) _ _ (report_is_in m number f are.0 here are.3) (reports_are_in m functions (suc number) are.1 later are.4))

pub report_in : (m : ModuleValue) (list : List Fault) → IsReport m list → All (IsIn m) list
report_in m list is = reports_are_in m m.code.functions 0 list (λ k f there. subst (λ (j : ℕ). slice_get m.code.functions j ≡ Some f) (omega arith) there) is

-- ---- blocks

pub read_next : {A S : Type 0} (t : Typing S) (f : ℕ → S → List A) (n : ℕ) (old before after : List A) → before ≡ old ++ read t f n → after ≡ before ++ at_state (f n) (t n) → after ≡ old ++ read t f (n + 1)
read_next {A} {S} t f n old before after so_far gained =
    let next : suc n ≡ n + 1 = omega arith in
    gained ∙ (ap (λ (xs : List A). xs ++ at_state (f n) (t n)) so_far
    ∙ (append_assoc old (read t f n) (at_state (f n) (t n))
    ∙ ap (λ (k : ℕ). old ++ read t f k) next))

-- ---- a function without faults of opcodes and operands

pub typed_added : (m : ModuleValue) (i number : ℕ) (g : Piece) (b : Body) (t : Typing State) (old new : List Fault) → number ≡ i → slice_get m.code.functions i ≡ Some g → faults_of m i ≡ [] → IsFlowOf m i b → IsLeast (meaning_of b) t
    → (function_faults m i g ≡ [] → typed_faults i g.first b t (length b.plans) ≡ function_report m i g) → new ≡ old ++ typed_faults number g.first b t (length b.plans)
    → (f : Piece) → slice_get m.code.functions i ≡ Some f → AddsReport m i f old new
typed_added m i number g b t old new numbered there none flow least told gained f is =
    let sound : function_faults m i g ≡ [] = ap (faults_of_piece m i) (sym there) ∙ none in
    let typed : IsTypedReport m i g (typed_faults i g.first b t (length b.plans)) = record { sound = sound; body = b; body_is = flow; typing = t; least = least; list_is = refl } in
    subst (λ (h : Piece). AddsReport m i h old new) (same_Some g f (sym there ∙ is)) (
      typed_faults i g.first b t (length b.plans),
      gained ∙ ap (λ (n : ℕ). old ++ typed_faults n g.first b t (length b.plans)) numbered,
      record { is = inr typed; found = told sound },
    )

pub on_ok : {A E P Q : Type 0} (r : Result A E) → (P → Q) → OnOk r P → OnOk r Q
on_ok (Ok x) f h = f h
on_ok (Err e) f h = h

-- ---- lines

pub line_found : (m : ModuleValue) (x : Fault) (f : Piece) (instrs : List Instruction) (first : ℕ) (instr : Instruction) → IsIn m x → slice_get m.code.functions x.function ≡ Some f → instrs ≡ f.instrs → first ≡ f.first
    → instr ≡ get_or instrs (x.place - first) instr → line_with m.atoms f (row_name (row_with instr.op)) x ≡ fault_line m x
line_found m x f instrs first instr inside there own begins is =
    let same_function : inside.function ≡ f = same_Some inside.function f (sym inside.is_there ∙ there) in
    let from : f.first ≤ x.place = subst (λ (g : Piece). g.first ≤ x.place) same_function inside.from in
    let to : x.place < f.first + length f.instrs = subst (λ (g : Piece). x.place < g.first + length g.instrs) same_function inside.below in
    let below : x.place - f.first < length f.instrs = omega (arith, from, to) in
    let found : instr ≡ get_or f.instrs (x.place - f.first) instr = is ∙ (ap (λ (list : List Instruction). get_or list (x.place - first) instr) own ∙ ap (λ (n : ℕ). get_or f.instrs (x.place - n) instr) begins) in
    let at : slice_get f.instrs (x.place - f.first) ≡ Some instr = slice_get-get_or f.instrs (x.place - f.first) instr below ∙ ap Some (sym found) in
    sym (ap (line_in m x) there ∙ ap (λ (o : Option Instruction). line_with m.atoms f (opcode_text o) x) at)

-- ---- steps

pub summed_next : (f : ℕ → ℕ) (n : ℕ) → summed f (n + 1) ≡ summed f n + f n
summed_next f n = let next : n + 1 ≡ suc n = omega arith in ap (summed f) next

pub summed_most : (f : ℕ → ℕ) (k n : ℕ) → k ≤ n → summed f k ≤ summed f n
summed_most f k zero low = let same : k ≡ 0 = omega (arith, low) in let sums : summed f k ≡ summed f 0 = ap (summed f) same in omega (arith, sums)
summed_most f k (suc n) low =
    elim (cases_lt n k) [
      | inl over ↦ let same : k ≡ suc n = omega (arith, low, over) in let sums : summed f k ≡ summed f (suc n) = ap (summed f) same in omega (arith, sums)
      | inr under ↦ let before = summed_most f k n under in omega (arith, before)
    ]

pub least_is : (m : ModuleValue) (number : ℕ) (f : Piece) → slice_get m.code.functions number ≡ Some f → function_faults m number f ≡ [] → least_of m number (slice_get m.code.functions number) ≡ 1
least_is m number f there sound = ap (least_of m number) there ∙ ap (λ (faults : List Fault). if_sound faults 1) sound
