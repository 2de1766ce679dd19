-- Where nothing is wrong with the instructions of a function, its body leads to places of its own alone.
use Rattle.std.proofs.Common.{◌≡◌, ◌∙◌, ℕ, ◌<◌, ◌≤◌, ◌==◌, nat_le, Bool, true, false, ◌&&◌, List, [], ◌∷◌, ◌++◌, length, None, Ok, refl, sym, ap, arith}
use Rattle.std.specs.List.{AllZip, flat_map, list_all, list_any}
use Rattle.std.proofs.Math.Nat.{le-max_left, le-max_right, le_refl}
use Rattle.std.proofs.lemmas.Bool.{and_from, and_parts, or_left, or_right, lt-ltb, le-leb, eq-eqb}
use Rattle.std.proofs.lemmas.List.{length-map}
use Rattle.std.proofs.lemmas.List.Folds.{list_all-append}
use Rattle.std.proofs.lemmas.Slice.Zip.{AllZip-long}
use Rattle.compact_term.specs.declared.operand.Reg.{Reg}
use Rattle.compact_term.specs.declared.operand.Reg.TheVariants as regs
use Rattle.op_table.specs.declared.action.Action.{Action}
use Rattle.op_table.specs.declared.action.Action.TheVariants as acts
use Rattle.op_table.specs.declared.plans.Plan.{Plan}
use Rattle.op_table.specs.Instruction.{Instruction, IsInstruction}
use Rattle.op_table.specs.Planning.{plan_of}
use Rattle.op_table.specs.Table.{roles_of}
use Rattle.op_table.specs.Rules.{own_labels, exit_labels, tag_labels_of, tag_labels, plan_labels, named, written_of, written}
use Rattle.func_split.specs.declared.mark.Mark.{Mark}
use Rattle.func_split.specs.Marks.{mark_of, marks_of}
use Rattle.func_split.specs.Faults.{is_label, has_label}
use Rattle.func_split.specs.Functions.{Piece}
use Rattle.beam_module.specs.Module.{ModuleValue}
use Rattle.action_rules.specs.Fitting.{Bounds, is_handler, reg_fits, action_fits}
use Rattle.code_faults.specs.Ending.{ends}
use Rattle.code_faults.specs.Naming.{is_own}
use Rattle.code_faults.specs.Operands.{instruction_fault}
use Rattle.code_faults.specs.Registers.{is_within, named_in, x_bound}
use Rattle.flow_rules.specs.Body.{Body, place_in, body_from, label_fits, plan_fits, body_fits}
use Rattle.flow_rules.specs.Making.{HasPlan, handlers_of, widened, widened_by, y_bound}

-- ---- tests of all items

all_append : {X : Type 0} (p : X → Bool) (xs ys : List X) → list_all p xs ≡ true → list_all p ys ≡ true → list_all p (xs ++ ys) ≡ true
all_append p xs ys first second = list_all-append p xs ys ∙ and_from _ _ first second

append_parts : {X : Type 0} (p : X → Bool) (xs ys : List X) → list_all p (xs ++ ys) ≡ true → (list_all p xs ≡ true) × (list_all p ys ≡ true)
append_parts p xs ys all = and_parts _ _ (sym (list_all-append p xs ys) ∙ all)

all_follow : {X : Type 0} (p q : X → Bool) (xs : List X) → ((x : X) → p x ≡ true → q x ≡ true) → list_all p xs ≡ true → list_all q xs ≡ true
all_follow p q [] follows all = refl
all_follow p q (x ∷ xs) follows all =
    let parts = and_parts _ _ all in
    and_from _ _ (follows x parts.0) (all_follow p q xs follows parts.1)

all_members : (xs : List ℕ) → list_all (λ x. list_any (λ y. y == x) xs) xs ≡ true
all_members [] = refl
all_members (x ∷ xs) = and_from _ _ (or_left _ _ (eq-eqb x x refl)) (all_follow _ _ xs (λ z is. or_right (x == z) _ is) (all_members xs))

-- ---- bounds

up_to : ℕ → Action → Bool
up_to y (acts.NewFrame n) = nat_le n y
up_to y _ = true

widened_more : (y : ℕ) (a : Action) → y ≤ widened y a
widened_more y (acts.NewFrame n) = le-max_left y n
widened_more y _ = omega arith

widened_up_to : (y bound : ℕ) (a : Action) → widened y a ≤ bound → up_to bound a ≡ true
unfolding up_to
widened_up_to y bound (acts.NewFrame n) below = let second = le-max_right y n in le-leb n bound (omega (arith, second, below))
widened_up_to y bound _ below = refl

all_up_to : (y bound : ℕ) (list : List Action) → widened_by y list ≤ bound → (y ≤ bound) × (list_all (up_to bound) list ≡ true)
all_up_to y bound [] below = (below, refl)
all_up_to y bound (a ∷ rest) below =
    let later = all_up_to (widened y a) bound rest below in
    let at_most = later.0 in
    let more = widened_more y a in
    (omega (arith, at_most, more), and_from _ _ (widened_up_to y bound a at_most) later.1)

-- ---- labels

-- the first mark is the label, or a later one
place_step : (label : ℕ) (mark : Mark) (marks : List Mark) (is : Bool) → is_label label mark ≡ is → (has_label label marks ≡ true → place_in marks label < length marks) → has_label label (mark ∷ marks) ≡ true → place_in (mark ∷ marks) label < length (mark ∷ marks)
place_step label mark marks true is later has = rw is (omega arith)
place_step label mark marks false is later has =
    let more : has_label label marks ≡ true = rw is at has in
    let below = later more in
    rw is (omega (arith, below))

place_below : (label : ℕ) (marks : List Mark) → has_label label marks ≡ true → place_in marks label < length marks
place_below label [] has = absurd cc
place_below label (mark ∷ marks) has = place_step label mark marks (is_label label mark) refl (place_below label marks) has

own_fits : (f : Piece) (b : Body) → b.place ≡ place_in (marks_of f.instrs) → length b.plans ≡ length f.instrs → (label : ℕ) → is_own f label ≡ true → label_fits b label ≡ true
own_fits f b place size label own =
    let below = place_below label (marks_of f.instrs) own in
    let marked = length-map f.instrs mark_of in
    let same : b.place label ≡ place_in (marks_of f.instrs) label = ap (λ (at : ℕ → ℕ). at label) place in
    lt-ltb (b.place label) (length b.plans) (omega (arith, below, marked, size, same))

-- ---- actions

-- what they write, how many slots they make, and the labels of the handlers that they put in
record Keeps (b : Bounds) (list : List Action) : Type 0 where
  registers : list_all (reg_fits b) (written list) ≡ true
  frames : list_all (up_to b.y) list ≡ true
  handlers : list_all (is_handler b) (tag_labels list) ≡ true

action_keeps : (b : Bounds) (a : Action) → 3 ≤ b.x → list_all (reg_fits b) (written_of a) ≡ true → up_to b.y a ≡ true → list_all (is_handler b) (tag_labels_of a) ≡ true → action_fits b a ≡ true
unfolding up_to
action_keeps b (acts.Write r) three registers frame handler = (and_parts _ _ registers).0
action_keeps b (acts.Copy source r) three registers frame handler = (and_parts _ _ registers).0
action_keeps b (acts.Swap first second) three registers frame handler =
    let parts = and_parts (reg_fits b first) (reg_fits b second && true) registers in
    and_from _ _ parts.0 (and_parts _ _ parts.1).0
action_keeps b (acts.NewFrame n) three registers frame handler = frame
action_keeps b (acts.Tag y label kind) three registers frame handler = (and_parts _ _ handler).0
action_keeps b acts.Caught three registers frame handler = le-leb 1 b.x (omega (arith, three))
action_keeps b acts.Landed three registers frame handler = le-leb 3 b.x three
action_keeps b _ three registers frame handler = refl

actions_fit : (b : Bounds) (list : List Action) → 3 ≤ b.x → Keeps b list → list_all (action_fits b) list ≡ true
actions_fit b [] three keeps = refl
actions_fit b (a ∷ rest) three keeps =
    let registers = append_parts (reg_fits b) (written_of a) (written rest) keeps.registers in
    let frames = and_parts _ _ keeps.frames in
    let handlers = append_parts (is_handler b) (tag_labels_of a) (tag_labels rest) keeps.handlers in
    let later : Keeps b rest = record { registers = registers.1; frames = frames.1; handlers = handlers.1 } in
    and_from _ _ (action_keeps b a three registers.0 frames.0 handlers.0) (actions_fit b rest three later)

-- ---- plans

-- what the laws on plans, on instructions with which nothing is wrong and on registers say
pub record Laws : Type 0 where
  pub labels : (q : ℕ → Bool) (i : Instruction) (ends : Bool) (p : Plan) → IsInstruction i → plan_of i ends ≡ Ok p → list_all q (own_labels (roles_of i.op) i.operands) ≡ true → list_all q (plan_labels p) ≡ true
  pub registers : (q : Reg → Bool) (i : Instruction) (ends : Bool) (p : Plan) → plan_of i ends ≡ Ok p → q (regs.X 0) ≡ true → list_all q (named (roles_of i.op) i.operands) ≡ true → list_all q (written p.before ++ written p.after) ≡ true
  pub tags_first : (i : Instruction) (ends : Bool) (p : Plan) → plan_of i ends ≡ Ok p → tag_labels p.after ≡ []
  pub own : (m : ModuleValue) (f : Piece) (i : Instruction) → instruction_fault m f i ≡ None → list_all (is_own f) (own_labels (roles_of i.op) i.operands) ≡ true
  pub counted : (f : Piece) → list_all (is_within (x_bound f)) (named_in f.instrs) ≡ true
  pub three : (f : Piece) → 3 ≤ x_bound f
  pub arguments : (f : Piece) → f.arity ≤ x_bound f

-- the labels of a plan are those of the function
record Own (f : Piece) (p : Plan) : Type 0 where
  fails : list_all (is_own f) p.fails ≡ true
  exit : list_all (is_own f) (exit_labels p.exit) ≡ true
  tags : list_all (is_own f) (tag_labels p.before) ≡ true

-- actions of a plan that a body takes
record Bounded (b : Bounds) (p : Plan) : Type 0 where
  frames : list_all (up_to b.y) (p.before ++ p.after) ≡ true
  handlers : list_all (is_handler b) (tag_labels p.before) ≡ true

module _ (laws : Laws) (m : ModuleValue) (f : Piece) where
  labels_own : (i : Instruction) (p : Plan) → HasPlan m f i p → Own f p
  labels_own i p has =
      let all = laws.labels (is_own f) i (ends m i) p has.instruction has.plan (laws.own m f i has.sound) in
      let first = append_parts (is_own f) (p.fails ++ exit_labels p.exit ++ tag_labels p.before) (tag_labels p.after) all in
      let second = append_parts (is_own f) (p.fails ++ exit_labels p.exit) (tag_labels p.before) first.0 in
      let third = append_parts (is_own f) p.fails (exit_labels p.exit) second.0 in
      record { fails = third.0; exit = third.1; tags = second.1 }

  handlers_own : (instrs : List Instruction) (plans : List Plan) → AllZip (HasPlan m f) instrs plans → list_all (is_own f) (handlers_of plans) ≡ true
  handlers_own [] [] have = refl
  handlers_own [] (p ∷ ps) have = absurd have
  handlers_own (i ∷ is) [] have = absurd have
  handlers_own (i ∷ is) (p ∷ ps) have = all_append (is_own f) (tag_labels p.before) (handlers_of ps) (labels_own i p have.0).tags (handlers_own is ps have.1)

  module _ (b : Body) (three : 3 ≤ b.bounds.x) (fits : (label : ℕ) → is_own f label ≡ true → label_fits b label ≡ true) where
    one_fits : (i : Instruction) (p : Plan) → HasPlan m f i p → list_all (reg_fits b.bounds) (named (roles_of i.op) i.operands) ≡ true → Bounded b.bounds p → plan_fits b p ≡ true
    one_fits i p has named_fit bounded =
        let own = labels_own i p has in
        let all_written = laws.registers (reg_fits b.bounds) i (ends m i) p has.plan (lt-ltb 0 b.bounds.x (omega (arith, three))) named_fit in
        let registers = append_parts (reg_fits b.bounds) (written p.before) (written p.after) all_written in
        let frames = append_parts (up_to b.bounds.y) p.before p.after bounded.frames in
        let none : list_all (is_handler b.bounds) (tag_labels p.after) ≡ true = ap (list_all (is_handler b.bounds)) (laws.tags_first i (ends m i) p has.plan) in
        let before = actions_fit b.bounds p.before three (record { registers = registers.0; frames = frames.0; handlers = bounded.handlers }) in
        let after = actions_fit b.bounds p.after three (record { registers = registers.1; frames = frames.1; handlers = none }) in
        and_from _ _ (and_from _ _ (and_from _ _ (all_follow (is_own f) (label_fits b) p.fails fits own.fails) (all_follow (is_own f) (label_fits b) (exit_labels p.exit) fits own.exit)) before) after

    all_fit : (instrs : List Instruction) (plans : List Plan) → AllZip (HasPlan m f) instrs plans → list_all (reg_fits b.bounds) (named_in instrs) ≡ true → list_all (up_to b.bounds.y) (flat_map (λ p. p.before ++ p.after) plans) ≡ true → list_all (is_handler b.bounds) (handlers_of plans) ≡ true → list_all (plan_fits b) plans ≡ true
    all_fit [] [] have named_fit frames handlers = refl
    all_fit [] (p ∷ ps) have named_fit frames handlers = absurd have
    all_fit (i ∷ is) [] have named_fit frames handlers = absurd have
    all_fit (i ∷ is) (p ∷ ps) have named_fit frames handlers =
        let names = append_parts (reg_fits b.bounds) (named (roles_of i.op) i.operands) (named_in is) named_fit in
        let sizes = append_parts (up_to b.bounds.y) (p.before ++ p.after) (flat_map (λ (q : Plan). q.before ++ q.after) ps) frames in
        let labels = append_parts (is_handler b.bounds) (tag_labels p.before) (handlers_of ps) handlers in
        and_from _ _ (one_fits i p have.0 names.0 (record { frames = sizes.0; handlers = labels.0 })) (all_fit is ps have.1 names.1 sizes.1 labels.1)

-- ---- functions

within_fits : (b : Bounds) (r : Reg) → is_within b.x r ≡ true → reg_fits b r ≡ true
within_fits b (regs.X n) is = is
within_fits b (regs.Y n) is = refl

pub made_fits : Laws → (m : ModuleValue) (f : Piece) (plans : List Plan) → AllZip (HasPlan m f) f.instrs plans → f.entry < length f.instrs → body_fits (body_from f plans (handlers_of plans) (x_bound f) (y_bound plans)) ≡ true
made_fits laws m f plans have entered =
    let b = body_from f plans (handlers_of plans) (x_bound f) (y_bound plans) in
    let size = AllZip-long (HasPlan m f) f.instrs plans have in
    let fits = own_fits f b refl size in
    let named_fit = all_follow (is_within (x_bound f)) (reg_fits b.bounds) (named_in f.instrs) (within_fits b.bounds) (laws.counted f) in
    let frames = (all_up_to 0 (y_bound plans) (flat_map (λ (p : Plan). p.before ++ p.after) plans) (le_refl (y_bound plans))).1 in
    let entry = lt-ltb f.entry (length plans) (omega (arith, size, entered)) in
    let arity = le-leb f.arity (x_bound f) (laws.arguments f) in
    let three = le-leb 3 (x_bound f) (laws.three f) in
    let labels = all_follow (is_own f) (label_fits b) (handlers_of plans) fits (handlers_own laws m f f.instrs plans have) in
    let all = all_fit laws m f b (laws.three f) fits f.instrs plans have named_fit frames (all_members (handlers_of plans)) in
    and_from _ _ (and_from _ _ (and_from _ _ (and_from _ _ entry arity) three) labels) all
