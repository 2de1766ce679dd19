-- The plans of the table are steady: by classes of steps, each of which all the actions of the step have.
use Rattle.std.proofs.Common.{◌≡◌, ◌∙◌, Bool, true, false, ◌&&◌, List, [], ◌∷◌, ◌++◌, map, Option, Some, None, refl, sym, ap, arith}
use Rattle.std.specs.List.{list_all, flat_map}
use Rattle.std.proofs.lemmas.Bool.{and_parts, and_from}
use Rattle.std.proofs.lemmas.Grind.{flat_map-append}
use Rattle.std.proofs.lemmas.List.Folds.{list_all-append}
use Rattle.compact_term.specs.declared.operand.Reg.{Reg}
use Rattle.compact_term.specs.declared.operand.Plain.{Plain}
use Rattle.compact_term.specs.declared.operand.Operand.{Operand}
use Rattle.compact_term.specs.declared.operand.Operand.TheVariants as operands
use Rattle.op_table.specs.declared.role.Role.{Role}
use Rattle.op_table.specs.declared.role.Role.TheVariants as roles
use Rattle.op_table.specs.declared.action.Action.{Action}
use Rattle.op_table.specs.declared.action.Action.TheVariants as acts
use Rattle.op_table.specs.declared.form.Form.{Form}
use Rattle.op_table.specs.declared.form.Form.TheVariants as forms
use Rattle.op_table.specs.declared.plans.Plan.{Plan}
use Rattle.op_table.specs.declared.step.Step.{Step}
use Rattle.op_table.specs.declared.step.Step.TheVariants as steps
use Rattle.op_table.specs.Instruction.{Instruction}
use Rattle.op_table.specs.Layouts.{layout_of}
use Rattle.op_table.specs.Planned.{operand_at, members_in, keys, values, register_of, register_read, register_write, register_reads, register_writes, source_of, reads_of, reads, writes_of, actions, planned}
use Rattle.op_table.specs.Planning.{called}
use Rattle.op_table.specs.Rules.{IsPlanOf}
use Rattle.action_rules.specs.Steady.{undisturbed, are_steady}

-- what an action does: it only looks, loses registers and what is reserved, reserves, uses that, writes, reads and writes, changes the frame, or has terms arrive in registers
data Class : Type 0 where
  Looks : Class
  Keeps : Class
  Reserves : Class
  Uses : Class
  Writes : Class
  Moves : Class
  Frames : Class
  Arrives : Class

abbrev class_of : Action → Class
class_of (acts.Read source) = Looks
class_of (acts.Live n) = Looks
class_of acts.FullY = Looks
class_of (acts.Keep n) = Keeps
class_of (acts.Room words funs) = Reserves
class_of (acts.Take words) = Uses
class_of acts.TakeFun = Uses
class_of (acts.Write r) = Writes
class_of (acts.Copy source r) = Moves
class_of (acts.Swap a b) = Moves
class_of (acts.NewFrame n) = Frames
class_of (acts.DropFrame n) = Frames
class_of (acts.Trim n r) = Frames
class_of acts.InFrame = Looks
class_of acts.NoFrame = Looks
class_of (acts.Tag y label kind) = Frames
class_of (acts.Untag y kind) = Frames
class_of acts.Caught = Arrives
class_of acts.Landed = Arrives

abbrev class_of_step : Step → Class
class_of_step (steps.Always action) = class_of action
class_of_step steps.Reads = Looks
class_of_step (steps.ReadKeys k) = Looks
class_of_step (steps.Live n) = Looks
class_of_step (steps.Keep n) = Keeps
class_of_step (steps.Room k) = Reserves
class_of_step (steps.Take n) = Uses
class_of_step (steps.TakeMembers k) = Uses
class_of_step (steps.Write k) = Writes
class_of_step (steps.WriteValues k) = Writes
class_of_step (steps.Copy j k) = Moves
class_of_step (steps.Swap j k) = Moves
class_of_step (steps.NewFrame k) = Frames
class_of_step (steps.DropFrame k) = Frames
class_of_step (steps.Trim j k) = Frames
class_of_step (steps.Tag j k kind) = Frames
class_of_step (steps.Untag k kind) = Frames

-- what an action of the first class changes, none of the second one needs
abbrev is_clear : Class → Class → Bool
is_clear first Keeps = true
is_clear first Reserves = true
is_clear Frames Writes = false
is_clear first Writes = true
is_clear Keeps Arrives = false
is_clear Writes Arrives = false
is_clear Moves Arrives = false
is_clear Arrives Arrives = false
is_clear first Arrives = true
is_clear Looks second = true
is_clear first second = false

abbrev are_clear : List Class → Bool
are_clear [] = true
are_clear (c ∷ cs) = list_all (is_clear c) cs && are_clear cs

clear_apart : (a b : Action) → is_clear (class_of a) (class_of b) ≡ true → undisturbed a b ≡ true
clear_apart a b clear = grind arith

-- ---- the actions of a step

data Classed (c : Class) : List Action → Type 0 where
  nothing : Classed c []
  also : {a : Action} {list : List Action} → class_of a ≡ c → Classed c list → Classed c (a ∷ list)

both_classed : {c : Class} {xs ys : List Action} → Classed c xs → Classed c ys → Classed c (xs ++ ys)
both_classed nothing others = others
both_classed (also is rest) others = also is (both_classed rest others)

read_classed : (reg : Option Reg) → Classed Looks (register_read reg)
read_classed None = nothing
read_classed (Some reg) = also refl nothing

write_classed : (reg : Option Reg) → Classed Writes (register_write reg)
write_classed None = nothing
write_classed (Some reg) = also refl nothing

reads_classed : (ps : List Plain) → Classed Looks (register_reads ps)
reads_classed [] = nothing
reads_classed (p ∷ ps) = both_classed (read_classed (register_of p)) (reads_classed ps)

writes_classed : (ps : List Plain) → Classed Writes (register_writes ps)
writes_classed [] = nothing
writes_classed (p ∷ ps) = both_classed (write_classed (register_of p)) (writes_classed ps)

sources_classed : (ps : List Plain) → Classed Looks (map (λ p. acts.Read (source_of p)) ps)
sources_classed [] = nothing
sources_classed (p ∷ ps) = also refl (sources_classed ps)

role_classed : (role : Role) (o : Operand) → Classed Looks (reads_of role o)
role_classed roles.S o = also refl nothing
role_classed roles.Ls o = reads_classed (members_in (Some o))
role_classed _ o = nothing

roles_classed : (rs : List Role) (os : List Operand) → Classed Looks (reads rs os)
roles_classed [] os = nothing
roles_classed (role ∷ rs) [] = nothing
roles_classed (role ∷ rs) (o ∷ os) = both_classed (role_classed role o) (roles_classed rs os)

operand_classed : (o : Option Operand) → Classed Writes (writes_of o)
operand_classed None = also refl nothing
operand_classed (Some (operands.One p)) = also refl nothing
operand_classed (Some (operands.List ps)) = writes_classed ps
operand_classed (Some (operands.Alloc pairs)) = also refl nothing

step_classed : (rs : List Role) (os : List Operand) (s : Step) → Classed (class_of_step s) (actions rs os s)
step_classed rs os steps.Reads = roles_classed rs os
step_classed rs os (steps.ReadKeys k) = sources_classed (keys (members_in (operand_at os k)))
step_classed rs os (steps.Write k) = operand_classed (operand_at os k)
step_classed rs os (steps.WriteValues k) = writes_classed (values (members_in (operand_at os k)))
step_classed rs os _ = also refl nothing

-- ---- steady actions

apart : (a : Action) (c : Class) (list : List Action) → is_clear (class_of a) c ≡ true → Classed c list → list_all (undisturbed a) list ≡ true
apart a c [] clear nothing = refl
apart a c (b ∷ list) clear (also is rest) = and_from _ _ (clear_apart a b (ap (is_clear (class_of a)) is ∙ clear)) (apart a c list clear rest)

-- actions of one class, which don't disturb each other
one_class : (c : Class) (list : List Action) → is_clear c c ≡ true → Classed c list → are_steady list ≡ true
one_class c [] clear nothing = refl
one_class c (a ∷ list) clear (also is rest) = and_from _ _ (apart a c list (ap (λ (x : Class). is_clear x c) is ∙ clear) rest) (one_class c list clear rest)

step_steady : (rs : List Role) (os : List Operand) (s : Step) → are_steady (actions rs os s) ≡ true
step_steady rs os steps.Reads = one_class Looks _ refl (roles_classed rs os)
step_steady rs os (steps.ReadKeys k) = one_class Looks _ refl (sources_classed (keys (members_in (operand_at os k))))
step_steady rs os (steps.Write k) = one_class Writes _ refl (operand_classed (operand_at os k))
step_steady rs os (steps.WriteValues k) = one_class Writes _ refl (writes_classed (values (members_in (operand_at os k))))
step_steady rs os _ = refl

apart_from_steps : (rs : List Role) (os : List Operand) (a : Action) (list : List Step) → list_all (is_clear (class_of a)) (map class_of_step list) ≡ true → list_all (undisturbed a) (flat_map (actions rs os) list) ≡ true
apart_from_steps rs os a [] clear = refl
apart_from_steps rs os a (s ∷ list) clear =
    let parts = and_parts _ _ clear in
    let first = apart a (class_of_step s) (actions rs os s) parts.0 (step_classed rs os s) in
    list_all-append (undisturbed a) (actions rs os s) (flat_map (actions rs os) list) ∙ and_from _ _ first (apart_from_steps rs os a list parts.1)

steady_before : (xs ys : List Action) (c : Class) → Classed c xs → ((a : Action) → class_of a ≡ c → list_all (undisturbed a) ys ≡ true) → are_steady xs ≡ true → are_steady ys ≡ true → are_steady (xs ++ ys) ≡ true
steady_before [] ys c nothing clear first later = later
steady_before (a ∷ xs) ys c (also is rest) clear first later =
    let parts = and_parts (list_all (undisturbed a) xs) (are_steady xs) first in
    let all = list_all-append (undisturbed a) xs ys ∙ and_from _ _ parts.0 (clear a is) in
    and_from _ _ all (steady_before xs ys c rest clear parts.1 later)

steps_steady : (rs : List Role) (os : List Operand) (list : List Step) → are_clear (map class_of_step list) ≡ true → are_steady (flat_map (actions rs os) list) ≡ true
steps_steady rs os [] clear = refl
steps_steady rs os (s ∷ list) clear =
    let parts = and_parts (list_all (is_clear (class_of_step s)) (map class_of_step list)) (are_clear (map class_of_step list)) clear in
    steady_before (actions rs os s) (flat_map (actions rs os) list) (class_of_step s) (step_classed rs os s)
    (λ a is. apart_from_steps rs os a list (ap (λ (c : Class). list_all (is_clear c) (map class_of_step list)) is ∙ parts.0)) (step_steady rs os s) (steps_steady rs os list parts.1)

-- ---- plans

forms_clear : (f : Form) → are_clear (map class_of_step ((layout_of f).before ++ (layout_of f).after)) ≡ true
forms_clear forms.Pass = refl
forms_clear _ = refl

form_steady : (rs : List Role) (os : List Operand) (f : Form) → are_steady ((planned (layout_of f) rs os).before ++ (planned (layout_of f) rs os).after) ≡ true
form_steady rs os f =
    ap are_steady (sym (flat_map-append (actions rs os) (layout_of f).before (layout_of f).after)) ∙ steps_steady rs os ((layout_of f).before ++ (layout_of f).after) (forms_clear f)

pub plan_steady : (i : Instruction) (ends : Bool) (p : Plan) → IsPlanOf i ends p → are_steady (p.before ++ p.after) ≡ true
plan_steady i ends p of_row =
    ap (λ (x : Plan). are_steady (x.before ++ x.after)) of_row.planned ∙ form_steady of_row.row.roles i.operands (called of_row.row.form ends)
