-- What holds of every plan, whatever the opcode is.
use Rattle.std.specs.Prelude.{◌≡◌, ◌⊎◌, ℕ, Bool, Some, None, List, [], ◌∷◌, ◌++◌}
use Rattle.std.specs.List.{slice_get, flat_map}
use Rattle.std.specs.Option.{option_to_list}
use Rattle.compact_term.specs.declared.operand.Reg.{Reg}
use Rattle.compact_term.specs.declared.operand.Reg.TheVariants as regs
use Rattle.compact_term.specs.declared.operand.Plain.{Plain}
use Rattle.compact_term.specs.declared.operand.Operand.{Operand}
use Rattle.compact_term.specs.declared.operand.Operand.TheVariants as operands
use Rattle.op_table.specs.declared.role.Role.{Role}
use Rattle.op_table.specs.declared.role.Role.TheVariants as roles
use Rattle.op_table.specs.declared.action.Src.TheVariants as sources
use Rattle.op_table.specs.declared.action.Action.{Action}
use Rattle.op_table.specs.declared.action.Action.TheVariants as acts
use Rattle.op_table.specs.declared.plans.Exit.{Exit}
use Rattle.op_table.specs.declared.plans.Exit.TheVariants as exits
use Rattle.op_table.specs.declared.plans.Plan.{Plan}
use Rattle.op_table.specs.declared.row.Profile.TheVariants.{Typed}
use Rattle.op_table.specs.Instruction.{Instruction}
use Rattle.op_table.specs.Roles.{misshapen}
use Rattle.op_table.specs.Table.{Row, row_with, roles_of}
use Rattle.op_table.specs.Planned.{operand_at, register_of, number_in, label_in, members_in, fails_in, value_labels}
use Rattle.op_table.specs.Planning.{planned_by}

-- the plan by the row of the opcode, whose roles the operands fit
pub record IsPlanOf (i : Instruction) (ends : Bool) (p : Plan) : Type 0 where
  pub row : Row
  pub found : row_with i.op ≡ Some row
  pub typed : row.profile ≡ Typed
  pub shaped : misshapen row.roles i.operands ≡ None
  pub planned : p ≡ planned_by row i ends

-- ---- what an exit finds

-- the first operand is how many arguments there are, and the second is the label of what is called
pub record CallsLocal (i : Instruction) (label : ℕ) : Type 0 where
  pub arity : slice_get (roles_of i.op) 0 ≡ Some roles.R
  pub entry : slice_get (roles_of i.op) 1 ≡ Some roles.E
  pub names : label ≡ label_in (operand_at i.operands 2)

-- a call from a full frame, with its arguments, after which x0 alone has a value
pub record Enters (i : Instruction) (label : ℕ) (p : Plan) : Type 0 where
  pub calls : CallsLocal i label
  pub before : p.before ≡ acts.Live (number_in (operand_at i.operands 1)) ∷ acts.InFrame ∷ acts.FullY ∷ []
  pub after : p.after ≡ acts.Keep 0 ∷ acts.Write (regs.X 0) ∷ []

-- the frame is given up, or there is none
abbrev pub IsLeave : Action → Type 0
IsLeave a = (a ≡ acts.NoFrame) ⊎ ((size : ℕ) × (a ≡ acts.DropFrame size))

-- a call with so many arguments, without a frame
pub record Replaces (arguments : ℕ) (p : Plan) : Type 0 where
  pub leave : Action
  pub leaves : IsLeave leave
  pub before : p.before ≡ acts.Live arguments ∷ leave ∷ []
  pub after : p.after ≡ []

pub record ReplacesLocal (i : Instruction) (label : ℕ) (p : Plan) : Type 0 where
  pub calls : CallsLocal i label
  pub replaces : Replaces (number_in (operand_at i.operands 1)) p

pub record ReplacesExt (p : Plan) : Type 0 where
  pub arguments : ℕ
  pub replaces : Replaces arguments p

-- there is no frame, and x0 is what is returned
pub record Returns (p : Plan) : Type 0 where
  pub before : p.before ≡ acts.NoFrame ∷ acts.Read (sources.Reg (regs.X 0)) ∷ []
  pub after : p.after ≡ []

abbrev pub LeavesBy : Instruction → Exit → Plan → Type 0
LeavesBy i (exits.Enter label) p = Enters i label p
LeavesBy i (exits.TailLocal label) p = ReplacesLocal i label p
LeavesBy i exits.TailExt p = ReplacesExt p
LeavesBy i exits.Return p = Returns p
LeavesBy i exits.End p = p.after ≡ []
LeavesBy i exits.Next p = Unit {0}
LeavesBy i (exits.Labels labels) p = Unit {0}

-- ---- labels

-- the labels of an operand that are to be ones of the function itself
abbrev pub own_labels_of : Role → Operand → List ℕ
own_labels_of roles.F o = label_in (Some o) ∷ []
own_labels_of roles.FOr0 o = fails_in (Some o)
own_labels_of roles.Lp o = value_labels (members_in (Some o))
own_labels_of _ o = []

abbrev pub own_labels : List Role → List Operand → List ℕ
own_labels [] os = []
own_labels (role ∷ rs) [] = []
own_labels (role ∷ rs) (o ∷ os) = own_labels_of role o ++ own_labels rs os

abbrev pub exit_labels : Exit → List ℕ
exit_labels (exits.Labels labels) = labels
exit_labels _ = []

-- the labels of handlers
abbrev pub tag_labels_of : Action → List ℕ
tag_labels_of (acts.Tag slot label kind) = label ∷ []
tag_labels_of _ = []

abbrev pub tag_labels : List Action → List ℕ
tag_labels list = flat_map tag_labels_of list

-- where a plan may go on in the function itself
abbrev pub plan_labels : Plan → List ℕ
plan_labels p = p.fails ++ exit_labels p.exit ++ tag_labels p.before ++ tag_labels p.after

-- ---- registers

-- the registers of an operand, whatever its kinds of values are
abbrev pub registers : List Plain → List Reg
registers ps = flat_map (λ p. option_to_list (register_of p)) ps

abbrev pub registers_of : Operand → List Reg
registers_of (operands.One p) = registers (p ∷ [])
registers_of (operands.List ps) = registers ps
registers_of (operands.Alloc pairs) = []

-- those that the function uses: what `any` takes is unread, and so are the values that a jump is chosen by
abbrev pub named_of : Role → Operand → List Reg
named_of roles.Any o = []
named_of roles.Lp o = []
named_of _ o = registers_of o

abbrev pub named : List Role → List Operand → List Reg
named [] os = []
named (role ∷ rs) [] = []
named (role ∷ rs) (o ∷ os) = named_of role o ++ named rs os

abbrev pub written_of : Action → List Reg
written_of (acts.Write reg) = reg ∷ []
written_of (acts.Copy source reg) = reg ∷ []
written_of (acts.Swap a b) = a ∷ b ∷ []
written_of _ = []

abbrev pub written : List Action → List Reg
written list = flat_map written_of list
