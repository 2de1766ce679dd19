-- What operands say, and the plan that comes from them.
use Rattle.std.specs.Prelude.{ℕ, ◌+◌, ◌-◌, ◌==◌, ◌&&◌, ◌||◌, Bool, true, false, nat_lt, if◌then◌else◌, List, [], ◌∷◌, ◌++◌, map, length, Option, Some, None}
use Rattle.std.specs.List.{find, flat_map, list_all, slice_get}
use Rattle.compact_term.specs.declared.operand.Reg.{Reg}
use Rattle.compact_term.specs.declared.operand.Reg.TheVariants as regs
use Rattle.compact_term.specs.declared.operand.Plain.{Plain}
use Rattle.compact_term.specs.declared.operand.Plain.TheVariants as plains
use Rattle.compact_term.specs.declared.operand.Operand.{Operand}
use Rattle.compact_term.specs.declared.operand.Operand.TheVariants as operands
use Rattle.op_table.specs.declared.role.Role.{Role}
use Rattle.op_table.specs.declared.role.Role.TheVariants as roles
use Rattle.op_table.specs.declared.action.Src.{Src}
use Rattle.op_table.specs.declared.action.Src.TheVariants as sources
use Rattle.op_table.specs.declared.action.Action.{Action}
use Rattle.op_table.specs.declared.action.Action.TheVariants as acts
use Rattle.op_table.specs.declared.step.Number.{Number}
use Rattle.op_table.specs.declared.step.Number.TheVariants as numbers
use Rattle.op_table.specs.declared.step.Step.{Step}
use Rattle.op_table.specs.declared.step.Step.TheVariants as steps
use Rattle.op_table.specs.declared.step.Way.{Way}
use Rattle.op_table.specs.declared.step.Way.TheVariants as ways
use Rattle.op_table.specs.declared.plans.Exit.{Exit}
use Rattle.op_table.specs.declared.plans.Exit.TheVariants as exits
use Rattle.op_table.specs.declared.plans.Plan.{Plan}
use Rattle.op_table.specs.Layouts.{Layout}

-- ---- what an operand says: a number, a register, a label, members. One of another kind says 0, x0, none.

-- operands are counted from 1
abbrev pub operand_at : List Operand → ℕ → Option Operand
operand_at os k = slice_get os (k - 1)

abbrev pub register_of : Plain → Option Reg
register_of (plains.X n) = Some (regs.X n)
register_of (plains.Y n) = Some (regs.Y n)
register_of (plains.Typed reg n) = Some reg
register_of _ = None

abbrev pub register_or_x0 : Option Reg → Reg
register_or_x0 (Some reg) = reg
register_or_x0 None = regs.X 0

abbrev pub register_in : Option Operand → Reg
register_in (Some (operands.One p)) = register_or_x0 (register_of p)
register_in _ = regs.X 0

-- what is no register is a constant
abbrev pub source_from : Option Reg → Src
source_from (Some reg) = sources.Reg reg
source_from None = sources.Const

abbrev pub source_of : Plain → Src
source_of p = source_from (register_of p)

abbrev pub source_in : Option Operand → Src
source_in (Some (operands.One p)) = source_of p
source_in _ = sources.Const

abbrev pub number_in : Option Operand → ℕ
number_in (Some (operands.One (plains.U n))) = n
number_in _ = 0

abbrev pub slot_in : Option Operand → ℕ
slot_in (Some (operands.One (plains.Y n))) = n
slot_in _ = 0

abbrev pub label_of : Plain → ℕ
label_of (plains.F n) = n
label_of _ = 0

abbrev pub label_in : Option Operand → ℕ
label_in (Some (operands.One p)) = label_of p
label_in _ = 0

abbrev pub members_in : Option Operand → List Plain
members_in (Some (operands.List ps)) = ps
members_in _ = []

-- the first members of pairs, and the second ones
abbrev pub keys : List Plain → List Plain
keys [] = []
keys (p ∷ []) = []
keys (p ∷ q ∷ ps) = p ∷ keys ps

abbrev pub values : List Plain → List Plain
values [] = []
values (p ∷ []) = []
values (p ∷ q ∷ ps) = q ∷ values ps

-- ---- heap needs: words, and amounts by kind

abbrev pub amount_in : Option (ℕ × ℕ) → ℕ
amount_in (Some pair) = pair.1
amount_in None = 0

-- the first amount of a kind
abbrev pub amount_of : ℕ → List (ℕ × ℕ) → ℕ
amount_of kind pairs = amount_in (find (λ pair. pair.0 == kind) pairs)

-- a number alone is words
abbrev pub words_in : Option Operand → ℕ
words_in (Some (operands.One (plains.U n))) = n
words_in (Some (operands.Alloc pairs)) = amount_of 0 pairs
words_in _ = 0

abbrev pub funs_in : Option Operand → ℕ
funs_in (Some (operands.Alloc pairs)) = amount_of 2 pairs
funs_in _ = 0

-- ---- steps

abbrev pub number_of : List Operand → Number → ℕ
number_of os (numbers.At k) = number_in (operand_at os k)
number_of os (numbers.More k n) = number_in (operand_at os k) + n

-- a read of a register, and nothing for what is none
abbrev pub register_read : Option Reg → List Action
register_read (Some reg) = acts.Read (sources.Reg reg) ∷ []
register_read None = []

abbrev pub register_write : Option Reg → List Action
register_write (Some reg) = acts.Write reg ∷ []
register_write None = []

abbrev pub register_reads : List Plain → List Action
register_reads ps = flat_map (λ p. register_read (register_of p)) ps

abbrev pub register_writes : List Plain → List Action
register_writes ps = flat_map (λ p. register_write (register_of p)) ps

-- the reads of an operand by its role: a value, or the registers in a list
abbrev pub reads_of : Role → Operand → List Action
reads_of roles.S o = acts.Read (source_in (Some o)) ∷ []
reads_of roles.Ls o = register_reads (members_in (Some o))
reads_of _ o = []

abbrev pub reads : List Role → List Operand → List Action
reads [] os = []
reads (role ∷ rs) [] = []
reads (role ∷ rs) (o ∷ os) = reads_of role o ++ reads rs os

abbrev pub key_reads : List Plain → List Action
key_reads ps = map (λ p. acts.Read (source_of p)) (keys ps)

-- the register of the operand, or the registers in its list
abbrev pub writes_of : Option Operand → List Action
writes_of (Some (operands.List ps)) = register_writes ps
writes_of o = acts.Write (register_in o) ∷ []

abbrev pub actions : List Role → List Operand → Step → List Action
actions rs os (steps.Always action) = action ∷ []
actions rs os steps.Reads = reads rs os
actions rs os (steps.ReadKeys k) = key_reads (members_in (operand_at os k))
actions rs os (steps.Live n) = acts.Live (number_of os n) ∷ []
actions rs os (steps.Keep n) = acts.Keep (number_of os n) ∷ []
actions rs os (steps.Room k) = acts.Room (words_in (operand_at os k)) (funs_in (operand_at os k)) ∷ []
actions rs os (steps.Take n) = acts.Take (number_of os n) ∷ []
actions rs os (steps.TakeMembers k) = acts.Take (length (members_in (operand_at os k)) + 1) ∷ []
actions rs os (steps.Write k) = writes_of (operand_at os k)
actions rs os (steps.WriteValues k) = register_writes (values (members_in (operand_at os k)))
actions rs os (steps.Copy j k) = acts.Copy (source_in (operand_at os j)) (register_in (operand_at os k)) ∷ []
actions rs os (steps.Swap j k) = acts.Swap (register_in (operand_at os j)) (register_in (operand_at os k)) ∷ []
actions rs os (steps.NewFrame k) = acts.NewFrame (number_in (operand_at os k)) ∷ []
actions rs os (steps.DropFrame k) = acts.DropFrame (number_in (operand_at os k)) ∷ []
actions rs os (steps.Trim j k) = acts.Trim (number_in (operand_at os j)) (number_in (operand_at os k)) ∷ []
actions rs os (steps.Tag j k kind) = acts.Tag (slot_in (operand_at os j)) (label_in (operand_at os k)) kind ∷ []
actions rs os (steps.Untag k kind) = acts.Untag (slot_in (operand_at os k)) kind ∷ []

-- ---- where it goes on

-- label 0 is none
abbrev pub fails_in : Option Operand → List ℕ
fails_in (Some (operands.One (plains.F n))) = if n == 0 then [] else n ∷ []
fails_in _ = []

abbrev pub raises_in : Option Operand → Bool
raises_in (Some (operands.One (plains.F n))) = n == 0
raises_in _ = false

abbrev pub fails_at : List Operand → Option ℕ → List ℕ
fails_at os (Some k) = fails_in (operand_at os k)
fails_at os None = []

abbrev pub raises_at : List Operand → Option ℕ → Bool
raises_at os (Some k) = raises_in (operand_at os k)
raises_at os None = false

abbrev pub value_labels : List Plain → List ℕ
value_labels ps = map label_of (values ps)

abbrev pub labels_in : Option Operand → List ℕ
labels_in (Some (operands.One p)) = label_of p ∷ []
labels_in (Some (operands.List ps)) = value_labels ps
labels_in _ = []

abbrev pub exit_of : List Operand → Way → Exit
exit_of os ways.Next = exits.Next
exit_of os (ways.Labels k) = exits.Labels (labels_in (operand_at os k))
exit_of os (ways.Enter k) = exits.Enter (label_in (operand_at os k))
exit_of os (ways.TailLocal k) = exits.TailLocal (label_in (operand_at os k))
exit_of os ways.TailExt = exits.TailExt
exit_of os ways.Return = exits.Return
exit_of os ways.End = exits.End

-- ---- plans

abbrev pub planned : Layout → List Role → List Operand → Plan
planned l rs os = record {
  before = flat_map (actions rs os) l.before;
  fails = fails_at os l.fails;
  raises = l.raises || raises_at os l.fails;
  after = flat_map (actions rs os) l.after;
  exit = exit_of os l.exit;
}

-- ---- numbers that fit into what is kept of them

abbrev pub below_2_32 : ℕ → Bool
below_2_32 n = nat_lt n 4_294_967_296

abbrev pub is_small : List Operand → Step → Bool
is_small os (steps.Live n) = below_2_32 (number_of os n)
is_small os (steps.Keep n) = below_2_32 (number_of os n)
is_small os (steps.Take n) = nat_lt (number_of os n) 18_446_744_073_709_551_616
is_small os (steps.NewFrame k) = below_2_32 (number_in (operand_at os k))
is_small os (steps.DropFrame k) = below_2_32 (number_in (operand_at os k))
is_small os (steps.Trim j k) = below_2_32 (number_in (operand_at os j)) && below_2_32 (number_in (operand_at os k))
is_small os _ = true

-- the greatest number that an operand of a role may be
abbrev pub greatest : Role → Option ℕ
greatest roles.N = Some 4_294_967_295
greatest roles.R = Some 255
greatest roles.V = Some 1023
greatest roles.Z = Some 1024
greatest _ = None

abbrev pub greatest_in : Option Role → Option ℕ
greatest_in (Some role) = greatest role
greatest_in None = None

abbrev pub greatest_at : List Role → ℕ → Option ℕ
greatest_at rs k = greatest_in (slice_get rs (k - 1))

-- so many more than the greatest number are below the limit
abbrev pub stays_below : ℕ → Option ℕ → ℕ → Bool
stays_below limit (Some m) n = nat_lt (m + n) limit
stays_below limit None n = false

abbrev pub number_fits : ℕ → List Role → Number → Bool
number_fits limit rs (numbers.At k) = stays_below limit (greatest_at rs k) 0
number_fits limit rs (numbers.More k n) = stays_below limit (greatest_at rs k) n

abbrev pub step_fits : List Role → Step → Bool
step_fits rs (steps.Live n) = number_fits 4_294_967_296 rs n
step_fits rs (steps.Keep n) = number_fits 4_294_967_296 rs n
step_fits rs (steps.Take n) = number_fits 18_446_744_073_709_551_616 rs n
step_fits rs (steps.NewFrame k) = number_fits 4_294_967_296 rs (numbers.At k)
step_fits rs (steps.DropFrame k) = number_fits 4_294_967_296 rs (numbers.At k)
step_fits rs (steps.Trim j k) = number_fits 4_294_967_296 rs (numbers.At j) && number_fits 4_294_967_296 rs (numbers.At k)
step_fits rs _ = true

-- whatever operands have the shapes of the roles, each number of a step fits
abbrev pub layout_fits : List Role → Layout → Bool
layout_fits rs l = list_all (step_fits rs) l.before && list_all (step_fits rs) l.after
