-- A bound of registers: it grows, and those by which it was raised are below it.
use Rattle.std.proofs.Common.{◌≡◌, ℕ, zero, suc, ◌+◌, ◌<◌, ◌≤◌, max, Bool, true, List, [], ◌∷◌, ◌++◌, Option, Some, None, length, get_or, slice_get, drop, refl, sym, ap, ◌∙◌, ◌⊎◌, inl, inr, arith}
use Rattle.std.specs.List.{list_all}
use Rattle.std.specs.Option.{option_to_list}
use Rattle.std.proofs.lemmas.Bool.{and_from, and_parts, lt-ltb}
use Rattle.std.proofs.lemmas.Option.{none-some, same_Some}
use Rattle.std.proofs.lemmas.List.{drop_more}
use Rattle.std.proofs.lemmas.List.Folds.{list_all-append}
use Rattle.compact_term.specs.declared.operand.Reg.{Reg}
use Rattle.compact_term.specs.declared.operand.Reg.TheVariants as regs
use Rattle.compact_term.specs.declared.operand.Plain.{Plain}
use Rattle.compact_term.specs.declared.operand.Operand.{Operand}
use Rattle.op_table.specs.declared.role.Role.{Role}
use Rattle.op_table.specs.Instruction.{Instruction}
use Rattle.op_table.specs.Table.{roles_of}
use Rattle.op_table.specs.Planned.{register_of}
use Rattle.op_table.specs.Rules.{registers, named_of, named}
use Rattle.func_split.specs.Functions.{Piece}
use Rattle.code_faults.specs.Registers.{raised, raised_by, named_in, x_bound, is_within}

-- ---- one after another

pub raised_append : (x : ℕ) (rs others : List Reg) → raised_by x (rs ++ others) ≡ raised_by (raised_by x rs) others
raised_append x [] others = refl
raised_append x (r ∷ rs) others = raised_append (raised x r) rs others

one_register : (x : ℕ) (reg : Option Reg) (others : List Reg) → raised_by x (option_to_list reg ++ others) ≡ raised_by (raised_by x (option_to_list reg ++ [])) others
one_register x None others = refl
one_register x (Some reg) others = refl

pub raised_member : (x : ℕ) (p : Plain) (ps : List Plain) → raised_by x (registers (p ∷ ps)) ≡ raised_by (raised_by x (registers (p ∷ []))) (registers ps)
raised_member x p ps = one_register x (register_of p) (registers ps)

-- by one instruction after those before it
pub raised_instr : (total x y : ℕ) (list : List Instruction) (k : ℕ) (i : Instruction) → total ≡ raised_by x (named_in (drop k list)) → k < length list → i ≡ get_or list k i → y ≡ raised_by x (named (roles_of i.op) i.operands) → total ≡ raised_by y (named_in (drop (k + 1) list))
raised_instr total x y list k i is below at raise =
    let rest = drop (k + 1) list in
    is ∙ ap (λ (l : List Instruction). raised_by x (named_in l)) (drop_more list k i below) ∙ ap (λ (j : Instruction). raised_by x (named_in (j ∷ rest))) (sym at) ∙ raised_append x (named (roles_of i.op) i.operands) (named_in rest) ∙ ap (λ (n : ℕ). raised_by n (named_in rest)) (sym raise)

-- by the first operand, and then by the others
pub raised_operand : (total x y : ℕ) (roles others : List Role) (role : Role) (operands rest : List Operand) (o : Operand) → total ≡ raised_by x (named roles operands) → roles ≡ role ∷ others → operands ≡ o ∷ rest → y ≡ raised_by x (named_of role o) → total ≡ raised_by y (named others rest)
raised_operand total x y roles others role operands rest o is role-first o-first raise =
    is ∙ ap (λ (rs : List Role). raised_by x (named rs operands)) role-first ∙ ap (λ (os : List Operand). raised_by x (named (role ∷ others) os)) o-first ∙ raised_append x (named_of role o) (named others rest) ∙ ap (λ (n : ℕ). raised_by n (named others rest)) (sym raise)

-- where either has no more, nothing is named
pub none_named : (x : ℕ) (rs : List Role) (os : List Operand) → (rs ≡ []) ⊎ (os ≡ []) → x ≡ raised_by x (named rs os)
none_named x [] os none = refl
none_named x (role ∷ rs) [] none = refl
none_named x (role ∷ rs) (o ∷ os) (inl none) = absurd cc
none_named x (role ∷ rs) (o ∷ os) (inr none) = absurd cc

-- ---- what a bound is above

not_less : (x : ℕ) (r : Reg) → x ≤ raised x r
not_less x (regs.X n) = omega arith
not_less x (regs.Y n) = omega arith

pub grows : (x : ℕ) (rs : List Reg) → x ≤ raised_by x rs
grows x [] = omega arith
grows x (r ∷ rs) = omega (arith, not_less x r, grows (raised x r) rs)

within : (bound x : ℕ) (r : Reg) → raised x r ≤ bound → is_within bound r ≡ true
within bound x (regs.X n) le = lt-ltb n bound (omega (arith, le))
within bound x (regs.Y n) le = refl

all_within : (bound x : ℕ) (rs : List Reg) → raised_by x rs ≤ bound → list_all (is_within bound) rs ≡ true
all_within bound x [] le = refl
all_within bound x (r ∷ rs) le = and_from (is_within bound r) (list_all (is_within bound) rs) (within bound x r (omega (arith, le, grows (raised x r) rs))) (all_within bound (raised x r) rs le)

pub counted : (f : Piece) → list_all (is_within (x_bound f)) (named_in f.instrs) ≡ true
counted f = all_within (x_bound f) (max 3 f.arity) (named_in f.instrs) (omega arith)

parts : (q : Reg → Bool) (i : Instruction) (rest : List Instruction) → list_all q (named_in (i ∷ rest)) ≡ true → (list_all q (named (roles_of i.op) i.operands) ≡ true) × (list_all q (named_in rest) ≡ true)
parts q i rest all = and_parts _ _ (sym (list_all-append q (named (roles_of i.op) i.operands) (named_in rest)) ∙ all)

all_at : (q : Reg → Bool) (list : List Instruction) (k : ℕ) (i : Instruction) → slice_get list k ≡ Some i → list_all q (named_in list) ≡ true → list_all q (named (roles_of i.op) i.operands) ≡ true
all_at q [] k i at all = absurd (none-some i at)
all_at q (first ∷ rest) zero i at all = ap (λ (x : Instruction). list_all q (named (roles_of x.op) x.operands)) (sym (same_Some first i at)) ∙ (parts q first rest all).0
all_at q (first ∷ rest) (suc k) i at all = all_at q rest k i at (parts q first rest all).1

pub counted_at : (f : Piece) (k : ℕ) (i : Instruction) → slice_get f.instrs k ≡ Some i → list_all (is_within (x_bound f)) (named (roles_of i.op) i.operands) ≡ true
counted_at f k i at = all_at (is_within (x_bound f)) f.instrs k i at (counted f)
