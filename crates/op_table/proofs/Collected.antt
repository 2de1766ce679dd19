-- What is collected from steps and their actions, and a test of all of it.
use Rattle.std.proofs.Common.{◌≡◌, ℕ, Bool, true, false, ◌&&◌, List, [], ◌∷◌, ◌++◌, map, Option, Some, None, refl, sym, ap, ◌∙◌}
use Rattle.std.specs.List.{list_all, flat_map}
use Rattle.std.proofs.lemmas.Bool.{and_parts}
use Rattle.std.proofs.lemmas.Grind.{flat_map-append}
use Rattle.std.proofs.lemmas.List.Folds.{list_all-append}
use Rattle.compact_term.specs.declared.operand.Reg.{Reg}
use Rattle.compact_term.specs.declared.operand.Plain.{Plain}
use Rattle.compact_term.specs.declared.operand.Operand.{Operand}
use Rattle.op_table.specs.declared.role.Role.{Role}
use Rattle.op_table.specs.declared.role.Role.TheVariants as roles
use Rattle.op_table.specs.declared.action.Src.{Src}
use Rattle.op_table.specs.declared.action.Action.{Action}
use Rattle.op_table.specs.declared.action.Action.TheVariants as acts
use Rattle.op_table.specs.Table.{Row, table, row_with}
use Rattle.op_table.specs.Layouts.{Layout, layout_of}
use Rattle.op_table.specs.Planned.{members_in, keys, register_of, register_read, reads_of, reads, key_reads, source_of}
use Rattle.op_table.specs.Planning.{called}
use Rattle.op_table.proofs.Named.{row_all}
use Rattle.op_table.proofs.Small.{and_from}

-- ---- layouts of the table

-- a row's layout passes a test, also where it calls what never returns
abbrev pub passes : (List Role → Layout → Bool) → Row → Bool
passes test r = test r.roles (layout_of (called r.form false)) && test r.roles (layout_of (called r.form true))

pub layout_passes : (test : List Role → Layout → Bool) → list_all (passes test) table ≡ true → (op : ℕ) (r : Row) → row_with op ≡ Some r → (ends : Bool) → test r.roles (layout_of (called r.form ends)) ≡ true
layout_passes test all op r found false = (and_parts _ _ (row_all (passes test) all op r found)).0
layout_passes test all op r found true = (and_parts _ _ (row_all (passes test) all op r found)).1

-- ---- all that is collected passes a test

pub all_append : {T : Type 0} (q : T → Bool) (xs ys : List T) → list_all q xs ≡ true → list_all q ys ≡ true → list_all q (xs ++ ys) ≡ true
all_append q xs ys first second = list_all-append q xs ys ∙ and_from first second

pub append_parts : {T : Type 0} (q : T → Bool) (xs ys : List T) → list_all q (xs ++ ys) ≡ true → (list_all q xs ≡ true) × (list_all q ys ≡ true)
append_parts q xs ys all = and_parts _ _ (sym (list_all-append q xs ys) ∙ all)

pub all_collected : {A B T : Type 0} (q : T → Bool) (f : B → List T) (g : A → List B) (fits : A → Bool) → ((x : A) → fits x ≡ true → list_all q (flat_map f (g x)) ≡ true) → (xs : List A) → list_all fits xs ≡ true → list_all q (flat_map f (flat_map g xs)) ≡ true
all_collected q f g fits each [] fit = refl
all_collected q f g fits each (x ∷ xs) fit =
    let parts = and_parts _ _ fit in
    ap (list_all q) (flat_map-append f (g x) (flat_map g xs)) ∙ all_append q _ _ (each x parts.0) (all_collected q f g fits each xs parts.1)

-- ---- nothing is collected

none_append : {A T : Type 0} (f : A → List T) (xs ys : List A) → flat_map f xs ≡ [] → flat_map f ys ≡ [] → flat_map f (xs ++ ys) ≡ []
none_append f xs ys first second = flat_map-append f xs ys ∙ ap (λ ts. ts ++ flat_map f ys) first ∙ second

pub none_collected : {A B T : Type 0} (f : B → List T) (g : A → List B) → ((x : A) → flat_map f (g x) ≡ []) → (xs : List A) → flat_map f (flat_map g xs) ≡ []
none_collected f g none [] = refl
none_collected f g none (x ∷ xs) = none_append f (g x) (flat_map g xs) (none x) (none_collected f g none xs)

-- ---- from reads, of which each gives nothing

one_none : {T : Type 0} (f : Action → List T) (a : Action) → f a ≡ [] → flat_map f (a ∷ []) ≡ []
one_none f a none = ap (λ ts. ts ++ []) none

register_none : {T : Type 0} (f : Action → List T) → ((s : Src) → f (acts.Read s) ≡ []) → (reg : Option Reg) → flat_map f (register_read reg) ≡ []
register_none f none None = refl
register_none f none (Some reg) = one_none f _ (none _)

role_none : {T : Type 0} (f : Action → List T) → ((s : Src) → f (acts.Read s) ≡ []) → (role : Role) (o : Operand) → flat_map f (reads_of role o) ≡ []
role_none f none roles.S o = one_none f _ (none _)
role_none f none roles.Ls o = none_collected f (λ p. register_read (register_of p)) (λ p. register_none f none (register_of p)) (members_in (Some o))
role_none f none _ o = refl

pub reads_none : {T : Type 0} (f : Action → List T) → ((s : Src) → f (acts.Read s) ≡ []) → (rs : List Role) (os : List Operand) → flat_map f (reads rs os) ≡ []
reads_none f none [] os = refl
reads_none f none (role ∷ rs) [] = refl
reads_none f none (role ∷ rs) (o ∷ os) = none_append f (reads_of role o) (reads rs os) (role_none f none role o) (reads_none f none rs os)

sources_none : {T : Type 0} (f : Action → List T) → ((s : Src) → f (acts.Read s) ≡ []) → (ps : List Plain) → flat_map f (map (λ p. acts.Read (source_of p)) ps) ≡ []
sources_none f none [] = refl
sources_none f none (p ∷ ps) = none_append f (acts.Read (source_of p) ∷ []) (map (λ p. acts.Read (source_of p)) ps) (one_none f _ (none _)) (sources_none f none ps)

pub key_reads_none : {T : Type 0} (f : Action → List T) → ((s : Src) → f (acts.Read s) ≡ []) → (ps : List Plain) → flat_map f (key_reads ps) ≡ []
key_reads_none f none ps = sources_none f none (keys ps)
