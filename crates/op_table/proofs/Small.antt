-- Operands that have the shapes of their roles say numbers up to the greatest ones of these.
use Rattle.std.proofs.Common.{◌≡◌, ℕ, zero, suc, ◌+◌, ◌-◌, ◌≤◌, Bool, true, ◌&&◌, nat_lt, List, [], ◌∷◌, Option, Some, None, refl, arith, slice_index_or, inl, inr}
use Rattle.std.specs.List.{list_all, slice_get, AllPass}
use Rattle.std.proofs.lemmas.Bool.{and_parts, cases_Bool, ltb-true, lt-ltb}
use Rattle.std.proofs.lemmas.Bool.Decides.{nat_tests}
use Rattle.std.proofs.lemmas.List.Folds.{list_all_at}
use Rattle.compact_term.specs.declared.operand.Operand.{Operand}
use Rattle.op_table.specs.declared.role.Role.{Role}
use Rattle.op_table.specs.declared.step.Number.{Number}
use Rattle.op_table.specs.declared.step.Number.TheVariants as numbers
use Rattle.op_table.specs.declared.step.Step.{Step}
use Rattle.op_table.specs.declared.step.Step.TheVariants as steps
use Rattle.op_table.specs.Roles.{has_shape, misshapen, misshapen_from}
use Rattle.op_table.specs.Planned.{number_in, number_of, greatest, greatest_in, greatest_at, stays_below, number_fits, step_fits, is_small}

number-greatest : (role : Role) (o : Operand) (m : ℕ) → has_shape role o ≡ true → greatest role ≡ Some m → number_in (Some o) ≤ m
number-greatest role o m shaped is = grind (arith, nat_tests)

-- the first operands have their shapes, and so do the others
pub shaped_parts : (k : ℕ) (role : Role) (rs : List Role) (o : Operand) (os : List Operand) → misshapen_from k (role ∷ rs) (o ∷ os) ≡ None → (has_shape role o ≡ true) × (misshapen_from (k + 1) rs os ≡ None)
shaped_parts k role rs o os shaped =
    elim (cases_Bool (has_shape role o)) [
      | inl is ↦ let rest : misshapen_from (k + 1) rs os ≡ None = rw is at shaped in (is, rest)
      | inr not ↦ let found : Some k ≡ None = rw not at shaped in absurd cc
    ]

greatest-at : (k i : ℕ) (rs : List Role) (os : List Operand) (m : ℕ) → misshapen_from k rs os ≡ None → greatest_in (slice_get rs i) ≡ Some m → number_in (slice_get os i) ≤ m
greatest-at k i [] os m shaped is = absurd cc
greatest-at k i (role ∷ rs) [] m shaped is = omega arith
greatest-at k zero (role ∷ rs) (o ∷ os) m shaped is = number-greatest role o m (shaped_parts k role rs o os shaped).0 is
greatest-at k (suc i) (role ∷ rs) (o ∷ os) m shaped is = greatest-at (k + 1) i rs os m (shaped_parts k role rs o os shaped).1 is

more_fits : (limit n a : ℕ) (most : Option ℕ) → ((m : ℕ) → most ≡ Some m → a ≤ m) → stays_below limit most n ≡ true → nat_lt (a + n) limit ≡ true
more_fits limit n a None up fits = absurd cc
more_fits limit n a (Some m) up fits =
    let below = ltb-true (m + n) limit fits in
    let at_most = up m refl in
    lt-ltb (a + n) limit (omega arith)

number_small : (limit : ℕ) (rs : List Role) (os : List Operand) (n : Number) → misshapen rs os ≡ None → number_fits limit rs n ≡ true → nat_lt (number_of os n) limit ≡ true
number_small limit rs os (numbers.At k) shaped fits =
    let a = number_in (slice_get os (k - 1)) in
    let below = ltb-true (a + 0) limit (more_fits limit 0 a (greatest_at rs k) (λ m is. greatest-at 1 (k - 1) rs os m shaped is) fits) in
    lt-ltb a limit (omega arith)
number_small limit rs os (numbers.More k n) shaped fits = more_fits limit n _ (greatest_at rs k) (λ m is. greatest-at 1 (k - 1) rs os m shaped is) fits

pub and_from : {a b : Bool} → a ≡ true → b ≡ true → (a && b) ≡ true
and_from a-is b-is = rw a-is b-is

step_small : (rs : List Role) (os : List Operand) (s : Step) → misshapen rs os ≡ None → step_fits rs s ≡ true → is_small os s ≡ true
step_small rs os (steps.Live n) shaped fits = number_small _ rs os n shaped fits
step_small rs os (steps.Keep n) shaped fits = number_small _ rs os n shaped fits
step_small rs os (steps.Take n) shaped fits = number_small _ rs os n shaped fits
step_small rs os (steps.NewFrame k) shaped fits = number_small _ rs os (numbers.At k) shaped fits
step_small rs os (steps.DropFrame k) shaped fits = number_small _ rs os (numbers.At k) shaped fits
step_small rs os (steps.Trim j k) shaped fits =
    let parts = and_parts _ _ fits in
    and_from (number_small _ rs os (numbers.At j) shaped parts.0) (number_small _ rs os (numbers.At k) shaped parts.1)
step_small rs os _ shaped fits = refl

-- the numbers of steps fit that fit by their roles
pub steps_small : (rs : List Role) (os : List Operand) (list : List Step) → misshapen rs os ≡ None → list_all (step_fits rs) list ≡ true → AllPass (is_small os) list
steps_small rs os list shaped fit k d below =
    elim (cases_Bool (step_fits rs (slice_index_or list k d))) [
      | inl is ↦ step_small rs os _ shaped is
      | inr not ↦ absurd (let no = list_all_at (step_fits rs) list k d below not in cc)
    ]
