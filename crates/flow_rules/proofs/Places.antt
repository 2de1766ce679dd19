-- Where the labels of a function stand.
use Rattle.std.proofs.Common.{◌≡◌, ◌↔◌, ℕ, zero, suc, Bool, true, false, if◌then◌else◌, Some, None, List, [], ◌∷◌, length, refl, ap, arith}
use Rattle.std.proofs.lemmas.Bool.Decides.{nat_tests}
use Rattle.op_table.specs.Instruction.{Instruction}
use Rattle.func_split.specs.declared.mark.Mark.{Mark}
use Rattle.func_split.specs.declared.mark.Mark.TheVariants as marks
use Rattle.func_split.specs.Marks.{marks_of, IsLabelAt}
use Rattle.func_split.specs.Faults.{is_label}
use Rattle.flow_rules.specs.Body.{place_in}

label_is : (label : ℕ) (m : Mark) → is_label label m ≡ true → m ≡ marks.Label (Some label)
label_is label (marks.Label (Some other)) is = grind (arith, nat_tests)
label_is label (marks.Label None) is = absurd cc
label_is label marks.Line is = absurd cc
label_is label (marks.Func head) is = absurd cc
label_is label marks.Close is = absurd cc
label_is label marks.Other is = absurd cc

is_itself : (label : ℕ) → is_label label (marks.Label (Some label)) ≡ true
is_itself label = grind (arith, nat_tests)

not_first : (label : ℕ) (m : Mark) (ms : List Mark) → IsLabelAt (m ∷ ms) 0 label → is_label label m ≡ false → ⊥
not_first label m ms at not = let is : m ≡ marks.Label (Some label) = cc in let itself = is_itself label in cc

found_at : (ms : List Mark) (place label : ℕ) → IsLabelAt ms place label → IsLabelAt ms (place_in ms label) label
found_at [] place label at = absurd cc
found_at (m ∷ ms) zero label at = go (is_label label m) refl where
  go : (here : Bool) → is_label label m ≡ here → IsLabelAt (m ∷ ms) (if here then 0 else suc (place_in ms label)) label
  go true is = ap Some (label_is label m is)
  go false is = absurd (not_first label m ms at is)
found_at (m ∷ ms) (suc place) label at = go (is_label label m) refl (found_at ms place label at) where
  go : (here : Bool) → is_label label m ≡ here → IsLabelAt ms (place_in ms label) label → IsLabelAt (m ∷ ms) (if here then 0 else suc (place_in ms label)) label
  go true is later = ap Some (label_is label m is)
  go false is later = later

behind : (ms : List Mark) (label : ℕ) → ((place : ℕ) → IsLabelAt ms place label → ⊥) → place_in ms label ≡ length ms
behind [] label not = refl
behind (m ∷ ms) label not = go (is_label label m) refl (behind ms label (λ place at. not (suc place) at)) where
  go : (here : Bool) → is_label label m ≡ here → place_in ms label ≡ length ms → (if here then 0 else suc (place_in ms label)) ≡ suc (length ms)
  go true is later = absurd (not 0 (ap Some (label_is label m is)))
  go false is later = ap suc later

pub place_where : (ms : List Mark) (label place : ℕ) → ((other : ℕ) → (Some place ≡ Some other) ↔ IsLabelAt ms other label) → place_in ms label ≡ place
place_where ms label place at = let same = (at (place_in ms label)).1 (found_at ms place label ((at place).0 refl)) in cc

pub place_nowhere : (ms : List Mark) (label : ℕ) → ((other : ℕ) → (None ≡ Some other) ↔ IsLabelAt ms other label) → place_in ms label ≡ length ms
place_nowhere ms label at = behind ms label (λ place is. let none = (at place).1 is in absurd cc)

pub as_many_marks : (instrs : List Instruction) → length (marks_of instrs) ≡ length instrs
as_many_marks [] = refl
as_many_marks (i ∷ rest) = ap suc (as_many_marks rest)
