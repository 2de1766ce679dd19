-- Labels of a function, and entries of functions: what the tests tell, and what the methods that find them answer.
use Rattle.std.proofs.Common.{◌≡◌, ◌↔◌, ℕ, zero, suc, ◌==◌, Bool, true, false, ◌||◌, List, [], ◌∷◌, Option, Some, None, slice_get, refl, sym, ap, ◌∙◌, inl, inr, eq-eqb, eqb-true}
use Rattle.std.specs.List.{list_any}
use Rattle.std.specs.Option.{is_some}
use Rattle.std.proofs.lemmas.Bool.{and_from, and_parts, or_left, or_right, false_from_ne_true, cases_Bool}
use Rattle.std.proofs.lemmas.Option.{none-some, same_Some}
use Rattle.func_split.specs.declared.mark.Mark.{Mark}
use Rattle.func_split.specs.declared.mark.Mark.TheVariants as marks
use Rattle.func_split.specs.Marks.{IsLabelAt, marks_of}
use Rattle.func_split.specs.Faults.{has_label, is_label}
use Rattle.func_split.specs.Functions.{Piece, IsEntry}
use Rattle.code_faults.specs.Naming.{is_label_of, is_entered}

label_is : (label : ℕ) (m : Mark) → is_label label m ≡ true → m ≡ marks.Label (Some label)
label_is label (marks.Label (Some other)) e = ap (λ (n : ℕ). marks.Label (Some n)) (sym (eqb-true label other e))
label_is label (marks.Label None) e = absurd cc
label_is label marks.Line e = absurd cc
label_is label (marks.Func head) e = absurd cc
label_is label marks.Close e = absurd cc
label_is label marks.Other e = absurd cc

is_itself : (label : ℕ) (m : Mark) → Some m ≡ Some (marks.Label (Some label)) → is_label label m ≡ true
is_itself label m e = ap (is_label label) (same_Some m (marks.Label (Some label)) e) ∙ eq-eqb label label refl

-- ---- labels of a function

stands : (label : ℕ) (ms : List Mark) → has_label label ms ≡ true → (place : ℕ) × IsLabelAt ms place label
stands label [] e = absurd cc
stands label (m ∷ ms) e = by (is_label label m) refl e (stands label ms)
  where
    by : (b : Bool) → is_label label m ≡ b → (b || has_label label ms) ≡ true → (has_label label ms ≡ true → (place : ℕ) × IsLabelAt ms place label) → (place : ℕ) × IsLabelAt (m ∷ ms) place label
    by true is e later = (0, ap (λ (x : Mark). Some x) (label_is label m is))
    by false is e later = let l = later e in (suc l.0, l.1)

found : (label : ℕ) (ms : List Mark) (place : ℕ) → IsLabelAt ms place label → has_label label ms ≡ true
found label [] place at = absurd (none-some (marks.Label (Some label)) at)
found label (m ∷ ms) zero at = or_left (is_label label m) (has_label label ms) (is_itself label m at)
found label (m ∷ ms) (suc place) at = or_right (is_label label m) (has_label label ms) (found label ms place at)

pub own_label : (label : ℕ) (ms : List Mark) (place : Option ℕ) → ((k : ℕ) → (place ≡ Some k) ↔ IsLabelAt ms k label) → is_some place ≡ has_label label ms
own_label label ms (Some k) at = sym (found label ms k ((at k).0 refl))
own_label label ms None at = sym (false_from_ne_true (has_label label ms) (λ e. let l = stands label ms e in none-some l.0 ((at l.0).1 l.1)))

-- ---- entries of functions

entry_label : (label : ℕ) (m : Option Mark) → is_label_of label m ≡ true → m ≡ Some (marks.Label (Some label))
entry_label label (Some m) e = ap (λ (x : Mark). Some x) (label_is label m e)
entry_label label None e = absurd cc

is_entry_label : (label : ℕ) (m : Option Mark) → m ≡ Some (marks.Label (Some label)) → is_label_of label m ≡ true
is_entry_label label (Some m) e = is_itself label m e
is_entry_label label None e = absurd (none-some (marks.Label (Some label)) e)

pub entry_from : (fs : List Piece) (label arity : ℕ) → list_any (is_entered label arity) fs ≡ true → IsEntry fs label arity
entry_from [] label arity e = absurd cc
entry_from (f ∷ fs) label arity e = by (is_entered label arity f) refl e (entry_from fs label arity)
  where
    by : (b : Bool) → is_entered label arity f ≡ b → (b || list_any (is_entered label arity) fs) ≡ true → (list_any (is_entered label arity) fs ≡ true → IsEntry fs label arity) → IsEntry (f ∷ fs) label arity
    by true is e later =
        let parts = and_parts _ _ is in
        record { number = 0; function = f; is_there = refl; stands = entry_label label (slice_get (marks_of f.instrs) f.entry) parts.0; arity_is = eqb-true f.arity arity parts.1 }
    by false is e later = let l = later e in record { number = suc l.number; function = l.function; is_there = l.is_there; stands = l.stands; arity_is = l.arity_is }

any_at : (q : Piece → Bool) (fs : List Piece) (k : ℕ) (f : Piece) → slice_get fs k ≡ Some f → q f ≡ true → list_any q fs ≡ true
any_at q [] k f at is = absurd (none-some f at)
any_at q (g ∷ fs) zero f at is = or_left (q g) (list_any q fs) (ap q (same_Some g f at) ∙ is)
any_at q (g ∷ fs) (suc k) f at is = or_right (q g) (list_any q fs) (any_at q fs k f at is)

entered : (fs : List Piece) (label arity : ℕ) → IsEntry fs label arity → list_any (is_entered label arity) fs ≡ true
entered fs label arity is =
    let f = is.function in
    let here = and_from (is_label_of label (slice_get (marks_of f.instrs) f.entry)) (f.arity == arity) (is_entry_label label (slice_get (marks_of f.instrs) f.entry) is.stands) (eq-eqb f.arity arity is.arity_is) in
    any_at (is_entered label arity) fs is.number f is.is_there here

-- what is found at a label is its arity
abbrev Answers : List Piece → ℕ → Option ℕ → Type 0
Answers fs label found = (n : ℕ) → (found ≡ Some n) ↔ IsEntry fs label n

pub no_target : (fs : List Piece) (label arity : ℕ) (found : Option ℕ) → Answers fs label found → found ≡ None → false ≡ list_any (is_entered label arity) fs
no_target fs label arity found answers none = sym (false_from_ne_true (list_any (is_entered label arity) fs) (λ e. none-some arity (sym none ∙ (answers arity).1 (entry_from fs label arity e))))

no_both : (b : Bool) → b ≡ true → b ≡ false → ⊥
no_both b is isnt = cc

pub target : (fs : List Piece) (label arity own : ℕ) (found : Option ℕ) → Answers fs label found → found ≡ Some own → (own == arity) ≡ list_any (is_entered label arity) fs
target fs label arity own found answers some =
    elim (cases_Bool (own == arity)) [
      | inl same ↦ same ∙ sym (entered fs label arity ((answers arity).0 (some ∙ ap (λ (n : ℕ). Some n) (eqb-true own arity same))))
      | inr other ↦ other ∙ sym (false_from_ne_true (list_any (is_entered label arity) fs) (λ e. no_both (own == arity) (eq-eqb own arity (same_Some own arity (sym some ∙ (answers arity).1 (entry_from fs label arity e)))) other))
    ]
