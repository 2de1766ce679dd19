-- Where the labels of split code stand.
use Rattle.std.proofs.Common.{◌≡◌, ◌↔◌, ℕ, zero, suc, ◌+◌, ◌<◌, Bool, true, false, ◌⊎◌, inl, inr, if◌then◌else◌, List, [], ◌∷◌, length, Option, Some, None, refl, sym, ap, subst, ◌∙◌, arith}
use Rattle.std.specs.BTreeMap.{BTreeMap, get}
use Rattle.std.specs.Ordering.{nat_cmp}
use Rattle.std.specs.Option.{option_map}
use Rattle.std.proofs.lemmas.Bool.{eq-eqb}
use Rattle.std.proofs.lemmas.Option.{none-some, same_Some}
use Rattle.op_table.specs.Instruction.{Instruction}
use Rattle.func_split.specs.declared.mark.Mark.{Mark}
use Rattle.func_split.specs.declared.mark.Mark.TheVariants as marks
use Rattle.func_split.specs.Marks.{marks_of, IsLabelAt}
use Rattle.func_split.specs.Functions.{Piece, IsSplit}
use Rattle.func_split.specs.Faults.{is_label}
use Rattle.func_split.specs.Reading.{place_in}
use Rattle.func_split.proofs.LabelPlaces.{label_is}
use Rattle.func_split.proofs.Standing.{Stands, inside}

is_label-own : (number : ℕ) (m : Mark) → m ≡ marks.Label (Some number) → is_label number m ≡ true
is_label-own number m e = ap (is_label number) e ∙ eq-eqb number number refl

-- the label is this one, or it stands behind
or_behind : (b : Bool) (o : Option ℕ) (place : ℕ) → (if b then Some 0 else option_map suc o) ≡ Some place → ((b ≡ true) × (0 ≡ place)) ⊎ ((later : ℕ) × (o ≡ Some later) × (suc later ≡ place))
or_behind true o place e = inl (refl, same_Some 0 place e)
or_behind false None place e = absurd (none-some place e)
or_behind false (Some later) place e = inr (later, refl, same_Some (suc later) place e)

pub place_is : (ms : List Mark) (number place : ℕ) → place_in ms number ≡ Some place → IsLabelAt ms place number
place_is [] number place e = absurd (none-some place e)
place_is (m ∷ ms) number place e = go (λ later is. place_is ms number later is) (or_behind (is_label number m) (place_in ms number) place e)
  where
    go : ((later : ℕ) → place_in ms number ≡ Some later → IsLabelAt ms later number) → ((is_label number m ≡ true) × (0 ≡ place)) ⊎ ((later : ℕ) × (place_in ms number ≡ Some later) × (suc later ≡ place)) → IsLabelAt (m ∷ ms) place number
    go again (inl here) = subst (λ (n : ℕ). IsLabelAt (m ∷ ms) n number) here.1 (ap (λ (x : Mark). Some x) (label_is number m here.0))
    go again (inr behind) = subst (λ (n : ℕ). IsLabelAt (m ∷ ms) n number) behind.2 (again behind.0 behind.1)

-- a label that stands somewhere has a place
has_place : (ms : List Mark) (number place : ℕ) → IsLabelAt ms place number → (first : ℕ) × (place_in ms number ≡ Some first)
has_place [] number place at = absurd (none-some (marks.Label (Some number)) at)
has_place (m ∷ ms) number zero at =
    let own = is_label-own number m (same_Some m (marks.Label (Some number)) at) in
    (0, ap (λ (b : Bool). if b then Some 0 else option_map suc (place_in ms number)) own)
has_place (m ∷ ms) number (suc place) at = go (is_label number m) (has_place ms number place at)
  where
    go : (b : Bool) → (first : ℕ) × (place_in ms number ≡ Some first) → (first : ℕ) × ((if b then Some 0 else option_map suc (place_in ms number)) ≡ Some first)
    go true later = (0, refl)
    go false later = (suc later.0, ap (option_map suc) later.1)

pub known : (ms : List Mark) → ((place other number : ℕ) → IsLabelAt ms place number → IsLabelAt ms other number → place ≡ other) → (number place : ℕ) → IsLabelAt ms place number → place_in ms number ≡ Some place
known ms once number place at =
    let found = has_place ms number place at in
    found.1 ∙ ap (λ (n : ℕ). Some n) (once found.0 place number (place_is ms number found.0 found.1) at)

pub labels_inside : (labels : ℕ) (code : List Instruction) (fs : List Piece) (places : BTreeMap ℕ ℕ) → IsSplit labels code fs → ((number : ℕ) → get nat_cmp places number ≡ place_in (marks_of code) number) → (f : Piece) → Stands 0 code f
    → (label place : ℕ) → place < length f.instrs → (get nat_cmp places label ≡ Some (f.first + place)) ↔ IsLabelAt (marks_of f.instrs) place label
labels_inside labels code fs places split are f stands label place below =
    let same = inside 0 code f stands place (f.first + place) below (omega arith) in (
      (λ e. sym same ∙ place_is (marks_of code) label (f.first + place) (sym (are label) ∙ e)),
      (λ at. are label ∙ known (marks_of code) split.once label (f.first + place) (same ∙ at)),
    )
