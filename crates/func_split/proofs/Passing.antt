-- The pass over code: what is kept of the marks before an instruction, and how it goes on.
use Rattle.std.proofs.Common.{◌≡◌, ℕ, suc, ◌+◌, Bool, true, false, not, cond, ◌||◌, List, [], ◌∷◌, ◌++◌, length, get_or, take, drop, ◌-◌, ◌<◌, Option, Some, None, option_map, is_some, if◌then◌else◌, subst, refl, sym, ap, ◌∙◌, arith, append_assoc}
use Rattle.std.specs.BTreeMap.{BTreeMap, get}
use Rattle.std.specs.List.{find}
use Rattle.std.specs.Ordering.{nat_cmp}
use Rattle.std.proofs.lemmas.Bool.{eqb-true}
use Rattle.std.proofs.lemmas.List.{drop_more, length-drop, take_all}
use Rattle.op_table.specs.Instruction.{Instruction}
use Rattle.func_split.specs.declared.before.Before.{Before}
use Rattle.func_split.specs.declared.before.Before.TheVariants as fronts
use Rattle.func_split.specs.declared.mark.Mark.{Mark}
use Rattle.func_split.specs.declared.mark.Mark.TheVariants as marks
use Rattle.func_split.specs.declared.refusal.FunctionWhy.{FunctionWhy}
use Rattle.func_split.specs.declared.refusal.FunctionWhy.TheVariants as whys
use Rattle.func_split.specs.declared.refusal.SplitRefusal.TheVariants as refusals
use Rattle.func_split.specs.declared.splitting.Extent.{Extent}
use Rattle.func_split.specs.Faults.{has_label, holds, is_headed, is_label, is_second, size_from}
use Rattle.func_split.specs.Reading.{extent_of, extents, fault, first_fault, or_later, own_place, place_in, with_extent}
use Rattle.func_split.specs.Marks.{mark_of, marks_of}
use Rattle.func_split.specs.Fronts.{TellsFirst, HasLabels, IsBefore, Keeps, extent_by, extent_with, is_head_in, noted, own_in, step}

-- ---- what stands before the next instruction

pub before_goes : (before : Before) (place : ℕ) (m : Mark) (back : List Mark) → IsBefore before back → IsBefore (step before place m) (m ∷ back)
before_goes (fronts.Own l) place (marks.Label n) back e = record { own = ap not e.headed; headed = refl }
before_goes fronts.Headed place (marks.Label n) back e = record { own = ap not e.headed; headed = refl }
before_goes fronts.Neither place (marks.Label n) back e = record { own = ap not e.headed; headed = refl }
before_goes (fronts.Own l) place marks.Line back e = record { own = e.own; headed = refl }
before_goes fronts.Headed place marks.Line back e = record { own = e.own; headed = refl }
before_goes fronts.Neither place marks.Line back e = record { own = e.own; headed = refl }
before_goes (fronts.Own l) place (marks.Func h) back e = record { own = refl; headed = e.own }
before_goes fronts.Headed place (marks.Func h) back e = record { own = refl; headed = e.own }
before_goes fronts.Neither place (marks.Func h) back e = record { own = refl; headed = e.own }
before_goes before place marks.Close back e = record { own = refl; headed = refl }
before_goes before place marks.Other back e = record { own = refl; headed = refl }

own_label : (before : Before) (place : ℕ) → own_in (step before place (marks.Label None)) ≡ (if is_head_in before then None else Some place)
own_label (fronts.Own l) place = refl
own_label fronts.Headed place = refl
own_label fronts.Neither place = refl

own_line : (before : Before) (place : ℕ) → own_in (step before place marks.Line) ≡ own_in before
own_line (fronts.Own l) place = refl
own_line fronts.Headed place = refl
own_line fronts.Neither place = refl

own_head : (before : Before) (place : ℕ) → own_in (step before place (marks.Func None)) ≡ None
own_head (fronts.Own l) place = refl
own_head fronts.Headed place = refl
own_head fronts.Neither place = refl

pub own_goes : (before : Before) (place : ℕ) (m : Mark) (back : List Mark) → length back ≡ place → IsBefore before back → own_in before ≡ own_place back → own_in (step before place m) ≡ own_place (m ∷ back)
own_goes before place (marks.Label n) back count e own =
    own_label before place
    ∙ ap (λ (h : Bool). if h then None else Some place) e.headed
    ∙ ap (λ (p : ℕ). if is_headed back then None else Some p) (sym count)
own_goes before place marks.Line back count e own = own_line before place ∙ own
own_goes before place (marks.Func h) back count e own = own_head before place
own_goes before place marks.Close back count e own = refl
own_goes before place marks.Other back count e own = refl

-- ---- labels

none_is : (o : Option ℕ) → is_some o ≡ false → o ≡ None
none_is None e = refl
none_is (Some x) e = absurd cc

labels_go : (places new : BTreeMap ℕ ℕ) (place : ℕ) (m : Mark) (back : List Mark) → HasLabels places back → ((n : ℕ) → get nat_cmp new n ≡ noted m place n (get nat_cmp places n)) → HasLabels new (m ∷ back)
labels_go places new place m back has is n = ap is_some (is n) ∙ go (is_label n m) (get nat_cmp places n) (has_label n back) (has n) where
  go : (b : Bool) (old : Option ℕ) (h : Bool) → is_some old ≡ h → is_some (if b then Some place else old) ≡ (b || h)
  go true old h e = refl
  go false old h e = e

-- a label is not noted where it is not among the marks before, at which nothing is wrong
pub not_noted : (places : BTreeMap ℕ ℕ) (m : Mark) (back : List Mark) → HasLabels places back → is_second back m ≡ false → (n : ℕ) → is_label n m ≡ true → get nat_cmp places n ≡ None
not_noted places (marks.Label (Some k)) back has first n e =
    let same : n ≡ k = eqb-true n k e in
    none_is (get nat_cmp places n) (has n ∙ ap (λ (j : ℕ). has_label j back) same ∙ first)
not_noted places (marks.Label None) back has first n e = absurd cc
not_noted places marks.Line back has first n e = absurd cc
not_noted places (marks.Func h) back has first n e = absurd cc
not_noted places marks.Close back has first n e = absurd cc
not_noted places marks.Other back has first n e = absurd cc

-- the place that is noted, or else the one in what stands from a place on
abbrev pub or_place : Option ℕ → ℕ → Option ℕ → Option ℕ
or_place (Some p) place later = Some p
or_place None place later = option_map (λ (q : ℕ). place + q) later

seen_goes : (b : Bool) (place : ℕ) (old later : Option ℕ) → (b ≡ true → old ≡ None) → or_place (if b then Some place else old) (suc place) later ≡ or_place old place (if b then Some 0 else option_map suc later)
seen_goes true place old later e = rw (e refl) (ap (λ (p : ℕ). Some p) (omega arith))
seen_goes false place (Some p) later e = refl
seen_goes false place None None e = refl
seen_goes false place None (Some q) e = ap (λ (p : ℕ). Some p) (omega arith)

-- ---- what is wrong

-- nothing of a list passes where none is found
find_none : {X : Type 0} (test : X → Bool) (front : List X) (x : X) (after : List X) → find test (front ++ x ∷ after) ≡ None → test x ≡ false
find_none {X = X} test [] x after e = go (test x) (find test after) e where
  go : (b : Bool) (later : Option X) → cond b (Some x) later ≡ None → b ≡ false
  go true later e = absurd cc
  go false later e = refl
find_none {X = X} test (y ∷ ys) x after e = find_none test ys x after (go (test y) (find test (ys ++ x ∷ after)) e) where
  go : (b : Bool) (later : Option X) → cond b (Some y) later ≡ None → later ≡ None
  go true later e = absurd cc
  go false later e = e

not_second : (labels : ℕ) (back : List Mark) (m : Mark) (rest : List Mark) → fault labels back m rest ≡ None → is_second back m ≡ false
not_second labels back m rest e =
    find_none (holds labels back m rest) (whys.Start ∷ whys.NoLabel ∷ whys.NoEntry ∷ whys.Shape ∷ []) whys.LabelTwice (whys.LabelRange ∷ whys.End ∷ whys.Long ∷ []) e

-- ---- functions

extent_is : (before : Before) (place : ℕ) (m : Mark) (back : List Mark) (later : List Extent) → length back ≡ place → own_in before ≡ own_place back → with_extent (extent_of back m) later ≡ extent_by before place m ++ later
extent_is before place (marks.Func (Some head)) back later count own = rw (sym own, count) (go (own_in before)) where
  go : (o : Option ℕ) → with_extent (option_map (λ (first : ℕ). record { first = first; info = place; name = head.0; arity = head.1 }) o) later ≡ extent_with o place head ++ later
  go None = refl
  go (Some first) = refl
extent_is before place (marks.Func None) back later count own = refl
extent_is before place (marks.Label n) back later count own = refl
extent_is before place marks.Line back later count own = refl
extent_is before place marks.Close back later count own = refl
extent_is before place marks.Other back later count own = refl

-- ---- the pass

-- the pass stands before `rest`, and from there on says what the whole code says
pub record Passed (labels : ℕ) (code rest : List Mark) (place : ℕ) (before : Before) (places : BTreeMap ℕ ℕ) (found : List Extent) : Type 0 where
  pub back : List Mark
  pub keeps : Keeps back place before places
  pub faults : first_fault labels back rest ≡ first_fault labels [] code
  pub found_are : found ++ extents back rest ≡ extents [] code
  pub seen : (n : ℕ) → or_place (get nat_cmp places n) place (place_in rest n) ≡ place_in code n

keeps_go : (back : List Mark) (place : ℕ) (before : Before) (places new : BTreeMap ℕ ℕ) (m : Mark) → ((n : ℕ) → get nat_cmp new n ≡ noted m place n (get nat_cmp places n)) → Keeps back place before places → Keeps (m ∷ back) (suc place) (step before place m) new
keeps_go back place before places new m is k = record {
  count = ap suc k.count;
  is_before = before_goes before place m back k.is_before;
  own = own_goes before place m back k.count k.is_before k.own;
  labels = labels_go places new place m back k.labels is;
}

pub passed_more : (labels : ℕ) (code : List Mark) (m : Mark) (rest : List Mark) (place : ℕ) (before : Before) (places new : BTreeMap ℕ ℕ) (found : List Extent) → (p : Passed labels code (m ∷ rest) place before places found) → fault labels p.back m rest ≡ None → ((n : ℕ) → get nat_cmp new n ≡ noted m place n (get nat_cmp places n)) → Passed labels code rest (suc place) (step before place m) new (found ++ extent_by before place m)
passed_more labels code m rest place before places new found p none is =
    let k = p.keeps in
    let first = not_second labels p.back m rest none in
    record {
      back = m ∷ p.back;
      keeps = keeps_go p.back place before places new m is k;
      faults = sym (ap (λ (w : Option FunctionWhy). or_later (length p.back) w (first_fault labels (m ∷ p.back) rest)) none) ∙ p.faults;
      found_are =
          append_assoc found (extent_by before place m) (extents (m ∷ p.back) rest)
          ∙ ap (λ (es : List Extent). found ++ es) (sym (extent_is before place m p.back (extents (m ∷ p.back) rest) k.count k.own))
          ∙ p.found_are;
      seen =
          λ n.
          ap (λ (o : Option ℕ). or_place o (suc place) (place_in rest n)) (is n)
          ∙ seen_goes (is_label n m) place (get nat_cmp places n) (place_in rest n) (not_noted places m p.back k.labels first n)
          ∙ p.seen n;
    }

pub passed_told : (labels : ℕ) (code : List Mark) (m : Mark) (rest : List Mark) (place : ℕ) (before : Before) (places : BTreeMap ℕ ℕ) (found : List Extent) (why : FunctionWhy) → (p : Passed labels code (m ∷ rest) place before places found) → fault labels p.back m rest ≡ Some why → TellsFirst labels code (refusals.Functions place why)
passed_told labels code m rest place before places found why p is =
    let told : Option (ℕ × FunctionWhy) = Some (place, why) in
    let first : first_fault labels [] code ≡ told =
    sym p.faults
    ∙ ap (λ (w : Option FunctionWhy). or_later (length p.back) w (first_fault labels (m ∷ p.back) rest)) is
    ∙ ap (λ (n : ℕ). or_later n (Some why) None) p.keeps.count in
    ((place, why), first, refl)

-- the marks from the place of an instruction on
marks_from : (instrs : List Instruction) (place : ℕ) (x : Instruction) (m : Mark) → place < length instrs → x ≡ get_or instrs place x → m ≡ mark_of x → marks_of (drop place instrs) ≡ m ∷ marks_of (drop (place + 1) instrs)
marks_from instrs place x m within is mark =
    ap marks_of (drop_more instrs place x within)
    ∙ ap (λ (y : Instruction). mark_of y ∷ marks_of (drop (place + 1) instrs)) (sym is)
    ∙ ap (λ (n : Mark). n ∷ marks_of (drop (place + 1) instrs)) (sym mark)

-- the slice behind a place
behind_is : (instrs : List Instruction) (place : ℕ) → marks_of (take (length instrs - (place + 1)) (drop (place + 1) instrs)) ≡ marks_of (drop (place + 1) instrs)
behind_is instrs place =
    let count = length-drop (place + 1) instrs in
    ap marks_of (take_all (length instrs - (place + 1)) (drop (place + 1) instrs) (omega (arith, count)))

-- a step of the pass at an instruction, whose answer on what is wrong speaks of each front that fits
pub record AtInstr (labels : ℕ) (instrs : List Instruction) (place : ℕ) (before : Before) (places : BTreeMap ℕ ℕ) (found : List Extent) (m : Mark) (told : Option FunctionWhy) : Type 0 where
  pub passed : Passed labels (marks_of instrs) (m ∷ marks_of (drop (place + 1) instrs)) place before places found
  pub told_is : told ≡ fault labels passed.back m (marks_of (drop (place + 1) instrs))

pub step_is : (labels : ℕ) (instrs : List Instruction) (place : ℕ) (before : Before) (places : BTreeMap ℕ ℕ) (found : List Extent) (x : Instruction) (m : Mark) (told : Option FunctionWhy)
    → place < length instrs → x ≡ get_or instrs place x → m ≡ mark_of x
    → Passed labels (marks_of instrs) (marks_of (drop place instrs)) place before places found
    → ((back : List Mark) → Keeps back place before places → told ≡ fault labels back m (marks_of (take (length instrs - (place + 1)) (drop (place + 1) instrs))))
    → AtInstr labels instrs place before places found m told
step_is labels instrs place before places found x m told within is mark passed tells =
    let p = subst (λ (ms : List Mark). Passed labels (marks_of instrs) ms place before places found) (marks_from instrs place x m within is mark) passed in
    record { passed = p; told_is = tells p.back p.keeps ∙ ap (λ (ms : List Mark). fault labels p.back m ms) (behind_is instrs place) }

-- ---- how many instructions there are up to the next function

-- looking on stands before `rest`, and from there on the size is what is missing
pub record Looked (total : ℕ) (rest : List Mark) (place : ℕ) (before : Before) : Type 0 where
  pub back : List Mark
  pub is_before : IsBefore before back
  pub size : place + size_from back rest ≡ total
