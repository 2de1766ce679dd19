-- What is told of code is what is wrong at the first place where something is wrong.
use Rattle.std.proofs.Common.{◌≡◌, ℕ, suc, ◌<◌, ◌≤◌, Bool, true, false, Option, Some, None, List, [], ◌∷◌, ◌++◌, length, find, refl, sym, ap, subst, ◌∙◌, arith, inl, inr}
use Rattle.std.specs.List.{AllByRecursion}
use Rattle.std.proofs.lemmas.Bool.{false_from_ne_true}
use Rattle.std.proofs.lemmas.Option.{same_Some, some_pair_parts}
use Rattle.bk_codec.proofs.Steps.{chosen}
use Rattle.func_split.specs.declared.mark.Mark.{Mark}
use Rattle.func_split.specs.declared.refusal.FunctionWhy.{FunctionWhy}
use Rattle.func_split.specs.declared.refusal.FunctionWhy.TheVariants as whys
use Rattle.func_split.specs.Faults.{onto, holds, order, Around, HoldsAt, IsFirst, IsSound}
use Rattle.func_split.specs.Reading.{fault, or_later, first_fault}

-- ---- what is told of one place

-- the first of a list that a test takes
record Finds (test : FunctionWhy → Bool) (whys : List FunctionWhy) (why : FunctionWhy) : Type 0 where
  front : List FunctionWhy
  after : List FunctionWhy
  ordered : whys ≡ front ++ why ∷ after
  not_before : AllByRecursion (λ other. test other ≡ false) front
  is : test why ≡ true

found_first : (test : FunctionWhy → Bool) (whys : List FunctionWhy) (why : FunctionWhy) → find test whys ≡ Some why → Finds test whys why
found_first test [] why e = absurd cc
found_first test (w ∷ whys) why e =
    elim (chosen (test w) (Some w) (find test whys) (Some why) e) [
      | inl here ↦
          let same : w ≡ why = same_Some w why here.1 in
          record { front = []; after = whys; ordered = ap (λ (x : FunctionWhy). x ∷ whys) same; not_before = tt; is = subst (λ (x : FunctionWhy). test x ≡ true) same here.0 }
      | inr later ↦
          let f = found_first test whys why later.1 in
          record { front = w ∷ f.front; after = f.after; ordered = ap (λ (l : List FunctionWhy). w ∷ l) f.ordered; not_before = (later.0, f.not_before); is = f.is }
    ]

finds_first : (test : FunctionWhy → Bool) (front after : List FunctionWhy) (why : FunctionWhy) → AllByRecursion (λ other. test other ≡ false) front → test why ≡ true → find test (front ++ why ∷ after) ≡ Some why
finds_first test [] after why none t = rw t
finds_first test (w ∷ front) after why none t = rw none.0 (finds_first test front after why none.1 t)

pub finds_none : (test : FunctionWhy → Bool) (whys : List FunctionWhy) → ((why : FunctionWhy) → test why ≡ false) → find test whys ≡ None
finds_none test [] none = refl
finds_none test (w ∷ whys) none = rw (none w) (finds_none test whys none)

found_none : (test : FunctionWhy → Bool) (whys : List FunctionWhy) → find test whys ≡ None → AllByRecursion (λ other. test other ≡ false) whys
found_none test [] e = tt
found_none test (w ∷ whys) e =
    elim (chosen (test w) (Some w) (find test whys) None e) [
      | inl here ↦ let wrong = here.1 in absurd cc
      | inr later ↦ (later.0, found_none test whys later.1)
    ]

-- where nothing is told of a place, nothing is wrong there
pub quiet : (labels : ℕ) (back : List Mark) (m : Mark) (rest : List Mark) → fault labels back m rest ≡ None → (why : FunctionWhy) → holds labels back m rest why ≡ false
quiet labels back m rest e why = by why (found_none (holds labels back m rest) order e)
  where
    by : (why : FunctionWhy) → AllByRecursion (λ other. holds labels back m rest other ≡ false) order → holds labels back m rest why ≡ false
    by whys.Start none = none.0
    by whys.NoLabel none = none.1.0
    by whys.NoEntry none = none.1.1.0
    by whys.Shape none = none.1.1.1.0
    by whys.LabelTwice none = none.1.1.1.1.0
    by whys.LabelRange none = none.1.1.1.1.1.0
    by whys.End none = none.1.1.1.1.1.1.0
    by whys.Long none = none.1.1.1.1.1.1.1.0
    by whys.Count none = refl

-- ---- the walk

pub later_none : (place : ℕ) (o : Option FunctionWhy) (later : Option (ℕ × FunctionWhy)) → or_later place o later ≡ None → (o ≡ None) × (later ≡ None)
later_none place (Some why) later e = absurd cc
later_none place None later e = (refl, e)

none_from : (labels : ℕ) (back rest : List Mark) → first_fault labels [] (onto back rest) ≡ None → first_fault labels back rest ≡ None
none_from labels [] rest e = e
none_from labels (m ∷ back) rest e = (later_none (length back) (fault labels back m rest) (first_fault labels (m ∷ back) rest) (none_from labels back (m ∷ rest) e)).1

-- where nothing is told, nothing is wrong
pub none_sound : (labels : ℕ) (code : List Mark) → first_fault labels [] code ≡ None → IsSound labels code
none_sound labels code e place why h =
    let a = h.0 in
    let here : first_fault labels a.back (a.mark ∷ a.rest) ≡ None = none_from labels a.back (a.mark ∷ a.rest) (ap (first_fault labels []) a.joined ∙ e) in
    let no : holds labels a.back a.mark a.rest why ≡ false = quiet labels a.back a.mark a.rest (later_none (length a.back) (fault labels a.back a.mark a.rest) (first_fault labels (a.mark ∷ a.back) a.rest) here).0 why in
    let yes : holds labels a.back a.mark a.rest why ≡ true = h.1 in
    cc

-- where what is told stands
record Told (labels : ℕ) (code : List Mark) (place : ℕ) (why : FunctionWhy) : Type 0 where
  around : Around code place
  is : fault labels around.back around.mark around.rest ≡ Some why

told_here : (labels : ℕ) (back : List Mark) (m : Mark) (rest : List Mark) (place : ℕ) (why : FunctionWhy) (o : Option FunctionWhy) → fault labels back m rest ≡ o → or_later (length back) o (first_fault labels (m ∷ back) rest) ≡ Some (place, why)
    → (first_fault labels (m ∷ back) rest ≡ Some (place, why) → (length (m ∷ back) ≤ place) × Told labels (onto (m ∷ back) rest) place why)
    → (length back ≤ place) × Told labels (onto back (m ∷ rest)) place why
told_here labels back m rest place why (Some w) here e later =
    let same = some_pair_parts (length back) place w why e in
    let at : length back ≡ place = same.0 in
    (omega arith, record { around = record { back = back; mark = m; rest = rest; joined = refl; place_is = at }; is = here ∙ ap (λ (x : FunctionWhy). Some x) same.1 })
told_here labels back m rest place why None here e later = let t = later e in let far : suc (length back) ≤ place = t.0 in (omega arith, t.1)

told : (labels : ℕ) (back rest : List Mark) (place : ℕ) (why : FunctionWhy) → first_fault labels back rest ≡ Some (place, why) → (length back ≤ place) × Told labels (onto back rest) place why
told labels back [] place why e = absurd cc
told labels back (m ∷ rest) place why e = told_here labels back m rest place why (fault labels back m rest) refl e (told labels (m ∷ back) rest place why)

-- what is told behind a place that is not behind it
some_from : (labels : ℕ) (back rest : List Mark) (place : ℕ) (why : FunctionWhy) → first_fault labels [] (onto back rest) ≡ Some (place, why) → length back ≤ place → first_fault labels back rest ≡ Some (place, why)
some_from labels [] rest place why e le = e
some_from labels (m ∷ back) rest place why e le = by (fault labels back m rest) (some_from labels back (m ∷ rest) place why e (omega arith))
  where
    by : (o : Option FunctionWhy) → or_later (length back) o (first_fault labels (m ∷ back) rest) ≡ Some (place, why) → first_fault labels (m ∷ back) rest ≡ Some (place, why)
    by (Some w) e = let at : length back ≡ place = (some_pair_parts (length back) place w why e).0 in absurd (omega arith)
    by None e = e

-- before what is told nothing is
not_earlier : (labels : ℕ) (code : List Mark) (place : ℕ) (why : FunctionWhy) → first_fault labels [] code ≡ Some (place, why) → (before : ℕ) (other : FunctionWhy) → before < place → HoldsAt labels code before other → ⊥
not_earlier labels code place why e before other lt h =
    let a = h.0 in
    let is : length a.back ≡ before = a.place_is in
    let here : first_fault labels a.back (a.mark ∷ a.rest) ≡ Some (place, why) = some_from labels a.back (a.mark ∷ a.rest) place why (ap (first_fault labels []) a.joined ∙ e) (omega arith) in
    let no : holds labels a.back a.mark a.rest other ≡ false = quiet labels a.back a.mark a.rest (by (fault labels a.back a.mark a.rest) (first_fault labels (a.mark ∷ a.back) a.rest) (length a.back) (omega arith) here) other in
    let yes : holds labels a.back a.mark a.rest other ≡ true = h.1 in
    cc
  where
    by : (o : Option FunctionWhy) (later : Option (ℕ × FunctionWhy)) (at : ℕ) → at < place → or_later at o later ≡ Some (place, why) → o ≡ None
    by (Some w) later at lt e = let same : at ≡ place = (some_pair_parts at place w why e).0 in absurd (omega arith)
    by None later at lt e = refl

-- a place of code has one front and one rest
same_place : (back other rest behind : List Mark) → length back ≡ length other → onto back rest ≡ onto other behind → (back ≡ other) × (rest ≡ behind)
same_place [] [] rest behind long e = (refl, e)
same_place [] (m ∷ other) rest behind long e = absurd (omega arith)
same_place (m ∷ back) [] rest behind long e = absurd (omega arith)
same_place (m ∷ back) (n ∷ other) rest behind long e =
    let ih = same_place back other (m ∷ rest) (n ∷ behind) (omega arith) e in
    let fronts : back ≡ other = ih.0 in
    let tails : m ∷ rest ≡ n ∷ behind = ih.1 in
    let marks_are : m ≡ n = cc in
    let rests : rest ≡ behind = cc in
    (cc, rests)

-- what is wrong at a place is wrong however it is taken
same_holds : (labels : ℕ) (code : List Mark) (place : ℕ) (a b : Around code place) (why : FunctionWhy) → holds labels a.back a.mark a.rest why ≡ holds labels b.back b.mark b.rest why
same_holds labels code place a b why =
    let at : length a.back ≡ place = a.place_is in
    let there : length b.back ≡ place = b.place_is in
    let same = same_place a.back b.back (a.mark ∷ a.rest) (b.mark ∷ b.rest) (omega arith) (a.joined ∙ sym b.joined) in
    let fronts : a.back ≡ b.back = same.0 in
    let tails : a.mark ∷ a.rest ≡ b.mark ∷ b.rest = same.1 in
    let marks_are : a.mark ≡ b.mark = cc in
    let rests : a.rest ≡ b.rest = cc in
    cc

-- what is told is the first
pub some_first : (labels : ℕ) (code : List Mark) (place : ℕ) (why : FunctionWhy) → first_fault labels [] code ≡ Some (place, why) → IsFirst labels code place why
some_first labels code place why e =
    let t = (told labels [] code place why e).1 in
    let a = t.around in
    let f = found_first (holds labels a.back a.mark a.rest) order why t.is in
    record {
      is = (a, f.is);
      earlier = not_earlier labels code place why e;
      front = f.front;
      after = f.after;
      ordered = f.ordered;
      not_before = none a f.front f.not_before;
    }
  where
    none : (a : Around code place) (front : List FunctionWhy) → AllByRecursion (λ other. holds labels a.back a.mark a.rest other ≡ false) front → AllByRecursion (λ other. HoldsAt labels code place other → ⊥) front
    none a [] all = tt
    none a (w ∷ front) all = (λ h. let same = same_holds labels code place a h.0 w in let no = all.0 in let yes = h.1 in absurd cc, none a front all.1)

-- the first is told
pub first_some : (labels : ℕ) (code : List Mark) (place : ℕ) (why : FunctionWhy) → IsFirst labels code place why → first_fault labels [] code ≡ Some (place, why)
first_some labels code place why f =
    let a = f.is.0 in
    let here = ap (find (holds labels a.back a.mark a.rest)) f.ordered ∙ finds_first (holds labels a.back a.mark a.rest) f.front f.after why (none a f.front f.not_before) f.is.1 in
    let at : length a.back ≡ place = a.place_is in
    let first : first_fault labels a.back (a.mark ∷ a.rest) ≡ Some (place, why) = ap (λ (o : Option FunctionWhy). or_later (length a.back) o (first_fault labels (a.mark ∷ a.back) a.rest)) here ∙ ap (λ (n : ℕ). Some (n, why)) at in
    ap (first_fault labels []) (sym a.joined) ∙ from a.back (a.mark ∷ a.rest) (omega arith) a.joined first
  where
    none : (a : Around code place) (front : List FunctionWhy) → AllByRecursion (λ other. HoldsAt labels code place other → ⊥) front → AllByRecursion (λ other. holds labels a.back a.mark a.rest other ≡ false) front
    none a [] all = tt
    none a (w ∷ front) all = (false_from_ne_true (holds labels a.back a.mark a.rest w) (λ yes. all.0 (a, yes)), none a front all.1)

    from : (back rest : List Mark) → length back ≤ place → onto back rest ≡ code → first_fault labels back rest ≡ Some (place, why) → first_fault labels [] (onto back rest) ≡ Some (place, why)
    from [] rest le joined e = e
    from (m ∷ back) rest le joined e =
        from back (m ∷ rest) (omega arith) joined (rw (finds_none (holds labels back m rest) order no) e)
      where
        no : (why : FunctionWhy) → holds labels back m rest why ≡ false
        no why = false_from_ne_true (holds labels back m rest why) (λ yes. f.earlier (length back) why (omega arith) (record { back = back; mark = m; rest = rest; joined = joined; place_is = refl }, yes))

-- where nothing is wrong, nothing is told
pub sound_none : (labels : ℕ) (code : List Mark) → IsSound labels code → first_fault labels [] code ≡ None
sound_none labels code sound = by (first_fault labels [] code) refl
  where
    by : (o : Option (ℕ × FunctionWhy)) → first_fault labels [] code ≡ o → first_fault labels [] code ≡ None
    by (Some t) e = absurd (sound t.0 t.1 (some_first labels code t.0 t.1 e).is)
    by None e = e
