-- Where labels stand, told by the marks before and behind a place.
use Rattle.std.proofs.Common.{◌≡◌, ℕ, zero, suc, ◌+◌, ◌<◌, Bool, true, false, ◌||◌, Some, None, List, [], ◌∷◌, length, slice_get, ◌==◌, nat_le, refl, sym, ap, subst, ◌∙◌, arith, inl, inr, eq-eqb, eqb-true}
use Rattle.std.proofs.lemmas.Bool.{cases_eq, cases_lt, or_parts, or_left, or_right, false_from_ne_true, leb-false, eqb-false, lt-leb, ne_eqb}
use Rattle.std.proofs.lemmas.Option.{same_Some}
use Rattle.func_split.specs.declared.mark.Mark.{Mark}
use Rattle.func_split.specs.declared.mark.Mark.TheVariants as marks
use Rattle.func_split.specs.declared.refusal.FunctionWhy.TheVariants as whys
use Rattle.func_split.specs.Marks.{IsLabelAt}
use Rattle.func_split.specs.Faults.{onto, has_label, is_label, is_out_of_range, is_second, Around, IsSound}

pub onto_at : (back rest : List Mark) (k : ℕ) → slice_get (onto back rest) (length back + k) ≡ slice_get rest k
onto_at [] rest k = let at : zero + k ≡ k = omega arith in ap (slice_get rest) at
onto_at (m ∷ back) rest k = let at : length (m ∷ back) + k ≡ length back + suc k = omega arith in ap (slice_get (onto back (m ∷ rest))) at ∙ onto_at back (m ∷ rest) (suc k)

pub onto_here : (back : List Mark) (m : Mark) (rest : List Mark) → slice_get (onto back (m ∷ rest)) (length back) ≡ Some m
onto_here back m rest = let at : length back ≡ length back + 0 = omega arith in ap (slice_get (onto back (m ∷ rest))) at ∙ onto_at back (m ∷ rest) 0

pub label_is : (number : ℕ) (m : Mark) → is_label number m ≡ true → m ≡ marks.Label (Some number)
label_is number (marks.Label (Some other)) e = ap (λ (n : ℕ). marks.Label (Some n)) (sym (eqb-true number other e))
label_is number (marks.Label None) e = absurd cc
label_is number marks.Line e = absurd cc
label_is number (marks.Func head) e = absurd cc
label_is number marks.Close e = absurd cc
label_is number marks.Other e = absurd cc

-- a label among the marks before a place
pub label_stands : (number : ℕ) (back rest : List Mark) → has_label number back ≡ true → (place : ℕ) × (place < length back) × IsLabelAt (onto back rest) place number
label_stands number [] rest e = absurd cc
label_stands number (m ∷ back) rest e = by (is_label number m) refl e (label_stands number back (m ∷ rest))
  where
    by : (b : Bool) → is_label number m ≡ b → (b || has_label number back) ≡ true
        → (has_label number back ≡ true → (place : ℕ) × (place < length back) × IsLabelAt (onto back (m ∷ rest)) place number)
        → (place : ℕ) × (place < length (m ∷ back)) × IsLabelAt (onto back (m ∷ rest)) place number
    by true is e earlier = (length back, omega arith, onto_here back m rest ∙ ap (λ (x : Mark). Some x) (label_is number m is))
    by false is e earlier = let l = earlier e in let lt : l.0 < length back = l.1 in (l.0, omega arith, l.2)

pub label_before : (number : ℕ) (back rest : List Mark) (place : ℕ) → place < length back → IsLabelAt (onto back rest) place number → has_label number back ≡ true
label_before number [] rest place lt at = absurd (omega arith)
label_before number (m ∷ back) rest place lt at =
    elim (cases_eq place (length back)) [
      | inl same ↦
          let here : m ≡ marks.Label (Some number) = same_Some m (marks.Label (Some number)) (sym (onto_here back m rest) ∙ ap (slice_get (onto back (m ∷ rest))) (sym same) ∙ at) in
          or_left (is_label number m) (has_label number back) (ap (is_label number) here ∙ eq-eqb number number refl)
      | inr other ↦ or_right (is_label number m) (has_label number back) (label_before number back (m ∷ rest) place (omega arith) at)
    ]

-- ---- labels that are new and in range, one behind another

abbrev pub AreNew : ℕ → List Mark → List Mark → Type 0
AreNew labels back [] = Unit {0}
AreNew labels back (m ∷ rest) = (is_second back m ≡ false) × (is_out_of_range labels m ≡ false) × AreNew labels (m ∷ back) rest

module _ (labels : ℕ) (code : List Mark) (range : (place number : ℕ) → IsLabelAt code place number → (0 < number) × (number < labels)) (once : (place other number : ℕ) → IsLabelAt code place number → IsLabelAt code other number → place ≡ other) where
  new_here : (back : List Mark) (m : Mark) (rest : List Mark) → onto back (m ∷ rest) ≡ code → (is_second back m ≡ false) × (is_out_of_range labels m ≡ false)
  new_here back (marks.Label (Some number)) rest joined =
      let here : IsLabelAt code (length back) number = ap (λ (c : List Mark). slice_get c (length back)) (sym joined) ∙ onto_here back (marks.Label (Some number)) rest in (
        false_from_ne_true (has_label number back) (λ e.
            let l = label_stands number back (marks.Label (Some number) ∷ rest) e in
            let lt : l.0 < length back = l.1 in
            let same : l.0 ≡ length back = once l.0 (length back) number (subst (λ (c : List Mark). IsLabelAt c l.0 number) joined l.2) here in
            omega arith),
        in_range number (range (length back) number here),
      )
    where
      in_range : (number : ℕ) → (0 < number) × (number < labels) → (number == 0 || nat_le labels number) ≡ false
      in_range number r = let low = r.0 in let high = r.1 in rw (ne_eqb number 0 (omega arith), lt-leb labels number high)
  new_here back (marks.Label None) rest joined = (refl, refl)
  new_here back marks.Line rest joined = (refl, refl)
  new_here back (marks.Func head) rest joined = (refl, refl)
  new_here back marks.Close rest joined = (refl, refl)
  new_here back marks.Other rest joined = (refl, refl)

  pub are_new : (back rest : List Mark) → onto back rest ≡ code → AreNew labels back rest
  are_new back [] joined = tt
  are_new back (m ∷ rest) joined = let n = new_here back m rest joined in (n.0, n.1, are_new (m ∷ back) rest joined)

-- ---- where nothing is wrong

-- what stands around a mark of code
record Found (code : List Mark) (place : ℕ) (m : Mark) : Type 0 where
  around : Around code place
  is : around.mark ≡ m

around_at : (back rest : List Mark) (k : ℕ) (m : Mark) → slice_get rest k ≡ Some m → Found (onto back rest) (length back + k) m
around_at back [] k m e = absurd cc
around_at back (x ∷ rest) zero m e = record { around = record { back = back; mark = x; rest = rest; joined = refl; place_is = omega arith }; is = same_Some x m e }
around_at back (x ∷ rest) (suc k) m e = let at : length (x ∷ back) + k ≡ length back + suc k = omega arith in subst (λ (n : ℕ). Found (onto back (x ∷ rest)) n m) at (around_at (x ∷ back) rest k m e)

around_is : (code : List Mark) (place : ℕ) (m : Mark) → slice_get code place ≡ Some m → Found code place m
around_is code place m e = let at : zero + place ≡ place = omega arith in subst (λ (n : ℕ). Found code n m) at (around_at [] code place m e)

module _ (labels : ℕ) (code : List Mark) (sound : IsSound labels code) where
  pub sound_range : (place number : ℕ) → IsLabelAt code place number → (0 < number) × (number < labels)
  sound_range place number at =
      let f = around_is code place (marks.Label (Some number)) at in
      let no : is_out_of_range labels f.around.mark ≡ false = false_from_ne_true (is_out_of_range labels f.around.mark) (λ e. sound place whys.LabelRange (f.around, e)) in
      let parts = or_parts (number == 0) (nat_le labels number) (ap (is_out_of_range labels) (sym f.is) ∙ no) in
      (omega (arith, eqb-false number 0 parts.0), leb-false labels number parts.1)

  not_twice : (place other number : ℕ) → IsLabelAt code place number → IsLabelAt code other number → place < other → ⊥
  not_twice place other number at there lt =
      let f = around_is code other (marks.Label (Some number)) there in
      let long : length f.around.back ≡ other = f.around.place_is in
      let before : has_label number f.around.back ≡ true = label_before number f.around.back (f.around.mark ∷ f.around.rest) place (omega arith) (subst (λ (c : List Mark). IsLabelAt c place number) (sym f.around.joined) at) in
      sound other whys.LabelTwice (f.around, ap (is_second f.around.back) f.is ∙ before)

  pub sound_once : (place other number : ℕ) → IsLabelAt code place number → IsLabelAt code other number → place ≡ other
  sound_once place other number at there =
      elim (cases_lt place other) [
        | inl lt ↦ absurd (not_twice place other number at there lt)
        | inr le ↦ elim (cases_lt other place) [
          | inl lt ↦ absurd (not_twice other place number there at lt)
          | inr ge ↦ omega arith
        ]
      ]
