-- Code splits where nothing is wrong, into the functions that are found.
use Rattle.std.proofs.Common.{◌≡◌, ◌≢◌, ◌↔◌, ℕ, ◌==◌, true, false, Option, Some, None, List, [], ◌∷◌, map, length, Ok, Err, refl, sym, ap, subst, ◌∙◌, inl, inr, eq-eqb, eqb-true, ne_eqb}
use Rattle.std.proofs.lemmas.Bool.{eqb-false}
use Rattle.bk_codec.proofs.Steps.{chosen, ok_is}
use Rattle.op_table.specs.Instruction.{Instruction}
use Rattle.func_split.specs.declared.refusal.FunctionWhy.{FunctionWhy}
use Rattle.func_split.specs.declared.refusal.FunctionWhy.TheVariants as whys
use Rattle.func_split.specs.declared.refusal.SplitRefusal.{SplitRefusal}
use Rattle.func_split.specs.declared.refusal.SplitRefusal.TheVariants as refusals
use Rattle.func_split.specs.Marks.{marks_of}
use Rattle.func_split.specs.Functions.{IsSplit, IsSplitCode, Piece, SplitValue}
use Rattle.func_split.specs.Faults.{IsSound, is_nil}
use Rattle.func_split.specs.Refused.{IsRefused}
use Rattle.func_split.specs.Reading.{counted, extents, first_fault, or_split, pieces_of, split_of, split_value}
use Rattle.func_split.proofs.Walk.{first_some, none_sound, some_first, sound_none}
use Rattle.func_split.proofs.LabelPlaces.{are_new, sound_once, sound_range}
use Rattle.func_split.proofs.Joining.{joined_from}
use Rattle.func_split.proofs.Cutting.{code_follows}
use Rattle.func_split.proofs.Taking.{extent_in, functions_follow, pieces_are, same_pieces}

-- the functions that are found in the code
abbrev found_in : List Instruction → List Piece
found_in code = pieces_of code (extents [] (marks_of code))

-- what holds where code splits
record Known (labels : ℕ) (code : List Instruction) (functions : List Piece) : Type 0 where
  some : code ≢ []
  sound : first_fault labels [] (marks_of code) ≡ None
  same : found_in code ≡ functions

known : (labels : ℕ) (code : List Instruction) (functions : List Piece) → IsSplit labels code functions → Known labels code functions
known labels code functions s =
    let follows = functions_follow functions 0 code s.pieces s.each in
    let new = are_new labels (marks_of code) s.range s.once [] (marks_of code) refl in
    let j = joined_from labels (map extent_in functions) 0 (marks_of code) [] refl refl follows new in
    record {
      some = λ none. let no : is_nil (marks_of code) ≡ false = j.some in let yes : is_nil (marks_of code) ≡ true = ap (λ (c : List Instruction). is_nil (marks_of c)) none in cc;
      sound = j.sound;
      same = ap (pieces_of code) j.found ∙ same_pieces code functions 0 [] code refl refl s.pieces s.each;
    }

sound_splits : (labels : ℕ) (i : Instruction) (code : List Instruction) → first_fault labels [] (marks_of (i ∷ code)) ≡ None → IsSplit labels (i ∷ code) (found_in (i ∷ code))
sound_splits labels i code none =
    let ms = marks_of (i ∷ code) in
    let sound = none_sound labels ms none in
    let p = pieces_are (i ∷ code) (extents [] ms) 0 [] (i ∷ code) refl refl (code_follows labels ms refl none) in
    record { pieces = p.are; each = p.each; range = sound_range labels ms sound; once = sound_once labels ms sound }

pub splits_where_sound : (labels : ℕ) (code : List Instruction) → ((functions : List Piece) × IsSplit labels code functions) ↔ ((code ≢ []) × IsSound labels (marks_of code))
splits_where_sound labels code = (λ s. let k = known labels code s.0 s.1 in (k.some, none_sound labels (marks_of code) k.sound), back code)
  where
    back : (code : List Instruction) → (code ≢ []) × IsSound labels (marks_of code) → (functions : List Piece) × IsSplit labels code functions
    back [] h = absurd (h.0 refl)
    back (i ∷ code) h = (found_in (i ∷ code), sound_splits labels i code (sound_none labels (marks_of (i ∷ code)) h.1))

pub splits_once : (labels : ℕ) (code : List Instruction) (f g : List Piece) → IsSplit labels code f → IsSplit labels code g → f ≡ g
splits_once labels code f g s t = sym (known labels code f s).same ∙ (known labels code g t).same

-- ---- the reading

counted_ok : (count : ℕ) (s t : SplitValue) → counted count s ≡ Ok t → (length s.functions ≡ count) × (s ≡ t)
counted_ok count s t e =
    elim (chosen (length s.functions == count) (Ok s) (Err (refusals.Functions 0 whys.Count)) (Ok t) e) [
      | inl same ↦ (eqb-true _ _ same.0, ok_is {E = SplitRefusal} s t same.1)
      | inr other ↦ let wrong = other.1 in absurd cc
    ]

counted_err : (count place : ℕ) (why : FunctionWhy) (s : SplitValue) → counted count s ≡ Err (refusals.Functions place why) → (length s.functions ≢ count) × (place ≡ 0) × (why ≡ whys.Count)
counted_err count place why s e =
    elim (chosen (length s.functions == count) (Ok s) (Err (refusals.Functions 0 whys.Count)) (Err (refusals.Functions place why)) e) [
      | inl same ↦ let wrong = same.1 in absurd cc
      | inr other ↦ let told = other.1 in (eqb-false _ _ other.0, cc, cc)
    ]

accepts : (labels count : ℕ) (code : List Instruction) (s : SplitValue) → split_of labels count code ≡ Ok s → IsSplitCode labels count code s
unfolding split_of
accepts labels count [] s e = absurd cc
accepts labels count (i ∷ code) s e = by (first_fault labels [] (marks_of (i ∷ code))) refl e
  where
    by : (o : Option (ℕ × FunctionWhy)) → first_fault labels [] (marks_of (i ∷ code)) ≡ o → or_split o (counted count (split_value labels (i ∷ code))) ≡ Ok s → IsSplitCode labels count (i ∷ code) s
    by (Some told) is e = absurd cc
    by None is e =
        let c = counted_ok count (split_value labels (i ∷ code)) s e in
        subst (λ (s : SplitValue). IsSplitCode labels count (i ∷ code) s) c.1 (record { instrs_are = refl; labels_are = refl; split = sound_splits labels i code is; count_is = c.0 })

same_value : (labels : ℕ) (code : List Instruction) (functions : List Piece) (s : SplitValue) → s.instrs ≡ code → s.labels ≡ labels → functions ≡ s.functions → ◌≡◌ {A = SplitValue} (record { instrs = code; labels = labels; functions = functions }) s
same_value labels code functions s instrs_are labels_are same =
    ap (λ (fs : List Piece). record { instrs = code; labels = labels; functions = fs }) same
    ∙ ap (λ (n : ℕ). record { instrs = code; labels = n; functions = s.functions }) (sym labels_are)
    ∙ ap (λ (is : List Instruction). record { instrs = is; labels = s.labels; functions = s.functions }) (sym instrs_are)

accepted : (labels count : ℕ) (code : List Instruction) (s : SplitValue) → IsSplitCode labels count code s → split_of labels count code ≡ Ok s
unfolding split_of
accepted labels count [] s is = absurd ((known labels [] s.functions is.split).some refl)
accepted labels count (i ∷ code) s is =
    let k = known labels (i ∷ code) s.functions is.split in
    let same : split_value labels (i ∷ code) ≡ s = same_value labels (i ∷ code) (found_in (i ∷ code)) s is.instrs_are is.labels_are k.same in
    let long : (length (found_in (i ∷ code)) == count) ≡ true = eq-eqb _ _ (ap length k.same ∙ is.count_is) in
    rw (k.sound, long) (ap (λ (s : SplitValue). Ok s) same)

pub split_accepts : (labels count : ℕ) (code : List Instruction) (s : SplitValue) → (split_of labels count code ≡ Ok s) ↔ IsSplitCode labels count code s
split_accepts labels count code s = (accepts labels count code s, accepted labels count code s)

refuses : (labels count : ℕ) (code : List Instruction) (place : ℕ) (why : FunctionWhy) → split_of labels count code ≡ Err (refusals.Functions place why) → IsRefused labels count code place why
unfolding split_of
refuses labels count [] place why e = (cc, cc)
refuses labels count (i ∷ code) place why e = by (first_fault labels [] (marks_of (i ∷ code))) refl e
  where
    by : (o : Option (ℕ × FunctionWhy)) → first_fault labels [] (marks_of (i ∷ code)) ≡ o → or_split o (counted count (split_value labels (i ∷ code))) ≡ Err (refusals.Functions place why) → IsRefused labels count (i ∷ code) place why
    by (Some told) is e =
        let at : told.0 ≡ place = cc in
        let for : told.1 ≡ why = cc in
        inl (some_first labels (marks_of (i ∷ code)) place why (is ∙ ap (λ (n : ℕ). Some (n, told.1)) at ∙ ap (λ (w : FunctionWhy). Some (place, w)) for))
    by None is e =
        let c = counted_err count place why (split_value labels (i ∷ code)) e in
        inr (record { place_is = c.1; why_is = c.2; functions = found_in (i ∷ code); split = sound_splits labels i code is; differs = c.0 })

refused : (labels count : ℕ) (code : List Instruction) (place : ℕ) (why : FunctionWhy) → IsRefused labels count code place why → split_of labels count code ≡ Err (refusals.Functions place why)
unfolding split_of
refused labels count [] place why is = let at = is.0 in let for = is.1 in cc
refused labels count (i ∷ code) place why (inl first) = rw (first_some labels (marks_of (i ∷ code)) place why first)
refused labels count (i ∷ code) place why (inr m) =
    let k = known labels (i ∷ code) m.functions m.split in
    let other : (length (found_in (i ∷ code)) == count) ≡ false = ne_eqb _ _ (λ same. m.differs (sym (ap length k.same) ∙ same)) in
    let at : place ≡ 0 = m.place_is in
    let for : why ≡ whys.Count = m.why_is in
    rw (k.sound, other, at, for)

pub split_refuses : (labels count : ℕ) (code : List Instruction) (place : ℕ) (why : FunctionWhy) → (split_of labels count code ≡ Err (refusals.Functions place why)) ↔ IsRefused labels count code place why
split_refuses labels count code place why = (refuses labels count code place why, refused labels count code place why)
