-- A text stops being a listing at one line only, and none that is a listing stops being one.
use Rattle.std.proofs.Common.{◌≡◌, ℕ, suc, ◌<◌, List, [], ◌∷◌, ◌++◌, length, refl, sym, ap, subst, ◌∙◌, inl, inr, arith, append_assoc}
use Rattle.std.proofs.lemmas.Bool.{cases_lt}
use Rattle.beam_module.specs.File.{FileChunk}
use Rattle.listing_out.specs.Lines.{lines}
use Rattle.listing_out.specs.Listable.{IsListable}
use Rattle.listing_out.specs.Listing.{IsListing, kept, raw_lines}
use Rattle.listing_in.specs.Wrong.{Begins, IsEmptyAt, IsWrongAt, StopsAt}
use Rattle.listing_in.proofs.FileLines.{none_listable}
use Rattle.listing_in.proofs.KeptLines.{kept_append}

-- the shorter of two fronts of a list, with an item more, begins the longer one
longer_front : {A : Type 0} (front : List A) (x : A) (back other : List A) (y : A) (rest : List A) → front ++ x ∷ back ≡ other ++ y ∷ rest → length front < length other
    → (more : List A) × (other ≡ (front ++ x ∷ []) ++ more)
longer_front front x back [] y rest same below = absurd (omega arith)
longer_front [] x back (z ∷ other) y rest same below = let first : x ≡ z = cc in (other, ap (λ (w : _). w ∷ other) (sym first))
longer_front (w ∷ front) x back (z ∷ other) y rest same below =
    let first : w ≡ z = cc in
    let others : front ++ x ∷ back ≡ other ++ y ∷ rest = cc in
    let more = longer_front front x back other y rest others (omega arith) in
    (more.0, ap (λ (u : _). u ∷ other) (sym first) ∙ ap (λ (xs : List _). w ∷ xs) more.1)

-- the front of what begins a listing begins one
begins_front : (front more : List (List ℕ)) → Begins (front ++ more) → Begins front
begins_front front more (v, others, is, same) = (v, more ++ others, is, same ∙ append_assoc front more others)

not_before : (n m : ℕ) (text : List ℕ) (a : IsWrongAt n text) (b : IsWrongAt m text) → length a.before < length b.before → ⊥
not_before n m text a b below =
    let more = longer_front a.before a.line a.after b.before b.line b.after (sym a.whole ∙ b.whole) below in
    a.stops (begins_front (kept (a.before ++ a.line ∷ [])) (kept more.0) (subst Begins (ap kept more.1 ∙ kept_append (a.before ++ a.line ∷ []) more.0) b.front))

same_place : (n m i j : ℕ) → n ≡ suc i → m ≡ suc j → (i < j → ⊥) → (j < i → ⊥) → n ≡ m
same_place n m i j p q below above = elim (cases_lt i j) [
  | inl h ↦ absurd (below h)
  | inr h ↦ elim (cases_lt j i) [ inl k ↦ absurd (above k) | inr k ↦ omega arith ]
]

-- the lines up to the one that is wrong, and those behind it
parts_of : (n : ℕ) (text : List ℕ) (w : IsWrongAt n text) → kept (raw_lines text) ≡ kept (w.before ++ w.line ∷ []) ++ kept w.after
parts_of n text w = ap kept (w.whole ∙ sym (append_assoc w.before (w.line ∷ []) w.after)) ∙ kept_append (w.before ++ w.line ∷ []) w.after

begins_nothing : Begins []
begins_nothing = ([], lines [], none_listable, refl)

front_empty : (front back : List (List ℕ)) → front ++ back ≡ [] → front ≡ []
front_empty [] back e = refl
front_empty (x ∷ front) back e = absurd cc

not_empty : (n m : ℕ) (text : List ℕ) → IsWrongAt n text → IsEmptyAt m text → ⊥
not_empty n m text w empty =
    let none = front_empty (kept (w.before ++ w.line ∷ [])) (kept w.after) (sym (parts_of n text w) ∙ empty.1) in
    w.stops (subst Begins (sym none) begins_nothing)

pub one_stop : (n m : ℕ) (text : List ℕ) → StopsAt n text → StopsAt m text → n ≡ m
one_stop n m text (inl a) (inl b) = a.0 ∙ sym b.0
one_stop n m text (inl a) (inr b) = absurd (not_empty m n text b a)
one_stop n m text (inr a) (inl b) = absurd (not_empty n m text a b)
one_stop n m text (inr a) (inr b) = same_place n m (length a.before) (length b.before) a.place b.place (not_before n m text a b) (not_before m n text b a)

pub stop_is_no_listing : (n : ℕ) (text : List ℕ) (v : List FileChunk) → StopsAt n text → IsListable v → IsListing v text → ⊥
stop_is_no_listing n text v (inl empty) is listing = let none : lines v ≡ [] = sym listing ∙ empty.1 in cc
stop_is_no_listing n text v (inr w) is listing = w.stops (v, kept w.after, is, sym listing ∙ parts_of n text w)
