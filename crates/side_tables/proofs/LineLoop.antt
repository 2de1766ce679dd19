-- Reading places in loops.
use Rattle.std.proofs.Common.{◌≡◌, ℕ, suc, ◌+◌, ◌-◌, ◌<◌, ◌≤◌, ℤ, List, [], ◌∷◌, ◌++◌, length, Result, Ok, Err, refl, sym, ap, ◌∙◌, arith, inl, inr}
use Rattle.std.proofs.lemmas.List.{append-nil}
use Rattle.bk_codec.specs.Reading.{giving, made_of, Fails}
use Rattle.bk_codec.proofs.Loop.{with_front, regroup}
use Rattle.side_tables.specs.declared.refusal.SideRefusal.{SideRefusal}
use Rattle.side_tables.specs.declared.refusal.SideRefusal.TheVariants.{NoMemory}
use Rattle.side_tables.specs.LineReading.{item_at, Placed, placed, place_at, places_at}
use Rattle.side_tables.proofs.LinePlaces.{place_refused}

-- ---- the items of a place

-- the place is still the one that was to be read at first, and it has no more items than bytes are left
pub record StillReads (files file item : ℕ) (rest : List ℕ) (whole : Result (Placed × List ℕ) SideRefusal) : Type 0 where
  pub most : ℕ
  pub enough : length rest ≤ most
  pub same : place_at files most file item rest ≡ whole

-- an item is refused
pub reads_none : (files file item : ℕ) (rest : List ℕ) (e : SideRefusal) (whole : Result (Placed × List ℕ) SideRefusal) → StillReads files file item rest whole
    → Fails NoMemory e (item_at files item rest) → Fails NoMemory e whole
reads_none files file item rest e whole still (inl none) = inl none
reads_none files file item rest e whole still (inr read) = inr (sym still.same ∙ place_refused files still.most file item rest e still.enough read)

-- ---- places, of which i of n were read

-- one place more was read
pub goes_on : (files file item next : ℕ) (front : List (ℕ × ℤ)) (n i : ℕ) (rest after : List ℕ) (p : ℕ × ℤ) (whole : Result (List (ℕ × ℤ) × List ℕ) SideRefusal)
    → i < n → place_at files (length rest) file item rest ≡ Ok (placed next p, after) → with_front front (places_at files (n - i) file item rest) ≡ whole
    → with_front (front ++ p ∷ []) (places_at files (n - (i + 1)) p.0 next after) ≡ whole
goes_on files file item next front n i rest after p whole lt read before =
    let count : n - i ≡ suc (n - (i + 1)) = omega arith in
    let step : places_at files (n - i) file item rest ≡ made_of (λ ps. p ∷ ps) (places_at files (n - (i + 1)) p.0 next after) = rw (count, read) refl in
    sym (regroup front p (places_at files (n - (i + 1)) p.0 next after)) ∙ ap (with_front front) (sym step) ∙ before

-- the next place is refused
pub ends : (files file item : ℕ) (front : List (ℕ × ℤ)) (n i : ℕ) (rest : List ℕ) (e : SideRefusal) (whole : Result (List (ℕ × ℤ) × List ℕ) SideRefusal)
    → i < n → Fails NoMemory e (place_at files (length rest) file item rest) → with_front front (places_at files (n - i) file item rest) ≡ whole → Fails NoMemory e whole
ends files file item front n i rest e whole lt (inl none) before = inl none
ends files file item front n i rest e whole lt (inr read) before =
    let count : n - i ≡ suc (n - (i + 1)) = omega arith in
    let step : places_at files (n - i) file item rest ≡ Err e = rw (count, read) refl in
    inr (sym before ∙ ap (with_front front) step)

-- all places were read
pub is_done : (files file item : ℕ) (front : List (ℕ × ℤ)) (n i : ℕ) (rest : List ℕ) (whole : Result (List (ℕ × ℤ) × List ℕ) SideRefusal)
    → n ≤ i → with_front front (places_at files (n - i) file item rest) ≡ whole → whole ≡ giving front rest
is_done files file item front n i rest whole le before =
    let count : n - i ≡ 0 = omega arith in
    let step : places_at files (n - i) file item rest ≡ giving [] rest = rw count refl in
    sym before ∙ ap (with_front front) step ∙ ap (λ (ps : List (ℕ × ℤ)). giving ps rest) (append-nil front)
