-- Reading values one after another, as a loop over a count does.
use Rattle.std.proofs.Common.{◌≡◌, ℕ, suc, ◌+◌, ◌-◌, ◌<◌, ◌≤◌, List, [], ◌∷◌, ◌++◌, Result, Ok, Err, refl, sym, ap, ◌∙◌, append_assoc, arith, inl, inr}
use Rattle.std.proofs.lemmas.List.{append-nil}
use Rattle.bk_codec.specs.Reading.{giving, made_of, many_at, Fails}

-- what was read before, in front of what is still read
abbrev pub with_front : {E A : Type 0} → List A → Result (List A × List ℕ) E → Result (List A × List ℕ) E
with_front front read = made_of (λ xs. front ++ xs) read

pub regroup : {E A : Type 0} (front : List A) (x : A) (read : Result (List A × List ℕ) E) → with_front front (made_of (λ xs. x ∷ xs) read) ≡ with_front (front ++ x ∷ []) read
regroup front x (Ok q) = ap (λ (xs : List _). Ok (xs, q.1)) (sym (append_assoc front (x ∷ []) q.0))
regroup front x (Err e) = refl

-- one value more was read
pub goes_on : {E A : Type 0} (one : List ℕ → Result (A × List ℕ) E) (front : List A) (n i : ℕ) (rest after : List ℕ) (x : A) (whole : Result (List A × List ℕ) E)
    → i < n → one rest ≡ Ok (x, after) → with_front front (many_at one (n - i) rest) ≡ whole
    → with_front (front ++ x ∷ []) (many_at one (n - (i + 1)) after) ≡ whole
goes_on one front n i rest after x whole lt read before =
    let count : n - i ≡ suc (n - (i + 1)) = omega arith in
    let step : many_at one (n - i) rest ≡ made_of (λ xs. x ∷ xs) (many_at one (n - (i + 1)) after) = rw (count, read) refl in
    sym (regroup front x (many_at one (n - (i + 1)) after)) ∙ ap (with_front front) (sym step) ∙ before

-- the next value is refused
pub ends : {E A : Type 0} (memory : E) (one : List ℕ → Result (A × List ℕ) E) (front : List A) (n i : ℕ) (rest : List ℕ) (e : E) (whole : Result (List A × List ℕ) E)
    → i < n → Fails memory e (one rest) → with_front front (many_at one (n - i) rest) ≡ whole → Fails memory e whole
ends memory one front n i rest e whole lt (inl none) before = inl none
ends memory one front n i rest e whole lt (inr read) before =
    let count : n - i ≡ suc (n - (i + 1)) = omega arith in
    let step : many_at one (n - i) rest ≡ Err e = rw (count, read) refl in
    inr (sym before ∙ ap (with_front front) step)

-- all values were read
pub is_done : {E A : Type 0} (one : List ℕ → Result (A × List ℕ) E) (front : List A) (n i : ℕ) (rest : List ℕ) (whole : Result (List A × List ℕ) E)
    → n ≤ i → with_front front (many_at one (n - i) rest) ≡ whole → whole ≡ giving front rest
is_done one front n i rest whole le before =
    let count : n - i ≡ 0 = omega arith in
    let step : many_at one (n - i) rest ≡ giving [] rest = rw count refl in
    sym before ∙ ap (with_front front) step ∙ ap (λ (xs : List _). giving xs rest) (append-nil front)
