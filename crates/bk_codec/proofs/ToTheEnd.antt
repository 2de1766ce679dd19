-- Reading values up to the end of the bytes.
use Rattle.std.proofs.Common.{◌≡◌, ℕ, zero, suc, ◌+◌, ◌<◌, ◌≤◌, List, [], ◌∷◌, ◌++◌, length, Result, Ok, Err, refl, sym, ap, subst, ◌∙◌, append_assoc, arith, inl, inr, length-append}
use Rattle.std.proofs.lemmas.List.{append-nil}
use Rattle.bk_codec.specs.Reading.{◌>>=◌, all_at, whole_of, Fails}
use Rattle.bk_codec.specs.Spelling.{IsBytes, SpellsMany}
use Rattle.bk_codec.proofs.Steps.{bind_ok, bind_same, ok_is}
use Rattle.bk_codec.proofs.Agreement.{Agrees}

-- each value takes at least one byte
abbrev pub Shrinks : {E A : Type 0} → (List ℕ → Result (A × List ℕ) E) → Type 0
Shrinks {A = A} one = (bytes : List ℕ) (x : A) (rest : List ℕ) → one bytes ≡ Ok (x, rest) → length rest < length bytes

-- values that were read before, in front of those that are still read
abbrev pub with_items : {E A : Type 0} → List A → Result (List A) E → Result (List A) E
with_items front read = read >>= λ xs. Ok (front ++ xs)

-- how many values there may be doesn't matter, where it is at least the number of the bytes
all_at-bound : {E A : Type 0} (one : List ℕ → Result (A × List ℕ) E) → Shrinks one → (n m : ℕ) (bytes : List ℕ) → length bytes ≤ n → length bytes ≤ m → all_at one n bytes ≡ all_at one m bytes
all_at-bound one shrinks n m [] le le' = refl
all_at-bound one shrinks zero m (b ∷ bytes) le le' = absurd (omega arith)
all_at-bound one shrinks (suc n) zero (b ∷ bytes) le le' = absurd (omega arith)
all_at-bound {E} {A} one shrinks (suc n) (suc m) (b ∷ bytes) le le' =
    bind_same (one (b ∷ bytes)) (λ x. all_at one n x.1 >>= λ xs. Ok (x.0 ∷ xs)) (λ x. all_at one m x.1 >>= λ xs. Ok (x.0 ∷ xs)) (λ x read.
    let less : length x.1 < length (b ∷ bytes) = shrinks (b ∷ bytes) x.0 x.1 read in
    ap (λ (r : Result (List A) E). r >>= λ xs. Ok (x.0 ∷ xs)) (all_at-bound one shrinks n m x.1 (omega arith) (omega arith)))

-- ---- one value, and then the others

pub whole_of-step : {E A : Type 0} (one : List ℕ → Result (A × List ℕ) E) → Shrinks one → (bytes rest : List ℕ) (x : A) → 0 < length bytes → one bytes ≡ Ok (x, rest) → whole_of one bytes ≡ with_items (x ∷ []) (whole_of one rest)
whole_of-step one shrinks [] rest x some read = absurd (omega arith)
whole_of-step {E} {A} one shrinks (b ∷ bytes) rest x some read =
    let less : length rest < length (b ∷ bytes) = shrinks (b ∷ bytes) x rest read in
    let same : all_at one (length bytes) rest ≡ whole_of one rest = all_at-bound one shrinks (length bytes) (length rest) rest (omega arith) (omega arith) in
    rw (read, same) refl

pub whole_of-refused : {E A : Type 0} (one : List ℕ → Result (A × List ℕ) E) (bytes : List ℕ) (e : E) → 0 < length bytes → one bytes ≡ Err e → whole_of one bytes ≡ Err e
whole_of-refused one [] e some read = absurd (omega arith)
whole_of-refused one (b ∷ bytes) e some read = rw read refl

-- ---- the loop

regroup_items : {E A : Type 0} (front : List A) (x : A) (read : Result (List A) E) → with_items front (with_items (x ∷ []) read) ≡ with_items (front ++ x ∷ []) read
regroup_items front x (Ok q) = ap (λ (xs : List _). Ok xs) (sym (append_assoc front (x ∷ []) q))
regroup_items front x (Err e) = refl

pub goes_further : {E A : Type 0} (one : List ℕ → Result (A × List ℕ) E) → Shrinks one → (front : List A) (rest after : List ℕ) (x : A) (whole : Result (List A) E)
    → 0 < length rest → one rest ≡ Ok (x, after) → with_items front (whole_of one rest) ≡ whole → with_items (front ++ x ∷ []) (whole_of one after) ≡ whole
goes_further one shrinks front rest after x whole some read before =
    sym (regroup_items front x (whole_of one after)) ∙ ap (with_items front) (sym (whole_of-step one shrinks rest after x some read)) ∙ before

pub stops : {E A : Type 0} (memory : E) (one : List ℕ → Result (A × List ℕ) E) (front : List A) (rest : List ℕ) (e : E) (whole : Result (List A) E)
    → 0 < length rest → Fails memory e (one rest) → with_items front (whole_of one rest) ≡ whole → Fails memory e whole
stops memory one front rest e whole some (inl none) before = inl none
stops memory one front rest e whole some (inr read) before =
    inr (sym before ∙ ap (with_items front) (whole_of-refused one rest e some read))

pub is_whole : {E A : Type 0} (one : List ℕ → Result (A × List ℕ) E) (front : List A) (rest : List ℕ) (whole : Result (List A) E)
    → rest ≡ [] → with_items front (whole_of one rest) ≡ whole → whole ≡ Ok front
is_whole one front rest whole none before =
    sym before ∙ ap (λ (r : List ℕ). with_items front (whole_of one r)) none ∙ ap (λ (xs : List _). Ok xs) (append-nil front)

-- ---- agreement

all_takes : {E A : Type 0} (p : List ℕ → Result (A × List ℕ) E) (R : A → List ℕ → Type 0) → Agrees p R → Shrinks p
    → (n : ℕ) (bytes : List ℕ) (xs : List A) → length bytes ≤ n → IsBytes bytes → all_at p n bytes ≡ Ok xs → SpellsMany R xs bytes
all_takes {E} p R agrees shrinks n [] xs le fits e = subst (λ (ys : List _). SpellsMany R ys []) (ok_is {E = E} [] xs e) refl
all_takes p R agrees shrinks zero (b ∷ bytes) xs le fits e = absurd (omega arith)
all_takes {E} p R agrees shrinks (suc n) (b ∷ bytes) xs le fits e =
    let first = bind_ok (p (b ∷ bytes)) (λ x. all_at p n x.1 >>= λ ys. Ok (x.0 ∷ ys)) xs e in
    let others = bind_ok (all_at p n first.0.1) (λ ys. Ok (first.0.0 ∷ ys)) xs first.2 in
    let less : length first.0.1 < length (b ∷ bytes) = shrinks (b ∷ bytes) first.0.0 first.0.1 first.1 in
    let took = agrees.takes (b ∷ bytes) first.0.0 first.0.1 fits first.1 in
    let back = all_takes p R agrees shrinks n first.0.1 others.0 (omega arith) took.fits others.1 in
    let whole : SpellsMany R (first.0.0 ∷ others.0) (b ∷ bytes) = record { front = took.text; back = first.0.1; front_is = took.is; back_is = back; joined = took.joined } in
    subst (λ (ys : List _). SpellsMany R ys (b ∷ bytes)) (ok_is {E = E} (first.0.0 ∷ others.0) xs others.2) whole

all_again : {E A : Type 0} (p : List ℕ → Result (A × List ℕ) E) (R : A → List ℕ → Type 0) → Agrees p R → Shrinks p → ((x : A) (text : List ℕ) → R x text → 0 < length text)
    → (xs : List A) (bytes : List ℕ) → SpellsMany R xs bytes → whole_of p bytes ≡ Ok xs
all_again p R agrees shrinks some [] bytes is = rw is refl
all_again {E} p R agrees shrinks some (x ∷ xs) bytes is =
    let read : p bytes ≡ Ok (x, is.back) = ap p is.joined ∙ agrees.again x is.front is.back is.front_is in
    let length_is : length bytes ≡ length is.front + length is.back = ap length is.joined ∙ length-append is.front is.back in
    let some_front : 0 < length is.front = some x is.front is.front_is in
    whole_of-step p shrinks bytes is.back x (omega arith) read
    ∙ ap (with_items (x ∷ [])) (all_again p R agrees shrinks some xs is.back is.back_is)

-- the whole of the bytes is read as values, exactly where they are spelled there one after another
pub record AgreesOnAll {E A : Type 0} (p : List ℕ → Result (A × List ℕ) E) (R : A → List ℕ → Type 0) : Type 0 where
  pub takes : (bytes : List ℕ) (xs : List A) → IsBytes bytes → whole_of p bytes ≡ Ok xs → SpellsMany R xs bytes
  pub again : (xs : List A) (bytes : List ℕ) → SpellsMany R xs bytes → whole_of p bytes ≡ Ok xs

pub all_agree : {E A : Type 0} {p : List ℕ → Result (A × List ℕ) E} {R : A → List ℕ → Type 0} → Agrees p R → Shrinks p → ((x : A) (text : List ℕ) → R x text → 0 < length text) → AgreesOnAll p R
all_agree {E} {A} {p} {R} agrees shrinks some = record {
  takes = λ bytes xs fits e. all_takes p R agrees shrinks (length bytes) bytes xs (omega arith) fits e;
  again = all_again p R agrees shrinks some;
}
