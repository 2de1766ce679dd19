-- Reading a count and as many numbered values.
use Rattle.std.proofs.Common.{◌≡◌, ℕ, zero, suc, ◌+◌, ◌-◌, ◌^◌, ◌<◌, List, [], ◌∷◌, ◌++◌, length, All, Result, Ok, Err, refl, sym, ap, subst, ◌∙◌, append_assoc, arith, inl, inr}
use Rattle.std.proofs.lemmas.List.Elements.{All-nil, All-cons}
use Rattle.bk_codec.specs.Reading.{◌>>=◌, made_of, number_at, numbered_at, counted_at, Fails}
use Rattle.bk_codec.specs.Spelling.{IsBytes, Then, SpellsMany, SpellsWord, SpellsCounted}
use Rattle.bk_codec.proofs.Steps.{bind_ok, made_ok, ok_is}
use Rattle.bk_codec.proofs.Agreement.{Agrees, Takes, Takes-then, number_agrees}
use Rattle.bk_codec.proofs.Loop.{with_front, regroup}

-- ---- agreement

-- whatever its number, a value is read where it is spelled
abbrev pub AgreesByNumber : {E A : Type 0} → (ℕ → List ℕ → Result (A × List ℕ) E) → (A → List ℕ → Type 0) → Type 0
AgreesByNumber one R = (i : ℕ) → Agrees (one i) R

numbered_takes : {E A : Type 0} (one : ℕ → List ℕ → Result (A × List ℕ) E) (R : A → List ℕ → Type 0) → AgreesByNumber one R
    → (i n : ℕ) (bytes : List ℕ) (xs : List A) (rest : List ℕ) → IsBytes bytes → numbered_at one i n bytes ≡ Ok (xs, rest)
    → (length xs ≡ n) × Takes (SpellsMany R xs) bytes rest
numbered_takes one R agrees i zero bytes xs rest fits e =
    let is = ok_is ([], bytes) (xs, rest) e in
    subst (λ (q : List _ × List ℕ). (length q.0 ≡ 0) × Takes (SpellsMany R q.0) bytes q.1) is (refl, record { text = []; is = refl; joined = refl; fits = fits })
numbered_takes one R agrees i (suc n) bytes xs rest fits e =
    let b = bind_ok (one i bytes) (λ x. made_of (λ ys. x.0 ∷ ys) (numbered_at one (suc i) n x.1)) (xs, rest) e in
    let m = made_ok (λ ys. b.0.0 ∷ ys) (numbered_at one (suc i) n b.0.1) xs rest b.2 in
    let first = (agrees i).takes bytes b.0.0 b.0.1 fits b.1 in
    let others = numbered_takes one R agrees (suc i) n b.0.1 m.0 rest first.fits m.1 in
    subst (λ (ys : List _). (length ys ≡ suc n) × Takes (SpellsMany R ys) bytes rest) m.2 (ap suc others.0, Takes-then first others.1)

numbered_again : {E A : Type 0} (one : ℕ → List ℕ → Result (A × List ℕ) E) (R : A → List ℕ → Type 0) → AgreesByNumber one R
    → (i : ℕ) (xs : List A) (text rest : List ℕ) → SpellsMany R xs text → numbered_at one i (length xs) (text ++ rest) ≡ Ok (xs, rest)
numbered_again one R agrees i [] text rest is = rw is refl
numbered_again one R agrees i (x ∷ xs) text rest is =
    let whole : text ++ rest ≡ is.front ++ (is.back ++ rest) = ap (λ (t : List ℕ). t ++ rest) is.joined ∙ append_assoc is.front is.back rest in
    let first : one i (is.front ++ (is.back ++ rest)) ≡ Ok (x, is.back ++ rest) = (agrees i).again x is.front (is.back ++ rest) is.front_is in
    let others : numbered_at one (suc i) (length xs) (is.back ++ rest) ≡ Ok (xs, rest) = numbered_again one R agrees (suc i) xs is.back rest is.back_is in
    rw (whole, first, others) refl

counted_takes : {E A : Type 0} (cut : E) (one : ℕ → List ℕ → Result (A × List ℕ) E) (R : A → List ℕ → Type 0) → AgreesByNumber one R
    → (i : ℕ) (bytes : List ℕ) (xs : List A) (rest : List ℕ) → IsBytes bytes → counted_at cut one i bytes ≡ Ok (xs, rest) → Takes (SpellsCounted R xs) bytes rest
counted_takes cut one R agrees i bytes xs rest fits e =
    let b = bind_ok (number_at cut 4 bytes) (λ n. numbered_at one i n.0 n.1) (xs, rest) e in
    let count = (number_agrees cut 4).takes bytes b.0.0 b.0.1 fits b.1 in
    let values = numbered_takes one R agrees i b.0.0 b.0.1 xs rest count.fits b.2 in
    subst (λ (n : ℕ). Takes (Then (SpellsWord n) (SpellsMany R xs)) bytes rest) (sym values.0) (Takes-then count values.1)

counted_again : {E A : Type 0} (cut : E) (one : ℕ → List ℕ → Result (A × List ℕ) E) (R : A → List ℕ → Type 0) → AgreesByNumber one R
    → (i : ℕ) (xs : List A) (text rest : List ℕ) → SpellsCounted R xs text → counted_at cut one i (text ++ rest) ≡ Ok (xs, rest)
counted_again cut one R agrees i xs text rest is =
    let whole : text ++ rest ≡ is.front ++ (is.back ++ rest) = ap (λ (t : List ℕ). t ++ rest) is.joined ∙ append_assoc is.front is.back rest in
    let count : number_at cut 4 (is.front ++ (is.back ++ rest)) ≡ Ok (length xs, is.back ++ rest) = (number_agrees cut 4).again (length xs) is.front (is.back ++ rest) is.front_is in
    let values : numbered_at one i (length xs) (is.back ++ rest) ≡ Ok (xs, rest) = numbered_again one R agrees i xs is.back rest is.back_is in
    ap (counted_at cut one i) whole
    ∙ ap (λ (r : Result (ℕ × List ℕ) _). r >>= λ n. numbered_at one i n.0 n.1) count
    ∙ values

pub counted_agrees : {E A : Type 0} (cut : E) (one : ℕ → List ℕ → Result (A × List ℕ) E) (R : A → List ℕ → Type 0) → AgreesByNumber one R → (i : ℕ) → Agrees (counted_at cut one i) (SpellsCounted R)
counted_agrees cut one R agrees i = record { takes = counted_takes cut one R agrees i; again = counted_again cut one R agrees i }

-- ---- the loop, in which k is the number of the next value

-- one value more was read
pub counts_on : {E A : Type 0} (one : ℕ → List ℕ → Result (A × List ℕ) E) (front : List A) (n i k next : ℕ) (rest after : List ℕ) (x : A) (whole : Result (List A × List ℕ) E)
    → i < n → next ≡ suc k → one k rest ≡ Ok (x, after) → with_front front (numbered_at one k (n - i) rest) ≡ whole
    → with_front (front ++ x ∷ []) (numbered_at one next (n - (i + 1)) after) ≡ whole
counts_on one front n i k next rest after x whole lt follows read before =
    let count : n - i ≡ suc (n - (i + 1)) = omega arith in
    let step : numbered_at one k (n - i) rest ≡ made_of (λ xs. x ∷ xs) (numbered_at one next (n - (i + 1)) after) = rw (count, read, follows) refl in
    sym (regroup front x (numbered_at one next (n - (i + 1)) after)) ∙ ap (with_front front) (sym step) ∙ before

-- the next value is refused
pub count_ends : {E A : Type 0} (memory : E) (one : ℕ → List ℕ → Result (A × List ℕ) E) (front : List A) (n i k : ℕ) (rest : List ℕ) (e : E) (whole : Result (List A × List ℕ) E)
    → i < n → Fails memory e (one k rest) → with_front front (numbered_at one k (n - i) rest) ≡ whole → Fails memory e whole
count_ends memory one front n i k rest e whole lt (inl none) before = inl none
count_ends memory one front n i k rest e whole lt (inr read) before =
    let count : n - i ≡ suc (n - (i + 1)) = omega arith in
    let step : numbered_at one k (n - i) rest ≡ Err e = rw (count, read) refl in
    inr (sym before ∙ ap (with_front front) step)

-- ---- what the values of a spelling have in common

pub many-all : {A : Type 0} (R : A → List ℕ → Type 0) (P : A → Type 0) → ((x : A) (text : List ℕ) → R x text → P x)
    → (xs : List A) (bytes : List ℕ) → SpellsMany R xs bytes → All P xs
many-all R P each [] bytes is = All-nil P
many-all R P each (x ∷ xs) bytes is = All-cons P x xs (each x is.front is.front_is) (many-all R P each xs is.back is.back_is)

-- the count has 32 bits
pub counted-fits : {A : Type 0} (R : A → List ℕ → Type 0) (xs : List A) (bytes : List ℕ) → SpellsCounted R xs bytes → length xs < 2 ^ 32
counted-fits R xs bytes is = is.front_is.fits

pub counted-all : {A : Type 0} (R : A → List ℕ → Type 0) (P : A → Type 0) → ((x : A) (text : List ℕ) → R x text → P x)
    → (xs : List A) (bytes : List ℕ) → SpellsCounted R xs bytes → All P xs
counted-all R P each xs bytes is = many-all R P each xs is.back is.back_is
