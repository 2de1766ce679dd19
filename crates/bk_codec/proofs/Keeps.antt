-- What a reading leaves is never longer than what it was given.
use Rattle.std.proofs.Common.{◌≡◌, ℕ, zero, suc, ◌≤◌, Bool, true, false, cond, ltb, List, [], ◌∷◌, length, take, drop, Result, Ok, Err, ap, arith}
use Rattle.std.proofs.lemmas.List.{length-drop}
use Rattle.byteorder.specs.Endian.{big_number}
use Rattle.bk_codec.specs.Reading.{◌>>=◌, giving, made_of, byte_at, bytes_at, number_at, many_at}
use Rattle.bk_codec.proofs.Steps.{bind_ok, made_ok, ok_is, guard_ok}

abbrev pub Keeps : {E A : Type 0} → (List ℕ → Result (A × List ℕ) E) → Type 0
Keeps {A = A} p = (bytes : List ℕ) (x : A) (rest : List ℕ) → p bytes ≡ Ok (x, rest) → length rest ≤ length bytes

-- ---- one step

pub keeps_none : {E A : Type 0} (e : E) → Keeps {A = A} (λ bytes. Err e)
keeps_none e bytes x rest h = absurd cc

pub keeps_giving : {E A : Type 0} (y : A) → Keeps {E = E} (λ bytes. giving y bytes)
keeps_giving {E} y bytes x rest h =
    let same : bytes ≡ rest = ap (λ (q : _ × List ℕ). q.1) (ok_is {E = E} (y, bytes) (x, rest) h) in
    let lengths : length bytes ≡ length rest = ap length same in
    omega arith

pub keeps_byte : {E : Type 0} (cut : E) → Keeps (byte_at cut)
keeps_byte cut [] x rest h = absurd cc
keeps_byte {E} cut (b ∷ bytes) x rest h =
    let same : bytes ≡ rest = ap (λ (q : ℕ × List ℕ). q.1) (ok_is {E = E} (b, bytes) (x, rest) h) in
    let lengths : length bytes ≡ length rest = ap length same in
    omega arith

keeps_drop : {E A : Type 0} (b : Bool) (cut : E) (n : ℕ) (y : A) (bytes : List ℕ) (x : A) (rest : List ℕ) → cond b (Err cut) (giving y (drop n bytes)) ≡ Ok (x, rest) → length rest ≤ length bytes
keeps_drop {E} b cut n y bytes x rest h =
    let g = guard_ok b cut (giving y (drop n bytes)) (x, rest) h in
    let same : drop n bytes ≡ rest = ap (λ (q : _ × List ℕ). q.1) (ok_is {E = E} (y, drop n bytes) (x, rest) g.1) in
    let lengths : length (drop n bytes) ≡ length rest = ap length same in
    omega (arith, length-drop n bytes)

pub keeps_bytes : {E : Type 0} (cut : E) (n : ℕ) → Keeps (bytes_at cut n)
keeps_bytes cut n bytes x rest h = keeps_drop (ltb (length bytes) n) cut n (take n bytes) bytes x rest h

pub keeps_number : {E : Type 0} (cut : E) (n : ℕ) → Keeps (number_at cut n)
keeps_number cut n bytes x rest h = keeps_drop (ltb (length bytes) n) cut n (big_number n bytes) bytes x rest h

-- ---- steps in a row

pub keeps_if : {E A : Type 0} (b : Bool) {p q : List ℕ → Result (A × List ℕ) E} → Keeps p → Keeps q → Keeps (λ bytes. cond b (p bytes) (q bytes))
keeps_if true p q bytes x rest h = p bytes x rest h
keeps_if false p q bytes x rest h = q bytes x rest h

pub keeps_made : {E A B : Type 0} (f : A → B) {p : List ℕ → Result (A × List ℕ) E} → Keeps p → Keeps (λ bytes. made_of f (p bytes))
keeps_made f {p} keeps bytes y rest h =
    let m = made_ok f (p bytes) y rest h in
    keeps bytes m.0 rest m.1

pub keeps_then : {E A B : Type 0} {p : List ℕ → Result (A × List ℕ) E} {q : A → List ℕ → Result (B × List ℕ) E} → Keeps p → ((x : A) → Keeps (q x)) → Keeps (λ bytes. p bytes >>= λ x. q x.0 x.1)
keeps_then {E} {A} {B} {p} {q} first second bytes y rest h =
    let b = bind_ok (p bytes) (λ (x : A × List ℕ). q x.0 x.1) (y, rest) h in
    let one = first bytes b.0.0 b.0.1 b.1 in
    let two = second b.0.0 b.0.1 y rest b.2 in
    omega arith

-- a step that takes no bytes
pub keeps_step : {E A B : Type 0} (r : Result A E) {q : A → List ℕ → Result (B × List ℕ) E} → ((x : A) → Keeps (q x)) → Keeps (λ bytes. r >>= λ x. q x bytes)
keeps_step (Ok z) second bytes y rest h = second z bytes y rest h
keeps_step (Err e) second bytes y rest h = absurd cc

pub keeps_many : {E A : Type 0} {p : List ℕ → Result (A × List ℕ) E} → Keeps p → (n : ℕ) → Keeps (many_at p n)
keeps_many keeps zero bytes xs rest h = keeps_giving [] bytes xs rest h
keeps_many {p = p} keeps (suc n) bytes xs rest h =
    keeps_then {p = p} {q = λ x left. made_of (λ ys. x ∷ ys) (many_at p n left)} keeps (λ x. keeps_made (λ ys. x ∷ ys) (keeps_many keeps n)) bytes xs rest h
