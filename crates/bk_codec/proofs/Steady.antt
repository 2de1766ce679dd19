-- More bytes behind do not change what is read: a value is read again, and a refusal other than `cut` stands.
use Rattle.std.proofs.Common.{◌≡◌, ◌≢◌, ◌⊎◌, ℕ, zero, suc, ◌≤◌, Bool, true, false, cond, ltb, List, [], ◌∷◌, ◌++◌, length, take, drop, Result, Ok, Err, refl, sym, ap, ◌∙◌, inl, inr, arith}
use Rattle.std.proofs.lemmas.Bool.{ltb-false, le-ltb}
use Rattle.std.proofs.lemmas.List.{length-append, take-append-le, drop-append-le}
use Rattle.byteorder.specs.Endian.{big_number}
use Rattle.byteorder.specs.Numbers.{big_from-append}
use Rattle.bk_codec.specs.Reading.{◌>>=◌, giving, made_of, byte_at, bytes_at, number_at, many_at}
use Rattle.bk_codec.specs.Exact.{RefusalsStand, FrontsAreCut}
use Rattle.bk_codec.proofs.Steps.{bind_ok, bind_err, made_ok, made_err, ok_is, err_is, guard_ok, guard_err}

-- q reads the bytes with more behind them as p reads the bytes
pub record Steady {E A : Type 0} (cut : E) (more : List ℕ) (p q : List ℕ → Result (A × List ℕ) E) : Type 0 where
  pub goes_on : (bytes : List ℕ) (x : A) (rest : List ℕ) → p bytes ≡ Ok (x, rest) → q (bytes ++ more) ≡ Ok (x, rest ++ more)
  pub stands : (bytes : List ℕ) (e : E) → p bytes ≡ Err e → e ≢ cut → q (bytes ++ more) ≡ Err e

module _ {E : Type 0} (cut : E) (more : List ℕ) where
  -- ---- one step

  pub steady_none : {A : Type 0} (d : E) → Steady {A = A} cut more (λ bytes. Err d) (λ bytes. Err d)
  steady_none {A} d = record { goes_on = λ bytes x rest h. absurd cc; stands = λ bytes e h other. let same : d ≡ e = err_is {A = A × List ℕ} d e h in rw same refl }

  pub steady_giving : {A : Type 0} (y : A) → Steady cut more (λ bytes. giving y bytes) (λ bytes. giving y bytes)
  steady_giving {A} y = record {
    goes_on = λ bytes x rest h.
        let same = ok_is {E = E} (y, bytes) (x, rest) h in
        ap (λ (q : A × List ℕ). giving {E = E} q.0 (q.1 ++ more)) same;
    stands = λ bytes e h other. absurd cc;
  }

  pub steady_byte : Steady cut more (byte_at cut) (byte_at cut)
  steady_byte = record { goes_on = byte_on; stands = byte_stands } where
    byte_on : (bytes : List ℕ) (x : ℕ) (rest : List ℕ) → byte_at cut bytes ≡ Ok (x, rest) → byte_at cut (bytes ++ more) ≡ Ok (x, rest ++ more)
    byte_on [] x rest h = absurd cc
    byte_on (b ∷ bytes) x rest h =
        let same = ok_is {E = E} (b, bytes) (x, rest) h in
        ap (λ (q : ℕ × List ℕ). giving {E = E} q.0 (q.1 ++ more)) same

    byte_stands : (bytes : List ℕ) (e : E) → byte_at cut bytes ≡ Err e → e ≢ cut → byte_at cut (bytes ++ more) ≡ Err e
    byte_stands [] e h other = absurd (other (sym (err_is {A = ℕ × List ℕ} cut e h)))
    byte_stands (b ∷ bytes) e h other = absurd cc

  -- n bytes that are there are there with more behind them
  still_long : (n : ℕ) (bytes : List ℕ) → ltb (length bytes) n ≡ false → ltb (length (bytes ++ more)) n ≡ false
  still_long n bytes long = le-ltb _ _ (let le : n ≤ length bytes = ltb-false _ _ long in omega (arith, length-append bytes more))

  -- bytes or a number of a given length
  steady_field : {A : Type 0} (n : ℕ) (value : List ℕ → A) → ((bytes : List ℕ) → n ≤ length bytes → value (bytes ++ more) ≡ value bytes)
      → Steady cut more (λ bytes. cond (ltb (length bytes) n) (Err cut) (giving (value bytes) (drop n bytes))) (λ bytes. cond (ltb (length bytes) n) (Err cut) (giving (value bytes) (drop n bytes)))
  steady_field {A} n value same = record { goes_on = on; stands = stand } where
    on : (bytes : List ℕ) (x : A) (rest : List ℕ) → cond (ltb (length bytes) n) (Err cut) (giving (value bytes) (drop n bytes)) ≡ Ok (x, rest)
        → cond (ltb (length (bytes ++ more)) n) (Err cut) (giving (value (bytes ++ more)) (drop n (bytes ++ more))) ≡ Ok (x, rest ++ more)
    on bytes x rest h =
        let g = guard_ok (ltb (length bytes) n) cut (giving (value bytes) (drop n bytes)) (x, rest) h in
        let long : n ≤ length bytes = ltb-false _ _ g.0 in
        let is = ok_is {E = E} (value bytes, drop n bytes) (x, rest) g.1 in
        rw (still_long n bytes g.0, same bytes long, drop-append-le n bytes more long) (ap (λ (q : A × List ℕ). giving {E = E} q.0 (q.1 ++ more)) is)

    stand : (bytes : List ℕ) (e : E) → cond (ltb (length bytes) n) (Err cut) (giving (value bytes) (drop n bytes)) ≡ Err e → e ≢ cut
        → cond (ltb (length (bytes ++ more)) n) (Err cut) (giving (value (bytes ++ more)) (drop n (bytes ++ more))) ≡ Err e
    stand bytes e h other = absurd (other (sym (guard_err (ltb (length bytes) n) cut (value bytes, drop n bytes) e h).1))

  pub steady_bytes : (n : ℕ) → Steady cut more (bytes_at cut n) (bytes_at cut n)
  steady_bytes n = steady_field n (λ bytes. take n bytes) (λ bytes long. take-append-le n bytes more long)

  pub steady_number : (n : ℕ) → Steady cut more (number_at cut n) (number_at cut n)
  steady_number n = steady_field n (λ bytes. big_number n bytes) (λ bytes long. big_from-append n bytes more long)

  -- ---- steps in a row

  pub steady_if : {A : Type 0} (b : Bool) {p q r s : List ℕ → Result (A × List ℕ) E} → Steady cut more p r → Steady cut more q s
      → Steady cut more (λ bytes. cond b (p bytes) (q bytes)) (λ bytes. cond b (r bytes) (s bytes))
  steady_if true one other = record { goes_on = one.goes_on; stands = one.stands }
  steady_if false one other = record { goes_on = other.goes_on; stands = other.stands }

  pub steady_made : {A B : Type 0} (f : A → B) {p q : List ℕ → Result (A × List ℕ) E} → Steady cut more p q → Steady cut more (λ bytes. made_of f (p bytes)) (λ bytes. made_of f (q bytes))
  steady_made {A} {B} f {p} {q} steady = record {
    goes_on = λ bytes y rest h.
        let m = made_ok f (p bytes) y rest h in
        let read : q (bytes ++ more) ≡ Ok (m.0, rest ++ more) = steady.goes_on bytes m.0 rest m.1 in
        rw (read, m.2) refl;
    stands = λ bytes e h other.
        let read : q (bytes ++ more) ≡ Err e = steady.stands bytes e (made_err f (p bytes) e h) other in
        rw read refl;
  }

  pub steady_then : {A B : Type 0} {p q : List ℕ → Result (A × List ℕ) E} {r s : A → List ℕ → Result (B × List ℕ) E} → Steady cut more p q → ((x : A) → Steady cut more (r x) (s x))
      → Steady cut more (λ bytes. p bytes >>= λ x. r x.0 x.1) (λ bytes. q bytes >>= λ x. s x.0 x.1)
  steady_then {A} {B} {p} {q} {r} {s} first second = record { goes_on = on; stands = stand } where
    on : (bytes : List ℕ) (y : B) (rest : List ℕ) → (p bytes >>= λ x. r x.0 x.1) ≡ Ok (y, rest) → (q (bytes ++ more) >>= λ x. s x.0 x.1) ≡ Ok (y, rest ++ more)
    on bytes y rest h =
        let b = bind_ok (p bytes) (λ (x : A × List ℕ). r x.0 x.1) (y, rest) h in
        let one : q (bytes ++ more) ≡ Ok (b.0.0, b.0.1 ++ more) = first.goes_on bytes b.0.0 b.0.1 b.1 in
        rw one ((second b.0.0).goes_on b.0.1 y rest b.2)

    stand : (bytes : List ℕ) (e : E) → (p bytes >>= λ x. r x.0 x.1) ≡ Err e → e ≢ cut → (q (bytes ++ more) >>= λ x. s x.0 x.1) ≡ Err e
    stand bytes e h other =
        elim (bind_err (p bytes) (λ (x : A × List ℕ). r x.0 x.1) e h) [
          | inl one ↦ let read : q (bytes ++ more) ≡ Err e = first.stands bytes e one other in rw read refl
          | inr two ↦
              let one : q (bytes ++ more) ≡ Ok (two.0.0, two.0.1 ++ more) = first.goes_on bytes two.0.0 two.0.1 two.1 in
              rw one ((second two.0.0).stands two.0.1 e two.2 other)
        ]

  -- a step that takes no bytes
  pub steady_step : {A B : Type 0} (d : Result A E) {p q : A → List ℕ → Result (B × List ℕ) E} → ((x : A) → Steady cut more (p x) (q x)) → Steady cut more (λ bytes. d >>= λ x. p x bytes) (λ bytes. d >>= λ x. q x bytes)
  steady_step (Ok z) second = record { goes_on = (second z).goes_on; stands = (second z).stands }
  steady_step {A} {B} (Err d) second = steady_none {A = B} d

  pub steady_many : {A : Type 0} {p q : List ℕ → Result (A × List ℕ) E} → Steady cut more p q → (n : ℕ) → Steady cut more (many_at p n) (many_at q n)
  steady_many steady zero = steady_giving []
  steady_many {p = p} {q = q} steady (suc n) =
      steady_then {p = p} {q = q} {r = λ x left. made_of (λ ys. x ∷ ys) (many_at p n left)} {s = λ x left. made_of (λ ys. x ∷ ys) (many_at q n left)} steady (λ x. steady_made (λ ys. x ∷ ys) (steady_many steady n))

-- ---- what follows

-- what is read of a spelling's front that ends before its end is refused, since it is read on otherwise; and it is refused for the cut, since any other refusal stands
pub fronts_are_cut : {E A : Type 0} (cut : E) (p : List ℕ → Result (A × List ℕ) E) (R : A → List ℕ → Type 0)
    → ((e : E) → (e ≡ cut) ⊎ (e ≢ cut)) → ((more : List ℕ) → Steady cut more p p) → ((x : A) (text : List ℕ) → R x text → p text ≡ Ok (x, []))
    → FrontsAreCut cut p R
fronts_are_cut {E} {A} cut p R decide steady again x front back is some = read_of (p front) refl where
  whole : p (front ++ back) ≡ Ok (x, [])
  whole = again x (front ++ back) is

  read_of : (r : Result (A × List ℕ) E) → p front ≡ r → p front ≡ Err cut
  read_of (Ok y) read =
      let on : p (front ++ back) ≡ Ok (y.0, y.1 ++ back) = (steady back).goes_on front y.0 y.1 read in
      let none : y.1 ++ back ≡ [] = ap (λ (q : A × List ℕ). q.1) (ok_is {E = E} (y.0, y.1 ++ back) (x, []) (sym on ∙ whole)) in
      let lengths : length (y.1 ++ back) ≡ 0 = ap length none in
      absurd (omega (arith, length-append y.1 back))
  read_of (Err e) read = elim (decide e) [
    | inl same ↦ read ∙ ap (λ (d : E). Err d) same
    | inr other ↦ let both : ◌≡◌ {A = Result (A × List ℕ) E} (Err e) (Ok (x, [])) = sym ((steady back).stands front e read other) ∙ whole in absurd cc
  ]

-- the same of a reading of the whole of bytes, which refuses what stands behind a value
pub fronts_are_cut_whole : {E A : Type 0} (cut : E) (read : List ℕ → Result A E) (R : A → List ℕ → Type 0)
    → ((e : E) → (e ≡ cut) ⊎ (e ≢ cut)) → RefusalsStand cut read
    → ((front back : List ℕ) (x y : A) → read front ≡ Ok y → read (front ++ back) ≡ Ok x → length back ≡ 0) → ((x : A) (text : List ℕ) → R x text → read text ≡ Ok x)
    → FrontsAreCut cut read R
fronts_are_cut_whole {E} {A} cut read R decide stands alone again x front back is some = read_of (read front) refl where
  whole : read (front ++ back) ≡ Ok x
  whole = again x (front ++ back) is

  read_of : (r : Result A E) → read front ≡ r → read front ≡ Err cut
  read_of (Ok y) h = let none : length back ≡ 0 = alone front back x y h whole in absurd (omega arith)
  read_of (Err e) h = elim (decide e) [
    | inl same ↦ h ∙ ap (λ (d : E). Err d) same
    | inr other ↦ let both : ◌≡◌ {A = Result A E} (Err e) (Ok x) = sym (stands front back e h other) ∙ whole in absurd cc
  ]
