-- Refusals that a reading never gives, such as want of memory.
use Rattle.std.proofs.Common.{◌≡◌, ℕ, zero, suc, Bool, true, false, cond, ltb, List, [], ◌∷◌, length, take, drop, Result, Ok, Err, inl, inr}
use Rattle.byteorder.specs.Endian.{big_number}
use Rattle.bk_codec.specs.Reading.{◌>>=◌, giving, made_of, byte_at, bytes_at, number_at, many_at}
use Rattle.bk_codec.proofs.Steps.{bind_err, err_is}

abbrev pub Never : {E A : Type 0} → E → (List ℕ → Result (A × List ℕ) E) → Type 0
Never e p = (bytes : List ℕ) → p bytes ≡ Err e → ⊥

module _ {E : Type 0} (e : E) where
  -- ---- one step

  pub never_none : {A : Type 0} (d : E) → (d ≡ e → ⊥) → Never {A = A} e (λ bytes. Err d)
  never_none {A} d other bytes h = other (err_is {A = A × List ℕ} d e h)

  pub never_giving : {A : Type 0} (y : A) → Never e (λ bytes. giving y bytes)
  never_giving y bytes h = cc

  pub never_byte : (cut : E) → (cut ≡ e → ⊥) → Never e (byte_at cut)
  never_byte cut other [] h = other (err_is {A = ℕ × List ℕ} cut e h)
  never_byte cut other (b ∷ bytes) h = cc

  guarded : {A : Type 0} (b : Bool) (cut : E) (y : A) (rest : List ℕ) → (cut ≡ e → ⊥) → cond b (Err cut) (giving y rest) ≡ Err e → ⊥
  guarded {A} true cut y rest other h = other (err_is {A = A × List ℕ} cut e h)
  guarded false cut y rest other h = cc

  pub never_bytes : (cut : E) (n : ℕ) → (cut ≡ e → ⊥) → Never e (bytes_at cut n)
  never_bytes cut n other bytes h = guarded (ltb (length bytes) n) cut (take n bytes) (drop n bytes) other h

  pub never_number : (cut : E) (n : ℕ) → (cut ≡ e → ⊥) → Never e (number_at cut n)
  never_number cut n other bytes h = guarded (ltb (length bytes) n) cut (big_number n bytes) (drop n bytes) other h

  -- ---- steps in a row

  pub never_if : {A : Type 0} (b : Bool) {p q : List ℕ → Result (A × List ℕ) E} → Never e p → Never e q → Never e (λ bytes. cond b (p bytes) (q bytes))
  never_if true p q bytes h = p bytes h
  never_if false p q bytes h = q bytes h

  pub never_made : {A B : Type 0} (f : A → B) {p : List ℕ → Result (A × List ℕ) E} → Never e p → Never e (λ bytes. made_of f (p bytes))
  never_made {A} {B} f {p} never bytes h =
      elim (bind_err (p bytes) (λ (x : A × List ℕ). giving {E = E} (f x.0) x.1) e h) [
        | inl first ↦ never bytes first
        | inr second ↦ let none = second.2 in cc
      ]

  pub never_then : {A B : Type 0} {p : List ℕ → Result (A × List ℕ) E} {q : A → List ℕ → Result (B × List ℕ) E} → Never e p → ((x : A) → Never e (q x)) → Never e (λ bytes. p bytes >>= λ x. q x.0 x.1)
  never_then {A} {B} {p} {q} first second bytes h =
      elim (bind_err (p bytes) (λ (x : A × List ℕ). q x.0 x.1) e h) [
        | inl one ↦ first bytes one
        | inr two ↦ second two.0.0 two.0.1 two.2
      ]

  -- a step that takes no bytes
  pub never_step : {A B : Type 0} (r : Result A E) {q : A → List ℕ → Result (B × List ℕ) E} → (r ≡ Err e → ⊥) → ((x : A) → Never e (q x)) → Never e (λ bytes. r >>= λ x. q x bytes)
  never_step (Ok z) first second bytes h = second z bytes h
  never_step {A} {B} (Err d) first second bytes h = let same : d ≡ e = err_is {A = B × List ℕ} d e h in first (let r : ◌≡◌ {A = Result A E} (Err d) (Err e) = cc in r)

  pub never_many : {A : Type 0} {p : List ℕ → Result (A × List ℕ) E} → Never e p → (n : ℕ) → Never e (many_at p n)
  never_many never zero bytes h = never_giving [] bytes h
  never_many {p = p} never (suc n) bytes h =
      never_then {p = p} {q = λ x left. made_of (λ ys. x ∷ ys) (many_at p n left)} never (λ x. never_made (λ ys. x ∷ ys) (never_many never n)) bytes h
