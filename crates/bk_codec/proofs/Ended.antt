-- A value that takes all of the bytes.
use Rattle.std.proofs.Common.{◌≡◌, ◌⊎◌, ℕ, List, [], ◌∷◌, ◌++◌, Result, Ok, Err, refl, sym, ap, subst, ◌∙◌, inl, inr}
use Rattle.std.specs.Prelude.{IfOk}
use Rattle.std.proofs.lemmas.List.{append-nil}
use Rattle.bk_codec.specs.Reading.{alone, ended, GivesAll}
use Rattle.bk_codec.specs.Spelling.{IsBytes}
use Rattle.bk_codec.proofs.Steps.{bind_ok, ok_is}
use Rattle.bk_codec.proofs.Agreement.{Agrees}

-- nothing stands behind a value that was read alone
alone_ok : {E A : Type 0} (rest : E) (x y : A) (bytes : List ℕ) → alone rest x bytes ≡ Ok y → (bytes ≡ []) × (x ≡ y)
alone_ok {E} rest x y [] e = (refl, ok_is {E = E} x y e)
alone_ok rest x y (b ∷ bytes) e = absurd cc

pub ended_takes : {E A : Type 0} {p : List ℕ → Result (A × List ℕ) E} {R : A → List ℕ → Type 0} → Agrees p R
    → (rest : E) (bytes : List ℕ) (x : A) → IsBytes bytes → ended rest (p bytes) ≡ Ok x → R x bytes
ended_takes {p = p} {R = R} agrees rest bytes x fits e =
    let b = bind_ok (p bytes) (λ y. alone rest y.0 y.1) x e in
    let end = alone_ok rest b.0.0 x b.0.1 b.2 in
    let took = agrees.takes bytes b.0.0 b.0.1 fits b.1 in
    let whole : took.text ≡ bytes = sym (append-nil took.text) ∙ ap (λ (r : List ℕ). took.text ++ r) (sym end.0) ∙ sym took.joined in
    subst (λ (y : _). R y bytes) end.1 (subst (R b.0.0) whole took.is)

pub ended_again : {E A : Type 0} {p : List ℕ → Result (A × List ℕ) E} {R : A → List ℕ → Type 0} → Agrees p R
    → (rest : E) (bytes : List ℕ) (x : A) → R x bytes → ended rest (p bytes) ≡ Ok x
ended_again {p = p} agrees rest bytes x is =
    let read : p bytes ≡ Ok (x, []) = ap p (sym (append-nil bytes)) ∙ agrees.again x bytes [] is in
    rw read refl

-- ---- what a call that reads all of its bytes answers

pub found : {E A : Type 0} {p : List ℕ → Result (A × List ℕ) E} {R : A → List ℕ → Type 0} → Agrees p R
    → (memory rest : E) (bytes : List ℕ) (answer : Result A E) → IsBytes bytes → GivesAll memory (λ x. x) answer (ended rest (p bytes)) → IfOk answer (λ x. R x bytes)
found agrees memory rest bytes (Ok x) fits gives = ended_takes agrees rest bytes x fits gives
found agrees memory rest bytes (Err e) fits gives = tt

pub only : {E A : Type 0} {p : List ℕ → Result (A × List ℕ) E} {R : A → List ℕ → Type 0} → Agrees p R
    → (memory rest : E) (bytes : List ℕ) (answer : Result A E) → GivesAll memory (λ x. x) answer (ended rest (p bytes))
    → (x : A) → R x bytes → (answer ≡ Ok x) ⊎ (answer ≡ Err memory)
only {E} agrees memory rest bytes (Ok y) gives x is =
    inl (ap (λ (z : _). Ok z) (ok_is {E = E} y x (sym gives ∙ ended_again agrees rest bytes x is)))
only agrees memory rest bytes (Err e) (inl none) x is = inr (ap (λ (z : _). Err z) none)
only agrees memory rest bytes (Err e) (inr refused) x is =
    let both : ended rest _ ≡ Ok x = ended_again agrees rest bytes x is in absurd cc
