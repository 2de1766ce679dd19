-- A reading that agrees with a spelling says the same as it, of the front of bytes and of the whole of them.
use Rattle.std.proofs.Common.{◌≡◌, ℕ, List, Result, Ok, Err, refl, ap, ◌∙◌}
use Rattle.std.specs.Prelude.{◌↔◌, IsErr}
use Rattle.bk_codec.specs.Reading.{ended}
use Rattle.bk_codec.specs.Spelling.{IsBytes}
use Rattle.bk_codec.specs.Exact.{IsExact, IsExactInFront, Begins}
use Rattle.bk_codec.proofs.Agreement.{Agrees}
use Rattle.bk_codec.proofs.Ended.{ended_takes, ended_again}

-- an answer is a refusal exactly where it is no value
refused_where : {E A : Type 0} (read : Result A E) (P : A → Type 0) → ((x : A) → (read ≡ Ok x) ↔ P x) → IsErr read ↔ ((x : A) → P x → ⊥)
refused_where (Ok y) P accepted = (λ none. absurd cc, λ none. absurd (none y ((accepted y).0 refl)))
refused_where (Err e) P accepted = (λ _ x is. let both = (accepted x).1 is in cc, λ _. refl)

pub exact_on_bytes : {E A : Type 0} {read : List ℕ → Result A E} {R : A → List ℕ → Type 0}
    → ((bytes : List ℕ) (x : A) → IsBytes bytes → read bytes ≡ Ok x → R x bytes) → ((bytes : List ℕ) (x : A) → IsBytes bytes → R x bytes → read bytes ≡ Ok x) → IsExact read R
exact_on_bytes {read = read} {R = R} found again = record {
  accepted = λ bytes x fits. (found bytes x fits, again bytes x fits);
  refused = λ bytes fits. refused_where (read bytes) (λ x. R x bytes) (λ x. (found bytes x fits, again bytes x fits));
}

pub exact_from : {E A : Type 0} {read : List ℕ → Result A E} {R : A → List ℕ → Type 0}
    → ((bytes : List ℕ) (x : A) → IsBytes bytes → read bytes ≡ Ok x → R x bytes) → ((bytes : List ℕ) (x : A) → R x bytes → read bytes ≡ Ok x) → IsExact read R
exact_from found again = exact_on_bytes found (λ bytes x fits is. again bytes x is)

-- the whole of the bytes
pub exact_whole : {E A : Type 0} {p : List ℕ → Result (A × List ℕ) E} {R : A → List ℕ → Type 0} → Agrees p R → (rest : E) → IsExact (λ bytes. ended rest (p bytes)) R
exact_whole agrees rest = exact_from (ended_takes agrees rest) (ended_again agrees rest)

begins : {E A : Type 0} {p : List ℕ → Result (A × List ℕ) E} {R : A → List ℕ → Type 0} → Agrees p R
    → (bytes : List ℕ) (x : A) (rest : List ℕ) → IsBytes bytes → p bytes ≡ Ok (x, rest) → Begins (R x) bytes rest
begins agrees bytes x rest fits read =
    let took = agrees.takes bytes x rest fits read in
    record { text = took.text; is = took.is; joined = took.joined }

read_again : {E A : Type 0} {p : List ℕ → Result (A × List ℕ) E} {R : A → List ℕ → Type 0} → Agrees p R
    → (bytes : List ℕ) (x : A) (rest : List ℕ) → Begins (R x) bytes rest → p bytes ≡ Ok (x, rest)
read_again {p = p} agrees bytes x rest begin = ap p begin.joined ∙ agrees.again x begin.text rest begin.is

-- what stands in front
pub exact_front : {E A : Type 0} {p : List ℕ → Result (A × List ℕ) E} {R : A → List ℕ → Type 0} → Agrees p R → IsExactInFront p R
exact_front {A = A} {p = p} {R = R} agrees = record {
  accepted = λ bytes x rest fits. (begins agrees bytes x rest fits, read_again agrees bytes x rest);
  refused = λ bytes fits.
      let refusal = refused_where (p bytes) (λ (q : A × List ℕ). Begins (R q.0) bytes q.1) (λ q. (begins agrees bytes q.0 q.1 fits, read_again agrees bytes q.0 q.1)) in
      (λ e x rest is. refusal.0 e (x, rest) is, λ none. refusal.1 (λ q is. none q.0 q.1 is));
}
