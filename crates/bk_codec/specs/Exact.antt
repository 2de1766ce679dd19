-- A reading and a relation say the same: what is read is spelled there, and what is spelled there is read.
use Rattle.std.specs.Prelude.{◌≡◌, ◌≢◌, ◌↔◌, ℕ, ◌<◌, List, ◌++◌, length, IsErr, Result, Ok, Err}
use Rattle.bk_codec.specs.Spelling.{IsBytes}

-- a reading of the whole of bytes gives a value exactly where the relation holds, and refuses exactly where it holds of none
pub record IsExact {E A : Type 0} (read : List ℕ → Result A E) (R : A → List ℕ → Type 0) : Type 0 where
  pub accepted : (bytes : List ℕ) (x : A) → IsBytes bytes → (read bytes ≡ Ok x) ↔ R x bytes
  pub refused : (bytes : List ℕ) → IsBytes bytes → IsErr (read bytes) ↔ ((x : A) → R x bytes → ⊥)

-- the bytes are a text of this kind, and then the rest
pub record Begins (P : List ℕ → Type 0) (bytes rest : List ℕ) : Type 0 where
  pub text : List ℕ
  pub is : P text
  pub joined : bytes ≡ text ++ rest

-- a reading of what stands at the front gives a value and the bytes behind it exactly where the relation holds of that front, and refuses exactly where it holds of none
pub record IsExactInFront {E A : Type 0} (read : List ℕ → Result (A × List ℕ) E) (R : A → List ℕ → Type 0) : Type 0 where
  pub accepted : (bytes : List ℕ) (x : A) (rest : List ℕ) → IsBytes bytes → (read bytes ≡ Ok (x, rest)) ↔ Begins (R x) bytes rest
  pub refused : (bytes : List ℕ) → IsBytes bytes → IsErr (read bytes) ↔ ((x : A) (rest : List ℕ) → Begins (R x) bytes rest → ⊥)

-- a refusal other than `cut` stands, whatever bytes follow
abbrev pub RefusalsStand : {E A : Type 0} → E → (List ℕ → Result A E) → Type 0
RefusalsStand {E} cut read = (bytes more : List ℕ) (e : E) → read bytes ≡ Err e → e ≢ cut → read (bytes ++ more) ≡ Err e

-- a front of a spelling that ends before its end is `cut`
abbrev pub FrontsAreCut : {E A B : Type 0} → E → (List ℕ → Result B E) → (A → List ℕ → Type 0) → Type 0
FrontsAreCut {A = A} cut read R = (x : A) (front back : List ℕ) → R x (front ++ back) → 0 < length back → read front ≡ Err cut
