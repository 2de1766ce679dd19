-- A reading of whole texts, and the text of a value that it reads back.
use Rattle.std.specs.Prelude.{◌≡◌, ℕ, List, Option, Some}

-- what is read has the text that it was read from, and the text of each of these values is read back
pub record Inverts {A : Type 0} (read : List ℕ → Option A) (Is : A → Type 0) (text : A → List ℕ) : Type 0 where
  pub found : (t : List ℕ) (x : A) → read t ≡ Some x → Is x × (text x ≡ t)
  pub only : (x : A) → Is x → read (text x) ≡ Some x
