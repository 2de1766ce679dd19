-- How values are spelled as bytes: relations between a value and a list of bytes.
use Rattle.std.specs.Prelude.{◌≡◌, ℕ, ◌<◌, ◌^◌, List, [], ◌∷◌, ◌++◌, length, slice_index}
use Rattle.byteorder.specs.Endian.{big_bytes}

-- every item is a byte
abbrev pub IsBytes : List ℕ → Type 0
IsBytes bytes = (i : ℕ) → slice_index bytes i < 256

-- the bytes are a front of the first kind, and then a back of the second
pub record Then (P Q : List ℕ → Type 0) (bytes : List ℕ) : Type 0 where
  pub front : List ℕ
  pub back : List ℕ
  pub front_is : P front
  pub back_is : Q back
  pub joined : bytes ≡ front ++ back

-- the values are spelled one after another, and the bytes are all of that
abbrev pub SpellsMany : {A : Type 0} → (A → List ℕ → Type 0) → List A → List ℕ → Type 0
SpellsMany R [] bytes = bytes ≡ []
SpellsMany R (x ∷ xs) bytes = Then (R x) (SpellsMany R xs) bytes

-- a number in n bytes, the highest first
pub record SpellsNumber (n x : ℕ) (bytes : List ℕ) : Type 0 where
  pub fits : x < 256 ^ n
  pub is : bytes ≡ big_bytes n x

-- a number of 32 bits
abbrev pub SpellsWord : ℕ → List ℕ → Type 0
SpellsWord = SpellsNumber 4

-- a number of n bytes with the count of the bytes, and then the bytes
abbrev pub SpellsBytes : ℕ → List ℕ → List ℕ → Type 0
SpellsBytes n s = Then (SpellsNumber n (length s)) (λ text. text ≡ s)

-- a number of n bytes with the count of the values, and then the values one after another
abbrev pub SpellsCountedIn : {A : Type 0} → ℕ → (A → List ℕ → Type 0) → List A → List ℕ → Type 0
SpellsCountedIn n R xs = Then (SpellsNumber n (length xs)) (SpellsMany R xs)

-- the same with a word
abbrev pub SpellsCounted : {A : Type 0} → (A → List ℕ → Type 0) → List A → List ℕ → Type 0
SpellsCounted R xs = SpellsCountedIn 4 R xs
