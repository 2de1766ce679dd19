-- Why bytes are no counted values: where they stop being the spelling of any.
use Rattle.std.specs.Prelude.{◌≡◌, ◌⊎◌, ℕ, ◌+◌, ◌<◌, List, ◌++◌, length}
use Rattle.bk_codec.specs.Spelling.{IsBytes, SpellsMany, SpellsWord, SpellsCounted}

-- a count, then fewer values than it says, and then bytes that are refused as the next value; `first` is the number of the first value
pub record StopsAt {A E : Type 0} (R : A → List ℕ → Type 0) (bad : ℕ → List ℕ → E → Type 0) (first : ℕ) (bytes : List ℕ) (e : E) : Type 0 where
  pub count : ℕ
  pub before : List A
  pub word : List ℕ
  pub front : List ℕ
  pub rest : List ℕ
  pub joined : bytes ≡ word ++ (front ++ rest)
  pub count_is : SpellsWord count word
  pub before_are : SpellsMany R before front
  pub fewer : length before < count
  pub why : bad (first + length before) rest e

-- all of the values, and bytes behind them
pub record GoesOn {A : Type 0} (R : A → List ℕ → Type 0) (bytes : List ℕ) : Type 0 where
  pub values : List A
  pub text : List ℕ
  pub rest : List ℕ
  pub joined : bytes ≡ text ++ rest
  pub values_are : SpellsCounted R values text
  pub more : 0 < length rest

-- the count is cut, a value is refused, or bytes stand behind the last value
abbrev pub RefusesCounted : {A E : Type 0} → (A → List ℕ → Type 0) → (ℕ → List ℕ → E → Type 0) → E → E → ℕ → List ℕ → E → Type 0
RefusesCounted R bad cut rest first bytes e =
    ((e ≡ cut) × (length bytes < 4)) ⊎ (StopsAt R bad first bytes e ⊎ ((e ≡ rest) × GoesOn R bytes))

-- every list of bytes is the spelling of just one value, or it is refused for just one reason
pub record IsDecided {A E : Type 0} (spells : A → List ℕ → Type 0) (refuses : List ℕ → E → Type 0) : Type 0 where
  pub each : (bytes : List ℕ) → IsBytes bytes → ((x : A) × spells x bytes) ⊎ ((e : E) × refuses bytes e)
  pub one_value : (bytes : List ℕ) (x y : A) → spells x bytes → spells y bytes → x ≡ y
  pub one_reason : (bytes : List ℕ) (d e : E) → refuses bytes d → refuses bytes e → d ≡ e
  pub not_both : (bytes : List ℕ) (x : A) (e : E) → spells x bytes → refuses bytes e → ⊥
