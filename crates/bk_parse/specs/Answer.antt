-- What a call answers that reads a text.
use Rattle.std.specs.Prelude.{◌≡◌, ℕ, List, ◌++◌, Option, Some, None, option_map, Result, Ok, Err, ⊤}
use Rattle.bk_parse.specs.declared.refusal.TextRefusal.{TextRefusal}
use Rattle.bk_parse.specs.declared.refusal.TextRefusal.TheVariants as refusals

-- what the reading gives, and a refusal where it gives nothing; it may also answer want of memory
abbrev pub Answers : {A B : Type 0} → (A → B) → Result A TextRefusal → Option B → Type 0
Answers view (Ok x) read = read ≡ Some (view x)
Answers view (Err refusals.Wrong) read = read ≡ None
Answers view (Err refusals.NoMemory) read = ⊤

-- the new list is the old one with the bytes behind it that the reading gives, and a refusal where it gives none; it may also answer want of memory
abbrev pub Appends : Result Unit TextRefusal → Option (List ℕ) → List ℕ → List ℕ → Type 0
Appends (Ok x) read old new = option_map (λ bytes. old ++ bytes) read ≡ Some new
Appends (Err refusals.Wrong) read old new = read ≡ None
Appends (Err refusals.NoMemory) read old new = ⊤
