-- At which line a text stops being a listing.
use Rattle.std.specs.Prelude.{◌≡◌, ◌⊎◌, ℕ, suc, List, [], ◌∷◌, ◌++◌, length}
use Rattle.beam_module.specs.File.{FileChunk}
use Rattle.listing_out.specs.Lines.{lines}
use Rattle.listing_out.specs.Listable.{IsListable}
use Rattle.listing_out.specs.Listing.{kept, raw_lines}
use Rattle.listing_in.specs.declared.refusal.ListingRefusal.{ListingRefusal}
use Rattle.listing_in.specs.declared.refusal.ListingRefusal.TheVariants as refusals

-- lines are the first lines of a file
abbrev pub Begins : List (List ℕ) → Type 0
Begins front = (v : List FileChunk) × (others : List (List ℕ)) × IsListable v × (lines v ≡ front ++ others)

-- the line of this number, counted from 1, is the first such that what is left of the lines up to and with it are the first lines of no file
pub record IsWrongAt (number : ℕ) (text : List ℕ) : Type 0 where
  pub before : List (List ℕ)
  pub line : List ℕ
  pub after : List (List ℕ)
  pub whole : raw_lines text ≡ before ++ line ∷ after
  pub place : number ≡ suc (length before)
  pub front : Begins (kept before)
  pub stops : Begins (kept (before ++ line ∷ [])) → ⊥

-- no line is left, which is wrong at the first
abbrev pub IsEmptyAt : ℕ → List ℕ → Type 0
IsEmptyAt number text = (number ≡ 1) × (kept (raw_lines text) ≡ [])

abbrev pub StopsAt : ℕ → List ℕ → Type 0
StopsAt number text = IsEmptyAt number text ⊎ IsWrongAt number text

-- the line that a refusal names is that one
abbrev pub IsRefused : ListingRefusal → List ℕ → Type 0
IsRefused (refusals.Line number why) text = StopsAt number text
IsRefused (refusals.Twice number id) text = StopsAt number text
IsRefused refusals.NoMemory text = ⊥
