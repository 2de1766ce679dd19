-- What `asm` and `disasm` have to do with each other: what `disasm` prints of a file is a listing of its value, and of each listing of it `asm` makes the canonical file.
use Rattle.std.specs.Prelude.{◌≡◌, ℕ, List, [], ◌∷◌, codes, Option, Some}
use Rattle.bk_codec.specs.Spelling.{IsBytes}
use Rattle.bk_port.specs.Known.{after_known}
use Rattle.beam_module.specs.Canonical.{canonical_file}
use Rattle.beam_module.specs.File.{FileChunk, IsFile}
use Rattle.listing_out.specs.Listable.{IsListable}
use Rattle.listing_out.specs.Listing.{IsListing}
use Rattle.beam_cli.specs.declared.status.Status.{Status}
use Rattle.beam_cli.specs.declared.status.Status.TheVariants.{Done, Grammar}

-- `asm` of a file that holds a listing of a value doesn't refuse it, and writes the canonical file of the value
abbrev pub Assembles : (List ℕ → Option (List ℕ)) → List (List ℕ) → Status → Option (List ℕ) → Option (List ℕ) → Type 0
Assembles holds words status old new =
    (name text : List ℕ) (v : List FileChunk) → words ≡ codes "asm" ∷ name ∷ [] → holds name ≡ Some text → IsListable v → IsListing v text
    → (status ≡ Grammar → ⊥) × (status ≡ Done → new ≡ after_known old (canonical_file v))

-- a listing of the value is written
pub record WritesListing (v : List FileChunk) (old new : Option (List ℕ)) : Type 0 where
  pub text : List ℕ
  pub listing : IsListing v text
  pub written : new ≡ after_known old text

-- `disasm` of a file of a value doesn't refuse it, and writes a listing of the value, which `asm` reads
abbrev pub Lists : (List ℕ → Option (List ℕ)) → List (List ℕ) → Status → Option (List ℕ) → Option (List ℕ) → Type 0
Lists holds words status old new =
    (name bytes : List ℕ) (v : List FileChunk) → words ≡ codes "disasm" ∷ name ∷ [] → holds name ≡ Some bytes → IsBytes bytes → IsFile v bytes
    → IsListable v × (status ≡ Grammar → ⊥) × (status ≡ Done → WritesListing v old new)
