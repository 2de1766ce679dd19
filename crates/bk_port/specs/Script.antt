-- What a host and a sink that fail at given calls are seen as.
use Rattle.std.specs.Prelude.{◌≡◌, ℕ, ◌<◌, ◌⊎◌, false, List, length, Option}
use Rattle.std.specs.List.{Contains}
use Rattle.bk_port.specs.Listed.{is_listed, rest_at}

-- the bytes that were written and how many more it takes; the most bytes that one write takes, the
-- number of the write that fails, how many writes there were, and how many failed
pub record ScriptStore : Type 0 where
  pub bytes : List ℕ
  pub room : ℕ
  pub piece : ℕ
  pub fail_at : ℕ
  pub writes : ℕ
  pub faults : ℕ

-- the write of this number fails: there are bytes to write, but no room or the script lets none through
abbrev pub FailsAt : ScriptStore → ℕ → List ℕ → Type 0
FailsAt store number buf = (0 < length buf) × ((store.room ≡ 0) ⊎ (number ≡ store.fail_at))

-- the files, the numbers of the calls that fail and the most bytes that one read gives; the place of
-- the started file and how many of its bytes were read; how many calls there were, and how many failed
pub record ScriptFiles : Type 0 where
  pub files : List (List ℕ × List ℕ)
  pub fails : List ℕ
  pub piece : ℕ
  pub place : Option ℕ
  pub at : ℕ
  pub calls : ℕ
  pub faults : ℕ

-- what is left of the started file
abbrev pub rest_of : ScriptFiles → List ℕ
rest_of host = rest_at host.files host.place host.at

-- the call of this number on this name fails: the script lists it, or no file has the name
abbrev pub CallFails : ScriptFiles → ℕ → List ℕ → Type 0
CallFails host number name = Contains host.fails number ⊎ (is_listed host.files name ≡ false)

-- files and script are the same
pub record SameScript (old new : ScriptFiles) : Type 0 where
  pub files : new.files ≡ old.files
  pub fails : new.fails ≡ old.fails
  pub piece : new.piece ≡ old.piece
