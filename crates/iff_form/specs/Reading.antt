-- Reading a form from the left, with the first refusal that is met.
use Rattle.std.specs.Prelude.{ℕ, zero, suc, ◌-◌, ◌==◌, ◌&&◌, List, [], ◌∷◌, ◌++◌, length, take, drop, Result, Ok, Err, if◌then◌else◌, codes, nat_eq, nat_le, not, Bool}
use Rattle.std.specs.List.{list_any, starts_with}
use Rattle.std.specs.Str.{bytes_eq}
use Rattle.byteorder.specs.Endian.{big_number}
use Rattle.bk_codec.specs.Reading.{◌>>=◌, giving, bytes_at, number_at}
use Rattle.iff_form.specs.declared.refusal.FormRefusal.{FormRefusal}
use Rattle.iff_form.specs.declared.refusal.FormRefusal.TheVariants.{Gzip, NotBeam, Size, ChunkCut, Twice}
use Rattle.iff_form.specs.Chunk.{PlainChunk, padding_of, is_same_id}

-- the chunk at the front; `cut` where it passes the end
unfoldable pub chunk_at : FormRefusal → List ℕ → Result (PlainChunk × List ℕ) FormRefusal
chunk_at cut bytes = do
  id ← bytes_at cut 4 bytes
  size ← number_at cut 4 id.1
  payload ← bytes_at cut size.0 size.1
  padding ← bytes_at cut (padding_of size.0) payload.1
  giving (record { id = record { 0 = id.0 }; payload = payload.0 }) padding.1

-- these chunks, and those that follow up to the end of a file of so many bytes; n is at least the number of the bytes
unfoldable pub chunks_from : ℕ → ℕ → List PlainChunk → List ℕ → Result (List PlainChunk) FormRefusal
chunks_from total n before [] = Ok before
chunks_from total zero before (b ∷ bytes) = Ok before
chunks_from total (suc n) before (b ∷ bytes) =
    let at : ℕ = total - length (b ∷ bytes) in
    chunk_at (ChunkCut at) (b ∷ bytes) >>= λ x. if list_any (is_same_id x.0) before then Err (Twice x.0.id at) else chunks_from total n (before ++ x.0 ∷ []) x.1

-- the two marks stand
abbrev pub is_marked : List ℕ → Bool
is_marked bytes = nat_le 12 (length bytes) && bytes_eq (take 4 bytes) (codes "FOR1") && bytes_eq (take 4 (drop 8 bytes)) (codes "BEAM")

-- the size word, which stands behind the first mark
abbrev pub stated_size : List ℕ → ℕ
stated_size bytes = big_number 4 (drop 4 bytes)

-- what stands before the chunks, and says how long the file is
unfoldable pub size_of : List ℕ → Result ℕ FormRefusal
size_of bytes =
    if starts_with nat_eq bytes (31 ∷ 139 ∷ []) then Err Gzip
    else if not (is_marked bytes) then Err NotBeam
    else if not (stated_size bytes == length bytes - 8) then Err (Size (stated_size bytes) (length bytes - 8))
    else Ok (stated_size bytes)

-- the chunks of the form that the bytes are
unfoldable pub form_of : List ℕ → Result (List PlainChunk) FormRefusal
form_of bytes = size_of bytes >>= λ _. chunks_from (length bytes) (length bytes) [] (drop 12 bytes)
