-- Why bytes are no form, in the order in which the reasons are looked at: each reason by what the bytes are, with no word of how they are read.
use Rattle.std.specs.Prelude.{◌≡◌, ◌≢◌, ℕ, ◌+◌, ◌-◌, ◌<◌, ◌≤◌, List, [], ◌∷◌, ◌++◌, length, take, drop, codes, Any}
use Rattle.byteorder.specs.Endian.{big_number}
use Rattle.bk_codec.specs.Spelling.{SpellsMany}
use Rattle.iff_form.specs.declared.id.Id.{Id}
use Rattle.iff_form.specs.declared.refusal.FormRefusal.{FormRefusal}
use Rattle.iff_form.specs.declared.refusal.FormRefusal.TheVariants.{Gzip, NotBeam, Size, ChunkCut, Twice, NoMemory}
use Rattle.iff_form.specs.Chunk.{PlainChunk, SpellsChunk}
use Rattle.iff_form.specs.Form.{AreDistinct}

-- the bytes begin as a gzip file does
abbrev pub IsGzip : List ℕ → Type 0
IsGzip bytes = take 2 bytes ≡ 31 ∷ 139 ∷ []

-- there are twelve bytes, and the two marks stand among them
pub record IsMarked (bytes : List ℕ) : Type 0 where
  pub long : 12 ≤ length bytes
  pub first : take 4 bytes ≡ codes "FOR1"
  pub second : take 4 (drop 8 bytes) ≡ codes "BEAM"

-- the head is that of a form, and the size word is the length less 8
pub record IsHeaded (bytes : List ℕ) : Type 0 where
  pub other : ¬ IsGzip bytes
  pub marked : IsMarked bytes
  pub sized : big_number 4 (drop 4 bytes) ≡ length bytes - 8

-- whole chunks with ids that differ stand up to this offset, where the rest begins
pub record GoesTo (bytes : List ℕ) (chunks : List PlainChunk) (at : ℕ) (rest : List ℕ) : Type 0 where
  pub headed : IsHeaded bytes
  pub text : List ℕ
  pub spelled : SpellsMany SpellsChunk chunks text
  pub distinct : AreDistinct chunks
  pub joined : drop 12 bytes ≡ text ++ rest
  pub here : at ≡ 12 + length text

-- some bytes are left, but no chunk begins them
pub record IsCut (rest : List ℕ) : Type 0 where
  pub some : 0 < length rest
  pub none : (c : PlainChunk) (text more : List ℕ) → SpellsChunk c text → rest ≡ text ++ more → ⊥

-- the next chunk has this id, and so has one before
pub record IsTwice (chunks : List PlainChunk) (id : Id) (rest : List ℕ) : Type 0 where
  pub payload : List ℕ
  pub text : List ℕ
  pub more : List ℕ
  pub spelled : SpellsChunk (record { id = id; payload = payload }) text
  pub joined : rest ≡ text ++ more
  pub before : Any (λ c. c.id ≡ id) chunks

abbrev pub Refuses : FormRefusal → List ℕ → Type 0
Refuses Gzip bytes = IsGzip bytes
Refuses NotBeam bytes = ¬ IsGzip bytes × ¬ IsMarked bytes
Refuses (Size stated found) bytes =
    ¬ IsGzip bytes × IsMarked bytes × (stated ≡ big_number 4 (drop 4 bytes)) × (found ≡ length bytes - 8) × (stated ≢ found)
Refuses (ChunkCut at) bytes = (chunks : List PlainChunk) × (rest : List ℕ) × GoesTo bytes chunks at rest × IsCut rest
Refuses (Twice id at) bytes = (chunks : List PlainChunk) × (rest : List ℕ) × GoesTo bytes chunks at rest × IsTwice chunks id rest
Refuses NoMemory bytes = ⊥
