-- The canonical spelling of chunks is a form of them, and how long forms are.
use Rattle.std.proofs.Common.{◌≡◌, ℕ, ◌+◌, ◌^◌, ◌<◌, ◌≤◌, List, [], ◌∷◌, ◌++◌, length, get_or, refl, sym, ap, arith, length-append}
use Rattle.std.specs.List.{AllByRecursion, flat_map, sum_by}
use Rattle.std.proofs.lemmas.List.{get_or-map, length-map, length-replicate}
use Rattle.std.proofs.lemmas.List.Concat.{flat_map-cons}
use Rattle.std.proofs.lemmas.List.Sums.{get_or-le-sum_by, sum_by-cons}
use Rattle.byteorder.specs.Endian.{big_bytes}
use Rattle.bk_codec.specs.Spelling.{SpellsMany}
use Rattle.iff_form.specs.declared.chunk.Chunk.{Chunk}
use Rattle.iff_form.specs.Canonical.{ChunkMeetsType, canonical_chunk, canonical_form, zeros_behind}
use Rattle.iff_form.specs.Chunk.{PlainChunk, SpellsChunk, chunk_size, padding_of, plain, plains}
use Rattle.iff_form.specs.Form.{AreDistinct, IsForm, form_size, head_of}
use Rattle.iff_form.proofs.Walk.{length-chunks}

-- ---- how long a form is

pub form_len : (chunks : List PlainChunk) (bytes : List ℕ) → IsForm chunks bytes → length bytes ≡ 8 + form_size chunks
form_len chunks bytes is =
    omega (arith, ap length is.joined, length-append (head_of (4 + length is.body)) is.body, length-chunks chunks is.body is.spelled)

pub form_fits : (chunks : List PlainChunk) (bytes : List ℕ) → IsForm chunks bytes → form_size chunks < 2 ^ 32
form_fits chunks bytes is = omega (arith, is.fits, length-chunks chunks is.body is.spelled)

-- the payload of each chunk is shorter
pub payload_short : (chunks : List Chunk) (i : ℕ) (d : Chunk) → form_size (plains chunks) < 2 ^ 32 → i < length chunks → length (get_or chunks i d).payload.now < 2 ^ 32
payload_short chunks i d fits below =
    let within : chunk_size (get_or (plains chunks) i (plain d)) ≤ sum_by chunk_size (plains chunks) = get_or-le-sum_by chunk_size (plains chunks) i (plain d) (omega (arith, below, length-map chunks plain)) in
    let one = ap chunk_size (get_or-map plain chunks i d (plain d) below) in
    omega (arith, fits, within, one)

-- ---- the canonical spelling

-- no payload is as long as a size that fits into a word
payload_below : (c : PlainChunk) (n : ℕ) → chunk_size c + n < 2 ^ 32 → length c.payload < 2 ^ 32
payload_below c n below = omega arith

chunk_spelled : (c : PlainChunk) → ChunkMeetsType c → length c.payload < 2 ^ 32 → SpellsChunk c (canonical_chunk c)
chunk_spelled c meets below =
    record { padding = zeros_behind (length c.payload); id = meets.id; size = below; padded = length-replicate (padding_of (length c.payload)) 0; joined = refl }

chunks_spelled : (chunks : List PlainChunk) → AllByRecursion ChunkMeetsType chunks → sum_by chunk_size chunks < 2 ^ 32 → SpellsMany SpellsChunk chunks (flat_map canonical_chunk chunks)
chunks_spelled [] meet below = refl
chunks_spelled (c ∷ chunks) meet below =
    let sizes : chunk_size c + sum_by chunk_size chunks < 2 ^ 32 = omega (arith, below, sum_by-cons chunk_size c chunks) in
    record {
      front = canonical_chunk c;
      back = flat_map canonical_chunk chunks;
      front_is = chunk_spelled c meet.0 (payload_below c (sum_by chunk_size chunks) sizes);
      back_is = chunks_spelled chunks meet.1 (omega (arith, sizes));
      joined = flat_map-cons canonical_chunk c chunks;
    }

pub canonical_spelled : (chunks : List PlainChunk) → AllByRecursion ChunkMeetsType chunks → AreDistinct chunks → form_size chunks < 2 ^ 32 → IsForm chunks (canonical_form chunks)
canonical_spelled chunks meet distinct below =
    let body : List ℕ = flat_map canonical_chunk chunks in
    let spelled : SpellsMany SpellsChunk chunks body = chunks_spelled chunks meet (omega (arith, below)) in
    let size : sum_by chunk_size chunks ≡ length body = sym (length-chunks chunks body spelled) in
    record { body = body; spelled = spelled; distinct = distinct; fits = omega (arith, below, size); joined = ap (λ (n : ℕ). head_of (4 + n) ++ body) size }

-- ---- how long the canonical spelling is, whether its size fits into a word or not

pub length-canonical_chunk : (c : PlainChunk) → length c.id.0 ≡ 4 → length (canonical_chunk c) ≡ chunk_size c
length-canonical_chunk c id =
    let zeros : List ℕ = zeros_behind (length c.payload) in
    omega (arith, id, length-append c.id.0 (big_bytes 4 (length c.payload) ++ (c.payload ++ zeros)), length-append c.payload zeros, length-replicate {A = ℕ} (padding_of (length c.payload)) 0)

length-canonical_chunks : (chunks : List PlainChunk) → AllByRecursion ChunkMeetsType chunks → length (flat_map canonical_chunk chunks) ≡ sum_by chunk_size chunks
length-canonical_chunks [] meet = refl
length-canonical_chunks (c ∷ chunks) meet =
    omega (
      arith,
      ap length (flat_map-cons canonical_chunk c chunks),
      length-append (canonical_chunk c) (flat_map canonical_chunk chunks),
      length-canonical_chunk c meet.0.id,
      length-canonical_chunks chunks meet.1,
      sum_by-cons chunk_size c chunks,
    )

pub length-canonical : (chunks : List PlainChunk) → AllByRecursion ChunkMeetsType chunks → length (canonical_form chunks) ≡ 8 + form_size chunks
length-canonical chunks meet =
    omega (arith, length-append (head_of (form_size chunks)) (flat_map canonical_chunk chunks), length-canonical_chunks chunks meet)
