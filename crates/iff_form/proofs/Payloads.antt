-- The chunks of a form of bytes have ids of four bytes, and payloads of bytes.
use Rattle.std.proofs.Common.{◌≡◌, ℕ, ◌+◌, List, [], ◌∷◌, ◌++◌, length, subst, inl, inr}
use Rattle.std.specs.Prelude.{Some, bytes_eq}
use Rattle.std.specs.List.{AllByRecursion}
use Rattle.byteorder.specs.Endian.{big_bytes}
use Rattle.bk_codec.specs.Spelling.{IsBytes, SpellsMany}
use Rattle.bk_codec.proofs.Agreement.{IsBytes-front, IsBytes-back}
use Rattle.bk_codec.proofs.Steps.{chosen}
use Rattle.iff_form.specs.declared.id.Id.{Id}
use Rattle.iff_form.specs.Canonical.{ChunkMeetsType}
use Rattle.iff_form.specs.Chunk.{PlainChunk, SpellsChunk}
use Rattle.iff_form.specs.Form.{IsForm, head_of, payload_of}

chunk_meets : (c : PlainChunk) (text : List ℕ) → SpellsChunk c text → IsBytes text → ChunkMeetsType c
chunk_meets c text is fits =
    let padded : List ℕ = c.payload ++ is.padding in
    let size : List ℕ = big_bytes 4 (length c.payload) in
    let whole : IsBytes (c.id.0 ++ (size ++ padded)) = subst IsBytes is.joined fits in
    record {
      id = is.id;
      id_bytes = IsBytes-front c.id.0 (size ++ padded) whole;
      payload = IsBytes-front c.payload is.padding (IsBytes-back size padded (IsBytes-back c.id.0 (size ++ padded) whole));
    }

chunks_meet : (chunks : List PlainChunk) (body : List ℕ) → SpellsMany SpellsChunk chunks body → IsBytes body → AllByRecursion ChunkMeetsType chunks
chunks_meet [] body are fits = tt
chunks_meet (c ∷ chunks) body are fits =
    let parts : IsBytes (are.front ++ are.back) = subst IsBytes are.joined fits in
    (chunk_meets c are.front are.front_is (IsBytes-front are.front are.back parts), chunks_meet chunks are.back are.back_is (IsBytes-back are.front are.back parts))

pub form_meets : (chunks : List PlainChunk) (bytes : List ℕ) → IsForm chunks bytes → IsBytes bytes → AllByRecursion ChunkMeetsType chunks
form_meets chunks bytes is fits =
    chunks_meet chunks is.body is.spelled (IsBytes-back (head_of (4 + length is.body)) is.body (subst IsBytes is.joined fits))

payloads_of : (chunks : List PlainChunk) → AllByRecursion ChunkMeetsType chunks → AllByRecursion (λ c. IsBytes c.payload) chunks
payloads_of [] meet = tt
payloads_of (c ∷ chunks) meet = (meet.0.payload, payloads_of chunks meet.1)

pub payloads_fit : (chunks : List PlainChunk) (bytes : List ℕ) → IsForm chunks bytes → IsBytes bytes → AllByRecursion (λ c. IsBytes c.payload) chunks
payloads_fit chunks bytes is fits = payloads_of chunks (form_meets chunks bytes is fits)

-- the payload at an id
pub payload_at_fits : (id : Id) (chunks : List PlainChunk) (payload : List ℕ) → AllByRecursion (λ c. IsBytes c.payload) chunks → payload_of id chunks ≡ Some payload → IsBytes payload
payload_at_fits id [] payload fits h = absurd cc
payload_at_fits id (c ∷ chunks) payload fits h =
    elim (chosen (bytes_eq c.id.0 id.0) (Some c.payload) (payload_of id chunks) (Some payload) h) [
      | inl here ↦ let same : c.payload ≡ payload = cc in subst IsBytes same fits.0
      | inr there ↦ payload_at_fits id chunks payload fits.1 there.1
    ]
