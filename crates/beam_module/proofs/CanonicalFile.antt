-- The canonical file of a value: what is put, that it is a file of the value, and that no other file of it is shorter.
use Rattle.std.proofs.Common.{◌≡◌, ℕ, ◌+◌, ◌^◌, ◌<◌, ◌≤◌, true, false, List, [], ◌∷◌, length, get_or, take, Some, None, refl, ap, sym, subst, ◌∙◌, arith, length-append, All}
use Rattle.std.specs.Prelude.{bytes_eq}
use Rattle.std.specs.List.{AllByRecursion, AllZip, IsDistinct, flat_map, sum_by}
use Rattle.std.proofs.lemmas.List.Elements.{All-nil, All-cons}
use Rattle.std.proofs.lemmas.List.Sums.{sum_by-cons, sum_by_more_le}
use Rattle.std.proofs.lemmas.Map.Keys.{IsDistinct-cons, IsDistinct-head, IsDistinct-tail}
use Rattle.std.proofs.lemmas.Slice.Eq.{bytes_eq-Decides}
use Rattle.bk_codec.specs.Spelling.{IsBytes, SpellsMany}
use Rattle.iff_form.specs.declared.id.Id.{Id}
use Rattle.iff_form.specs.Canonical.{ChunkMeetsType as PlainMeetsType, canonical_chunk, canonical_form}
use Rattle.iff_form.specs.Chunk.{PlainChunk, SpellsChunk, chunk_size, padding_of, is_same_id as is_same_plain}
use Rattle.iff_form.specs.Form.{AreDistinct, IsForm, form_size, head_of}
use Rattle.iff_form.proofs.Canon.{length-canonical_chunk}
use Rattle.iff_form.proofs.Walk.{length-chunks}
use Rattle.code_chunk.specs.declared.code.CodeVal.{CodeVal}
use Rattle.code_chunk.specs.Canonical.{canonical_instr, canonical_code}
use Rattle.code_chunk.specs.Code.{CodeMeetsType, IsProperInstr, IsProperCode}
use Rattle.code_chunk.specs.Spelling.{SpellsCode}
use Rattle.beam_module.specs.declared.chunk_value.ChunkVal.TheVariants.{Code, Raw}
use Rattle.beam_module.specs.File.{AreChunks, FileChunk, HoldsItsKind, IsChunk, IsFile, code_id, is_same_id}
use Rattle.beam_module.specs.Canonical.{ChunkMeetsType, FileMeetsType, HasProperOperands, IsCanonical, IsWritable, IsWrittenAs, canonical_chunk_of, canonical_chunks, canonical_file, canonical_payload, code_in}
use Rattle.beam_module.proofs.Values.{values_are}

-- ---- the code, of which there is one at most

raw_behind : (id : Id) (c : CodeVal) (payload : List ℕ) (chunks : List FileChunk) → id ≡ code_id → AllByRecursion HoldsItsKind chunks
    → AllByRecursion (λ w. is_same_id (id, Code c) w ≡ false) chunks → All (λ w. IsWrittenAs payload w.1) chunks
raw_behind id c payload [] is kinds apart = All-nil (λ (w : FileChunk). IsWrittenAs payload w.1)
raw_behind id c payload ((other, Code d) ∷ chunks) is kinds apart =
    let same : bytes_eq id.0 other.0 ≡ true = (bytes_eq-Decides id.0 other.0).1 (ap (λ (i : Id). i.0) (is ∙ sym kinds.0)) in
    let differ : bytes_eq id.0 other.0 ≡ false = apart.0 in
    absurd cc
raw_behind id c payload ((other, Raw b) ∷ chunks) is kinds apart =
    All-cons (λ (w : FileChunk). IsWrittenAs payload w.1) (other, Raw b) chunks tt (raw_behind id c payload chunks is kinds.1 apart.1)

pub code_written : (v : List FileChunk) (c : CodeVal) (payload : List ℕ) → AreChunks v → code_in v ≡ Some c → payload ≡ canonical_code c → All (λ w. IsWrittenAs payload w.1) v
code_written [] c payload are is written = absurd cc
code_written ((id, Code d) ∷ v) c payload are is written =
    let same : d ≡ c = cc in
    let behind = raw_behind id d payload v are.kinds.0 are.kinds.1 (IsDistinct-head is_same_id (id, Code d) v are.distinct) in
    All-cons (λ (w : FileChunk). IsWrittenAs payload w.1) (id, Code d) v (written ∙ ap canonical_code (sym same)) behind
code_written ((id, Raw b) ∷ v) c payload are is written =
    let others : AreChunks v = record { distinct = IsDistinct-tail is_same_id (id, Raw b) v are.distinct; kinds = are.kinds.1 } in
    All-cons (λ (w : FileChunk). IsWrittenAs payload w.1) (id, Raw b) v tt (code_written v c payload others is written)

pub no_code : (v : List FileChunk) (payload : List ℕ) → code_in v ≡ None → All (λ w. IsWrittenAs payload w.1) v
no_code [] payload none = All-nil (λ (w : FileChunk). IsWrittenAs payload w.1)
no_code ((id, Code d) ∷ v) payload none = absurd cc
no_code ((id, Raw b) ∷ v) payload none = All-cons (λ (w : FileChunk). IsWrittenAs payload w.1) (id, Raw b) v tt (no_code v payload none)

-- ---- sizes

-- how many bytes a chunk takes in the canonical file
abbrev size_of : FileChunk → ℕ
size_of c = chunk_size (canonical_chunk_of c)

sizes : (v : List FileChunk) → sum_by chunk_size (canonical_chunks v) ≡ sum_by size_of v
sizes [] = refl
sizes (c ∷ v) = omega (arith, sum_by-cons chunk_size (canonical_chunk_of c) (canonical_chunks v), sum_by-cons size_of c v, sizes v)

-- the size so far, with the next chunk
pub next_within : (chunks : List FileChunk) (i : ℕ) (c : FileChunk) (all : List FileChunk) → i < length chunks → c ≡ get_or chunks i c → chunks ≡ all → form_size (canonical_chunks all) < 2 ^ 32
    → form_size (canonical_chunks (take i chunks)) + chunk_size (canonical_chunk_of c) < 2 ^ 32
next_within chunks i c all below is same fits =
    let within : sum_by size_of (take i chunks) + size_of (get_or chunks i c) ≤ sum_by size_of chunks = sum_by_more_le size_of chunks i c below in
    omega (arith, fits, within, ap size_of is, sizes chunks, sizes (take i chunks), ap (λ (v : List FileChunk). form_size (canonical_chunks v)) same)

proper_from : (c : CodeVal) → All IsProperInstr c.instrs → length (canonical_code c) < 2 ^ 32 → IsProperCode c
proper_from c proper fits = record { size = omega (arith, length-append c.extra (flat_map canonical_instr c.instrs)); instrs = proper }

code_within : (v : List FileChunk) (c : CodeVal) → code_in v ≡ Some c → AllByRecursion (λ w. HasProperOperands w.1) v → All IsProperInstr c.instrs × (length (canonical_code c) ≤ sum_by size_of v)
code_within [] c is proper = absurd cc
code_within ((id, Code d) ∷ v) c is proper =
    let same : d ≡ c = cc in
    let whole = sum_by-cons size_of (id, Code d) v in
    (subst (λ (e : CodeVal). All IsProperInstr e.instrs) same proper.0, subst (λ (e : CodeVal). length (canonical_code e) ≤ sum_by size_of ((id, Code d) ∷ v)) same (omega arith))
code_within ((id, Raw b) ∷ v) c is proper =
    let others = code_within v c is proper.1 in
    let whole = sum_by-cons size_of (id, Raw b) v in
    (others.0, omega (arith, others.1))

pub code_fits : (v : List FileChunk) (c : CodeVal) → code_in v ≡ Some c → IsWritable v → IsProperCode c × (length (canonical_code c) < 2 ^ 32)
code_fits v c is writable =
    let within = code_within v c is writable.operands in
    let fits : length (canonical_code c) < 2 ^ 32 = omega (arith, within.1, writable.size, sizes v) in
    (proper_from c within.0 fits, fits)

-- ---- the canonical file is a file

apart_canonical : (c : FileChunk) (v : List FileChunk) → AllByRecursion (λ w. is_same_id c w ≡ false) v → AllByRecursion (λ d. is_same_plain (canonical_chunk_of c) d ≡ false) (canonical_chunks v)
apart_canonical c [] apart = tt
apart_canonical c (w ∷ v) apart = (apart.0, apart_canonical c v apart.1)

distinct_canonical : (v : List FileChunk) → IsDistinct is_same_id v → AreDistinct (canonical_chunks v)
unfolding IsDistinct
distinct_canonical [] distinct = tt
distinct_canonical (c ∷ v) distinct =
    IsDistinct-cons is_same_plain (canonical_chunk_of c) (canonical_chunks v) (apart_canonical c v (IsDistinct-head is_same_id c v distinct))
    (distinct_canonical v (IsDistinct-tail is_same_id c v distinct))

module _ (form_is : (chunks : List PlainChunk) → AllByRecursion PlainMeetsType chunks → AreDistinct chunks → form_size chunks < 2 ^ 32 → IsForm chunks (canonical_form chunks))
    (code_spelled : (c : CodeVal) → CodeMeetsType c → IsProperCode c → length (canonical_code c) < 2 ^ 32 → SpellsCode c (canonical_code c))
    (code_bytes : (c : CodeVal) (payload : List ℕ) → CodeMeetsType c → SpellsCode c payload → IsBytes payload) where
  chunk_is : (c : FileChunk) → HoldsItsKind c → ChunkMeetsType c → HasProperOperands c.1 → size_of c < 2 ^ 32 → IsChunk c (canonical_chunk_of c)
  chunk_is (id, Code code) kind meets proper fits =
      let below : length (canonical_code code) < 2 ^ 32 = omega (arith, fits) in
      record { id = refl; kind = kind; payload = code_spelled code meets.value (proper_from code proper below) below }
  chunk_is (id, Raw bytes) kind meets proper fits = record { id = refl; kind = kind; payload = refl }

  chunks_are : (v : List FileChunk) → AllByRecursion HoldsItsKind v → FileMeetsType v → AllByRecursion (λ w. HasProperOperands w.1) v → sum_by size_of v < 2 ^ 32 → AllZip IsChunk v (canonical_chunks v)
  chunks_are [] kinds meet proper fits = tt
  chunks_are (c ∷ v) kinds meet proper fits =
      let whole = sum_by-cons size_of c v in
      (chunk_is c kinds.0 meet.0 proper.0 (omega arith), chunks_are v kinds.1 meet.1 proper.1 (omega arith))

  plain_meets : (c : FileChunk) → ChunkMeetsType c → IsChunk c (canonical_chunk_of c) → PlainMeetsType (canonical_chunk_of c)
  plain_meets (id, Code code) meets is = record { id = meets.id; id_bytes = meets.id_bytes; payload = code_bytes code (canonical_code code) meets.value is.payload }
  plain_meets (id, Raw bytes) meets is = record { id = meets.id; id_bytes = meets.id_bytes; payload = meets.value }

  plains_meet : (v : List FileChunk) → FileMeetsType v → AllZip IsChunk v (canonical_chunks v) → AllByRecursion PlainMeetsType (canonical_chunks v)
  plains_meet [] meet are = tt
  plains_meet (c ∷ v) meet are = (plain_meets c meet.0 are.0, plains_meet v meet.1 are.1)

  pub canon_is_file : (v : List FileChunk) → AreChunks v → FileMeetsType v → IsWritable v → IsFile v (canonical_file v)
  canon_is_file v are meets writable =
      let chunks = chunks_are v are.kinds meets writable.operands (omega (arith, writable.size, sizes v)) in
      record { chunks = canonical_chunks v; form = form_is (canonical_chunks v) (plains_meet v meets chunks) (distinct_canonical v are.distinct) writable.size; values = chunks }

-- ---- no other file is shorter

-- a payload that is no longer has no more bytes with its padding
padded_le : (m n : ℕ) → m ≤ n → m + padding_of m ≤ n + padding_of n
padded_le m n le = omega arith

module _ (code_shortest : (c : CodeVal) (payload : List ℕ) → SpellsCode c payload → length (canonical_code c) ≤ length payload) where
  payload_shorter : (v : FileChunk) (c : PlainChunk) → IsChunk v c → length (canonical_payload v.1) ≤ length c.payload
  payload_shorter (id, Code code) c is = code_shortest code c.payload is.payload
  payload_shorter (id, Raw bytes) c is = let same = ap (λ (s : List ℕ). length s) is.payload in omega arith

  sizes_smaller : (v : List FileChunk) (chunks : List PlainChunk) → AllZip IsChunk v chunks → sum_by chunk_size (canonical_chunks v) ≤ sum_by chunk_size chunks
  sizes_smaller [] [] are = omega arith
  sizes_smaller [] (c ∷ chunks) are = absurd are
  sizes_smaller (w ∷ v) [] are = absurd are
  sizes_smaller (w ∷ v) (c ∷ chunks) are =
      let padded = padded_le (length (canonical_payload w.1)) (length c.payload) (payload_shorter w c are.0) in
      let others = sizes_smaller v chunks are.1 in
      omega (arith, padded, sum_by-cons chunk_size (canonical_chunk_of w) (canonical_chunks v), sum_by-cons chunk_size c chunks)

  canonical_length : (v : List FileChunk) (chunks : List PlainChunk) (body : List ℕ) → AllZip IsChunk v chunks → SpellsMany SpellsChunk chunks body
      → length (flat_map canonical_chunk (canonical_chunks v)) ≡ sum_by chunk_size (canonical_chunks v)
  canonical_length [] chunks body are spelt = refl
  canonical_length (w ∷ v) [] body are spelt = absurd are
  canonical_length (w ∷ v) (c ∷ chunks) body are spelt =
      let id : length w.0.0 ≡ 4 = ap (λ (i : Id). length i.0) (sym are.0.id) ∙ spelt.front_is.id in
      omega (
        arith,
        length-canonical_chunk (canonical_chunk_of w) id,
        canonical_length v chunks spelt.back are.1 spelt.back_is,
        length-append (canonical_chunk (canonical_chunk_of w)) (flat_map canonical_chunk (canonical_chunks v)),
        sum_by-cons chunk_size (canonical_chunk_of w) (canonical_chunks v),
      )

  pub canon_shortest : (v : List FileChunk) (bytes : List ℕ) → IsFile v bytes → length (canonical_file v) ≤ length bytes
  canon_shortest v bytes is =
      omega (
        arith,
        sizes_smaller v is.chunks is.values,
        canonical_length v is.chunks is.form.body is.values is.form.spelled,
        length-chunks is.chunks is.form.body is.form.spelled,
        ap (λ (s : List ℕ). length s) is.form.joined,
        length-append (head_of (4 + length is.form.body)) is.form.body,
        length-append (head_of (form_size (canonical_chunks v))) (flat_map canonical_chunk (canonical_chunks v)),
      )

  -- ---- a file's value has a canonical file

  module _ (chunks_meet : (chunks : List PlainChunk) (bytes : List ℕ) → IsForm chunks bytes → IsBytes bytes → AllByRecursion PlainMeetsType chunks)
      (form_fits : (chunks : List PlainChunk) (bytes : List ℕ) → IsForm chunks bytes → form_size chunks < 2 ^ 32)
      (code_proper : (c : CodeVal) (payload : List ℕ) → IsBytes payload → SpellsCode c payload → IsProperCode c) where
    proper_operands : (v : FileChunk) (c : PlainChunk) → IsChunk v c → PlainMeetsType c → HasProperOperands v.1
    proper_operands (id, Code code) c is meets = (code_proper code c.payload meets.payload is.payload).instrs
    proper_operands (id, Raw bytes) c is meets = tt

    all_proper : (v : List FileChunk) (chunks : List PlainChunk) → AllZip IsChunk v chunks → AllByRecursion PlainMeetsType chunks → AllByRecursion (λ w. HasProperOperands w.1) v
    all_proper [] chunks are meet = tt
    all_proper (w ∷ v) [] are meet = absurd are
    all_proper (w ∷ v) (c ∷ chunks) are meet = (proper_operands w c are.0 meet.0, all_proper v chunks are.1 meet.1)

    pub file_writable : (v : List FileChunk) (bytes : List ℕ) → IsBytes bytes → IsFile v bytes → IsWritable v
    file_writable v bytes fits is =
        record {
          operands = all_proper v is.chunks is.values (chunks_meet is.chunks bytes is.form fits);
          size = omega (arith, sizes_smaller v is.chunks is.values, form_fits is.chunks bytes is.form);
        }

    module _ (code_meets : (c : CodeVal) (payload : List ℕ) → IsBytes payload → SpellsCode c payload → CodeMeetsType c) where
      chunk_meets : (v : FileChunk) (c : PlainChunk) → IsChunk v c → PlainMeetsType c → ChunkMeetsType v
      chunk_meets (id, Code code) c is meets =
          subst ChunkMeetsType (ap (λ (i : Id). (i, Code code)) is.id) (record { id = meets.id; id_bytes = meets.id_bytes; value = code_meets code c.payload meets.payload is.payload })
      chunk_meets (id, Raw bytes) c is meets =
          subst ChunkMeetsType (ap (λ (i : Id). (i, Raw bytes)) is.id) (record { id = meets.id; id_bytes = meets.id_bytes; value = subst IsBytes is.payload meets.payload })

      all_meet : (v : List FileChunk) (chunks : List PlainChunk) → AllZip IsChunk v chunks → AllByRecursion PlainMeetsType chunks → FileMeetsType v
      all_meet [] chunks are meet = tt
      all_meet (w ∷ v) [] are meet = absurd are
      all_meet (w ∷ v) (c ∷ chunks) are meet = (chunk_meets w c are.0 meet.0, all_meet v chunks are.1 meet.1)

      pub file_meets : (v : List FileChunk) (bytes : List ℕ) → IsBytes bytes → IsFile v bytes → AreChunks v × FileMeetsType v × IsWritable v
      file_meets v bytes fits is =
          (values_are v is.chunks is.values is.form.distinct, all_meet v is.chunks is.values (chunks_meet is.chunks bytes is.form fits), file_writable v bytes fits is)

pub file_has_canon : ((v : List FileChunk) (bytes : List ℕ) → IsBytes bytes → IsFile v bytes → AreChunks v × FileMeetsType v × IsWritable v)
    → ((v : List FileChunk) → AreChunks v → FileMeetsType v → IsWritable v → IsFile v (canonical_file v))
    → (v : List FileChunk) (bytes : List ℕ) → IsBytes bytes → IsFile v bytes → IsFile v (canonical_file v) × IsCanonical (canonical_file v)
file_has_canon meets canon v bytes fits is =
    let parts = meets v bytes fits is in
    let file = canon v parts.0 parts.1 parts.2 in
    (file, (v, file, refl))
