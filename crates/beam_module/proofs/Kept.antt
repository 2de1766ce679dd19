-- The chunks that are kept, and the sizes of those so far.
use Rattle.std.proofs.Common.{◌≡◌, ℕ, ◌+◌, ◌^◌, ◌<◌, ◌≤◌, Bool, true, false, cond, List, [], ◌∷◌, length, get_or, take, refl, arith}
use Rattle.std.specs.List.{sum_by}
use Rattle.std.proofs.lemmas.List.Sums.{sum_by-cons}
use Rattle.iff_form.specs.declared.chunk.Chunk.{Chunk}
use Rattle.iff_form.specs.Chunk.{PlainChunk, chunk_size, plain, plains}
use Rattle.iff_form.specs.Form.{form_size}
use Rattle.iff_form.proofs.Owned.{next_within}
use Rattle.beam_module.specs.Strip.{is_kept, stripped}

one_or_none : (b : Bool) (c : PlainChunk) (chunks : List PlainChunk) → sum_by chunk_size (cond b (c ∷ chunks) chunks) ≤ chunk_size c + sum_by chunk_size chunks
one_or_none true c chunks = omega (arith, sum_by-cons chunk_size c chunks)
one_or_none false c chunks = omega arith

stripped-le : (chunks : List PlainChunk) → sum_by chunk_size (stripped chunks) ≤ sum_by chunk_size chunks
stripped-le [] = omega arith
stripped-le (c ∷ chunks) = omega (arith, one_or_none (is_kept c) c (stripped chunks), stripped-le chunks, sum_by-cons chunk_size c chunks)

-- the size of what is kept so far, with the next chunk
pub kept_within : (chunks : List Chunk) (i : ℕ) (d : Chunk) (all : List PlainChunk) → i < length chunks → plains chunks ≡ all → form_size all < 2 ^ 32
    → form_size (stripped (plains (take i chunks))) + chunk_size (plain (get_or chunks i d)) < 2 ^ 32
kept_within chunks i d all below same fits =
    omega (arith, next_within plain chunks i d (get_or chunks i d) all below refl same fits, stripped-le (plains (take i chunks)))
