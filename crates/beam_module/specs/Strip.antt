-- The stripped file of a form: the chunks that a running node wants, in their order, with their payloads as they are.
use Rattle.std.specs.Prelude.{ℕ, Bool, List, [], ◌∷◌, codes, bytes_eq}
use Rattle.std.specs.List.{filter, list_any}
use Rattle.iff_form.specs.Chunk.{PlainChunk}
use Rattle.iff_form.specs.Canonical.{canonical_form}

-- the ids that are kept
abbrev pub kept_ids : List (List ℕ)
kept_ids =
    codes "Atom" ∷ codes "AtU8" ∷ codes "Code" ∷ codes "StrT" ∷ codes "ImpT" ∷ codes "ExpT"
    ∷ codes "FunT" ∷ codes "LitT" ∷ codes "Meta" ∷ codes "Line" ∷ codes "Type" ∷ []

abbrev pub is_kept : PlainChunk → Bool
is_kept c = list_any (λ id. bytes_eq id c.id.0) kept_ids

abbrev pub stripped : List PlainChunk → List PlainChunk
stripped chunks = filter is_kept chunks

-- the stripped file
abbrev pub stripped_file : List PlainChunk → List ℕ
stripped_file chunks = canonical_form (stripped chunks)
