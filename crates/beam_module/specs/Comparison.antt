-- What differs between two modules: their names, else the ids of their chunks, else a payload. How a module was compiled, in `CInf`, is not compared.
use Rattle.std.specs.Prelude.{◌≡◌, ◌≢◌, ℕ, Bool, true, not, ◌&&◌, List, [], ◌∷◌, map, codes, bytes_eq, Option, Some, None, option_map, if◌then◌else◌}
use Rattle.std.specs.List.{filter}
use Rattle.std.specs.Option.{is_some, is_none}
use Rattle.std.specs.Ordering.{is_le, nat_cmp}
use Rattle.std.specs.Cmp.Lexicographic.{slice_cmp}
use Rattle.std.specs.Borrow.{Bor}
use Rattle.std.specs.BTreeMap.{BTreeMap, get}
use Rattle.iff_form.specs.declared.id.Id.{Id}
use Rattle.iff_form.specs.Chunk.{PlainChunk}
use Rattle.iff_form.specs.Form.{payload_of}
use Rattle.beam_module.specs.declared.comparison.Compared.{Compared}
use Rattle.beam_module.specs.declared.comparison.Compared.TheVariants.{Same, Modules, Ids, Chunk}

-- chunks with this id are compared
abbrev pub is_compared : Id → Bool
is_compared id = not (bytes_eq id.0 (codes "CInf"))

-- an id is not above another, in byte order
abbrev pub is_at_most : Id → Id → Bool
is_at_most id other = is_le (slice_cmp nat_cmp id.0 other.0)

-- ---- what differs

-- one of the two forms alone has a chunk with the id
abbrev pub IsInOne : List PlainChunk → List PlainChunk → Id → Type 0
IsInOne a b id = (is_compared id ≡ true) × (is_some (payload_of id a) ≢ is_some (payload_of id b))

-- what the two forms have at the id differs
abbrev pub IsChanged : List PlainChunk → List PlainChunk → Id → Type 0
IsChanged a b id = (is_compared id ≡ true) × (payload_of id a ≢ payload_of id b)

-- the least id of this kind, in byte order
pub record IsLeast (P : Id → Type 0) (id : Id) : Type 0 where
  pub is : P id
  pub least : (other : Id) → P other → is_at_most id other ≡ true

-- what differs between the modules of two forms with these names
abbrev pub Compares : List PlainChunk → List ℕ → List PlainChunk → List ℕ → Compared → Type 0
Compares a a_name b b_name Modules = a_name ≢ b_name
Compares a a_name b b_name (Ids id) = (a_name ≡ b_name) × IsLeast (IsInOne a b) id
Compares a a_name b b_name (Chunk id) = (a_name ≡ b_name) × ((other : Id) → IsInOne a b other → ⊥) × IsLeast (IsChanged a b) id
Compares a a_name b b_name Same = (a_name ≡ b_name) × ((other : Id) → IsChanged a b other → ⊥)

-- ---- the same, computed by filters and least members

abbrev pub lesser : Id → Option Id → Id
lesser id None = id
lesser id (Some other) = if is_at_most id other then id else other

-- the least of some ids and of one that was found before
abbrev pub least_from : Option Id → List Id → Option Id
least_from found [] = found
least_from found (id ∷ ids) = least_from (Some (lesser id found)) ids

abbrev pub ids_of : List PlainChunk → List Id
ids_of chunks = map (λ c. c.id) chunks

-- the second has another payload than this, or none
abbrev pub is_other : List ℕ → Option (List ℕ) → Bool
is_other payload None = true
is_other payload (Some other) = not (bytes_eq payload other)

-- the chunk is compared, and no chunk of the others has its id
abbrev pub is_lacked : List PlainChunk → PlainChunk → Bool
is_lacked others c = is_compared c.id && is_none (payload_of c.id others)

-- the chunk is compared, and no chunk of the others is this one
abbrev pub is_changed : List PlainChunk → PlainChunk → Bool
is_changed others c = is_compared c.id && is_other c.payload (payload_of c.id others)

-- the ids of the first that are compared and that the second lacks
abbrev pub ids_without : List PlainChunk → List PlainChunk → List Id
ids_without a b = ids_of (filter (is_lacked b) a)

-- the ids of the first that are compared and at which the second differs
abbrev pub ids_changed : List PlainChunk → List PlainChunk → List Id
ids_changed a b = ids_of (filter (is_changed b) a)

abbrev pub by_payloads : Option Id → Compared
by_payloads None = Same
by_payloads (Some id) = Chunk id

abbrev pub by_ids : Option Id → Compared → Compared
by_ids None otherwise = otherwise
by_ids (Some id) otherwise = Ids id

abbrev pub comparison : List PlainChunk → List ℕ → List PlainChunk → List ℕ → Compared
comparison a a_name b b_name =
    if bytes_eq a_name b_name then by_ids (least_from (least_from None (ids_without a b)) (ids_without b a)) (by_payloads (least_from None (ids_changed a b)))
    else Modules

-- ---- look-ups by id

-- the map has at each id what the chunks have there
abbrev pub HasPayloads : BTreeMap (List ℕ) (Bor (List ℕ)) → List PlainChunk → Type 0
HasPayloads m chunks = (id : Id) → option_map (λ s. s.now) (get (slice_cmp nat_cmp) m id.0) ≡ payload_of id chunks
