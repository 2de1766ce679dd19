-- Files grow by a chunk, and their lines by those of the chunk.
use Rattle.std.proofs.Common.{◌≡◌, ℕ, Bool, false, List, [], ◌∷◌, ◌++◌, refl, sym, ap, ◌∙◌, append-nil, append_assoc}
use Rattle.std.specs.Prelude.{codes}
use Rattle.std.specs.Cmp.{IsEquivalence}
use Rattle.std.specs.List.{IsDistinct, AllByRecursion, flat_map, list_any}
use Rattle.std.proofs.lemmas.Cmp.{on_equiv, nat_list_eq_equiv}
use Rattle.std.proofs.lemmas.Grind.{flat_map-append}
use Rattle.std.proofs.lemmas.List.Elements.{All-from_recursion, All-push, recursion_from_All}
use Rattle.std.proofs.lemmas.Map.Keys.{IsDistinct-push}
use Rattle.beam_module.specs.File.{FileChunk, HoldsItsKind, IsNew, is_same_id}
use Rattle.listing_out.specs.Lines.{chunk_lines, lines}
use Rattle.listing_out.specs.Listable.{ChunkIsListed, IsListable}

-- ---- the front and the last of a list

all_front : {X : Type 0} (P : X → Type 0) (xs ys : List X) → AllByRecursion P (xs ++ ys) → AllByRecursion P xs
all_front P [] ys all = tt
all_front P (x ∷ xs) ys all = (all.0, all_front P xs ys all.1)

all_last : {X : Type 0} (P : X → Type 0) (xs : List X) (y : X) → AllByRecursion P (xs ++ y ∷ []) → P y
all_last P [] y all = all.0
all_last P (x ∷ xs) y all = all_last P xs y all.1

all_push : {X : Type 0} (P : X → Type 0) (xs : List X) (y : X) → AllByRecursion P xs → P y → AllByRecursion P (xs ++ y ∷ [])
all_push P xs y all one = recursion_from_All P (xs ++ y ∷ []) (All-push P xs y (All-from_recursion P xs all) one)

distinct_front : {K : Type 0} (e : K → K → Bool) (xs ys : List K) → IsDistinct e (xs ++ ys) → IsDistinct e xs
unfolding IsDistinct
distinct_front e [] ys all = tt
distinct_front e (x ∷ xs) ys all = (all_front (λ y. e x y ≡ false) xs ys all.0, distinct_front e xs ys all.1)

distinct_last : {K : Type 0} {e : K → K → Bool} → IsEquivalence e → (xs : List K) (y : K) → IsDistinct e (xs ++ y ∷ []) → list_any (e y) xs ≡ false
unfolding IsDistinct
distinct_last laws [] y all = refl
distinct_last {e = e} laws (x ∷ xs) y all =
    let here : e y x ≡ false = laws.symm y x ∙ all_last (λ z. e x z ≡ false) xs y all.0 in
    rw here (distinct_last laws xs y all.1)

-- ---- files

same_id : IsEquivalence is_same_id
same_id = on_equiv (λ c. c.0.0) nat_list_eq_equiv

-- a chunk that may stand behind these
pub record MayFollow (v : List FileChunk) (c : FileChunk) : Type 0 where
  pub new : IsNew c.0 v
  pub kind : HoldsItsKind c
  pub listed : ChunkIsListed c

pub none_listable : IsListable []
unfolding IsDistinct
none_listable = record { chunks = record { distinct = tt; kinds = tt }; listed = tt }

pub front_listable : (v w : List FileChunk) → IsListable (v ++ w) → IsListable v
front_listable v w is = record {
  chunks = record { distinct = distinct_front is_same_id v w is.chunks.distinct; kinds = all_front HoldsItsKind v w is.chunks.kinds };
  listed = all_front ChunkIsListed v w is.listed;
}

pub last_follows : (v : List FileChunk) (c : FileChunk) → IsListable (v ++ c ∷ []) → MayFollow v c
last_follows v c is =
    record { new = distinct_last same_id v c is.chunks.distinct; kind = all_last HoldsItsKind v c is.chunks.kinds; listed = all_last ChunkIsListed v c is.listed }

pub push_listable : (v : List FileChunk) (c : FileChunk) → IsListable v → MayFollow v c → IsListable (v ++ c ∷ [])
push_listable v c is one = record {
  chunks = record { distinct = IsDistinct-push same_id v c is.chunks.distinct one.new; kinds = all_push HoldsItsKind v c is.chunks.kinds one.kind };
  listed = all_push ChunkIsListed v c is.listed one.listed;
}

-- ---- lines

pub lines_push : (v : List FileChunk) (c : FileChunk) → lines (v ++ c ∷ []) ≡ lines v ++ chunk_lines c
lines_push v c =
    ap (λ (ls : List (List ℕ)). codes "beam 1" ∷ ls)
    (flat_map-append chunk_lines v (c ∷ []) ∙ ap (λ (ls : List (List ℕ)). flat_map chunk_lines v ++ ls) (append-nil (chunk_lines c)))

-- a chunk has a line more than another in its place
pub line_added : (v : List FileChunk) (c d : FileChunk) (line : List ℕ) → chunk_lines d ≡ chunk_lines c ++ line ∷ [] → lines (v ++ d ∷ []) ≡ lines (v ++ c ∷ []) ++ line ∷ []
line_added v c d line more =
    lines_push v d ∙ ap (λ (ls : List (List ℕ)). lines v ++ ls) more ∙ sym (append_assoc (lines v) (chunk_lines c) (line ∷ []))
    ∙ ap (λ (ls : List (List ℕ)). ls ++ line ∷ []) (sym (lines_push v c))
