-- Chunks that own their payloads: ids that differ go on to differ, and the sizes so far are within the whole size.
use Rattle.std.proofs.Common.{◌≡◌, ℕ, ◌+◌, ◌^◌, ◌<◌, ◌≤◌, List, [], ◌∷◌, ◌++◌, length, get_or, take, refl, ap, sym, subst, arith}
use Rattle.std.specs.Prelude.{map}
use Rattle.std.specs.List.{sum_by}
use Rattle.std.proofs.lemmas.List.{map_push}
use Rattle.std.proofs.lemmas.List.Sums.{sum_by-cons, sum_by_more_le}
use Rattle.std.proofs.lemmas.Map.Keys.{IsDistinct-push}
use Rattle.iff_form.specs.declared.chunk_list.OwnedChunk.{OwnedChunk}
use Rattle.iff_form.specs.Chunk.{PlainChunk, chunk_size, owned_plain, owned_plains}
use Rattle.iff_form.specs.Form.{AreDistinct, IsNew, form_size}
use Rattle.iff_form.proofs.Walk.{same_id}

pub owned_push : (chunks : List OwnedChunk) (c : OwnedChunk) → AreDistinct (owned_plains chunks) → IsNew c.id (owned_plains chunks) → AreDistinct (owned_plains (chunks ++ c ∷ []))
owned_push chunks c distinct new =
    subst AreDistinct (sym (map_push owned_plain chunks c)) (IsDistinct-push same_id (owned_plains chunks) (owned_plain c) distinct new)

-- ---- sizes

-- chunks seen through a function
sum_through : {X : Type 0} (f : X → PlainChunk) (xs : List X) → sum_by chunk_size (map f xs) ≡ sum_by (λ x. chunk_size (f x)) xs
sum_through f [] = refl
sum_through f (x ∷ xs) = omega (arith, sum_by-cons chunk_size (f x) (map f xs), sum_by-cons (λ y. chunk_size (f y)) x xs, sum_through f xs)

-- the size so far, with the next chunk
pub next_within : {X : Type 0} (f : X → PlainChunk) (xs : List X) (i : ℕ) (d x : X) (all : List PlainChunk) → i < length xs → x ≡ get_or xs i d → map f xs ≡ all → form_size all < 2 ^ 32
    → form_size (map f (take i xs)) + chunk_size (f x) < 2 ^ 32
next_within {X = X} f xs i d x all below is same fits =
    let size : X → ℕ = λ y. chunk_size (f y) in
    let within : sum_by size (take i xs) + size (get_or xs i d) ≤ sum_by size xs = sum_by_more_le size xs i d below in
    omega (arith, fits, within, ap size is, sum_through f xs, sum_through f (take i xs), ap form_size same)
