-- The set of the ids of chunks.
use Rattle.std.proofs.Common.{◌≡◌, ℕ, Bool, true, false, cond, ◌||◌, List, [], ◌∷◌, ◌++◌, refl, sym, ap, ◌∙◌}
use Rattle.std.specs.Prelude.{bytes_eq}
use Rattle.std.specs.Cmp.Lexicographic.{slice_cmp}
use Rattle.std.specs.List.{list_any}
use Rattle.std.specs.Ordering.{is_eq, nat_cmp}
use Rattle.std.proofs.lemmas.Cmp.{nat_list_eq_equiv}
use Rattle.std.proofs.lemmas.List.Folds.{list_any-append}
use Rattle.std.proofs.lemmas.Map.Text.{is_eq-slice_cmp}
use Rattle.beam_module.specs.File.{FileChunk}
use Rattle.listing_in.specs.Seen.{HasIds}

or_last : (b l : Bool) → cond b true l ≡ (l || (b || false))
or_last true true = refl
or_last true false = refl
or_last false true = refl
or_last false false = refl

-- one chunk more, and its id among the keys
pub ids_more : (old new : List (List ℕ)) (chunks : List FileChunk) (c : FileChunk) → HasIds old chunks
    → ((id : List ℕ) → list_any (λ key. is_eq (slice_cmp nat_cmp id key)) new ≡ cond (is_eq (slice_cmp nat_cmp c.0.0 id)) true (list_any (λ key. is_eq (slice_cmp nat_cmp id key)) old))
    → HasIds new (chunks ++ c ∷ [])
ids_more old new chunks c has updates id =
    let test : is_eq (slice_cmp nat_cmp c.0.0 id) ≡ bytes_eq id c.0.0 = is_eq-slice_cmp c.0.0 id ∙ nat_list_eq_equiv.symm c.0.0 id in
    updates id
    ∙ ap (λ (t : Bool). cond t true (list_any (λ key. is_eq (slice_cmp nat_cmp id key)) old)) test
    ∙ ap (cond (bytes_eq id c.0.0) true) (has id)
    ∙ or_last (bytes_eq id c.0.0) (list_any (λ d. bytes_eq id d.0.0) chunks)
    ∙ sym (list_any-append (λ d. bytes_eq id d.0.0) chunks (c ∷ []))
