-- Reading all lines of a text reads those that are left without comments.
use Rattle.std.proofs.Common.{◌≡◌, ℕ, Bool, true, cond, List, [], ◌∷◌, ◌++◌, map, Err, refl, ap, ◌∙◌}
use Rattle.std.specs.List.{filter}
use Rattle.std.proofs.lemmas.List.{map-append}
use Rattle.std.proofs.lemmas.List.Elements.{filter-append}
use Rattle.bk_codec.specs.Reading.{◌>>=◌}
use Rattle.bk_codec.proofs.Steps.{bind_same}
use Rattle.listing_out.specs.Listing.{bare, has_text, kept}
use Rattle.listing_in.specs.declared.stop.LineStop.{LineStop}
use Rattle.listing_in.specs.Reading.{next_kept, next_raw}
use Rattle.listing_in.specs.State.{State}
use Rattle.listing_in.specs.Step.{next_line}
use Rattle.listing_in.proofs.Growth.{through}

pub kept_append : (front back : List (List ℕ)) → kept (front ++ back) ≡ kept front ++ kept back
kept_append front back = ap (filter has_text) (map-append bare front back) ∙ filter-append has_text (map bare front) (map bare back)

through_behind : (s : State) (line : List ℕ) (raw : List (List ℕ)) → ((t : State) → through next_raw t raw ≡ through next_line t (kept raw))
    → (next_kept s line >>= λ t. through next_raw t raw) ≡ through next_line s (cond (has_text line) (line ∷ kept raw) (kept raw))
through_behind s [] raw others = others s
through_behind s (b ∷ line) raw others = bind_same (next_line s (b ∷ line)) (λ t. through next_raw t raw) (λ t. through next_line t (kept raw)) (λ t read. others t)

pub through_kept : (s : State) (raw : List (List ℕ)) → through next_raw s raw ≡ through next_line s (kept raw)
through_kept s [] = refl
through_kept s (line ∷ raw) = through_behind s (bare line) raw (λ t. through_kept t raw)

-- a line that is refused is one that is left
refused_behind : (s : State) (line : List ℕ) (e : LineStop) → next_kept s line ≡ Err e → (next_line s line ≡ Err e) × (has_text line ≡ true)
refused_behind s [] e h = absurd cc
refused_behind s (b ∷ line) e h = (h, refl)

pub refused_kept : (s : State) (line : List ℕ) (e : LineStop) → next_raw s line ≡ Err e → (next_line s (bare line) ≡ Err e) × (kept (line ∷ []) ≡ bare line ∷ [])
refused_kept s line e h =
    let left = refused_behind s (bare line) e h in
    (left.0, ap (λ (b : Bool). cond b (bare line ∷ []) []) left.1)
