-- Lines as text.
use Rattle.std.proofs.Common.{◌≡◌, ℕ, ◌≤◌, List, [], ◌∷◌, ◌++◌, length, take, refl, ap, ◌∙◌}
use Rattle.std.proofs.lemmas.Grind.{flat_map-append}
use Rattle.std.proofs.lemmas.List.{take_all}
use Rattle.std.specs.Prelude.{codes}
use Rattle.std.specs.List.{flat_map}
use Rattle.listing_out.specs.Lines.{text_of}

-- the lines of several things, one thing at a time
pub text-flat_map : {A : Type 0} (f : A → List (List ℕ)) (xs : List A) → text_of (flat_map f xs) ≡ flat_map (λ x. text_of (f x)) xs
text-flat_map f [] = refl
text-flat_map f (x ∷ xs) =
    flat_map-append (λ line. line ++ codes "\n") (f x) (flat_map f xs) ∙ ap (λ (t : List ℕ). text_of (f x) ++ t) (text-flat_map f xs)

-- behind the last item, the text of all of them is put
pub all_put : {A : Type 0} (f : A → List ℕ) (xs items : List A) (i : ℕ) (start out : List ℕ)
    → length items ≤ i → items ≡ xs → out ≡ start ++ flat_map f (take i items) → out ≡ start ++ flat_map f xs
all_put f xs items i start out end same put =
    put ∙ ap (λ (ys : List _). start ++ flat_map f ys) (take_all i items end ∙ same)
