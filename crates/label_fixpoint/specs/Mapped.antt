-- Items of lists where each item is replaced.
use Rattle.std.proofs.Common.{◌≡◌, ◌∙◌, List, map, refl, ap, arith}
use Rattle.std.specs.List.{Contains}
use Rattle.std.proofs.lemmas.List.{length-map, get_or-map}
use Rattle.std.proofs.lemmas.List.Elements.{All-map, All-weaker, All-contains, All-contains_itself}

module _ {X Y : Type 0} (f : X → Y) where
  -- an item that the list has after comes of one that it has before
  pub mapped_from : (xs : List X) (y : Y) → Contains (map f xs) y → (x : X) × Contains xs x × (f x ≡ y)
  mapped_from xs y held = All-contains From (map f xs) y (All-map From f xs (All-weaker (Contains xs) (λ x. From (f x)) (λ x here. (x, here, refl)) xs (All-contains_itself xs))) held where
    From : Y → Type 0
    From z = (x : X) × Contains xs x × (f x ≡ z)

  pub mapped_held : (xs : List X) (x : X) → Contains xs x → Contains (map f xs) (f x)
  mapped_held xs x held =
      let size = length-map xs f in
      let inside = held.1 in
      (held.0, omega (arith, size, inside), get_or-map f xs held.0 x (f x) held.1 ∙ ap f held.2)
