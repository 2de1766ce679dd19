-- What a list of no element or of one contains.
use Rattle.std.proofs.Common.{◌≡◌, [], ◌∷◌, Contains, inl, inr, arith}
use Rattle.std.proofs.lemmas.List.Elements.{Contains-push_cases}

pub nothing_in : {X : Type 0} {Goal : Type 0} (x : X) → Contains [] x → Goal
nothing_in x held = let none = held.1 in absurd (omega (arith, none))

-- the only element
pub only_in : {X : Type 0} (x y : X) → Contains (x ∷ []) y → x ≡ y
only_in x y held = elim (Contains-push_cases [] x y held) [ inl none ↦ nothing_in y none | inr e ↦ e ]
