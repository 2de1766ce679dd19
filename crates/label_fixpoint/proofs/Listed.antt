-- Flags of the places that are listed.
use Rattle.std.proofs.Common.{◌≡◌, ◌∙◌, ℕ, ◌<◌, Bool, true, false, List, [], ◌∷◌, ◌++◌, Contains, length, get_or, set, sym, subst, inl, inr, length-set, length-append, get_or-set_same, get_or-set_other, arith}
use Rattle.std.proofs.lemmas.Bool.{cases_eq, false≢true}
use Rattle.std.proofs.lemmas.List.Elements.{Contains-append_left, Contains-push, Contains-push_cases}
use Rattle.label_fixpoint.specs.Progress.{Pending, Adds}

-- each flagged place is listed, and each listed one has a flag
abbrev pub IsListed : List Bool → List ℕ → Type 0
IsListed flags places = ((p : ℕ) → get_or flags p false ≡ true → Contains places p) × ((p : ℕ) → Contains places p → p < length flags)

pub added : (flags : List Bool) (places : List ℕ) (p : ℕ) → p < length flags → IsListed flags places → IsListed (set flags p true) (places ++ p ∷ [])
added flags places p inside listed = (
  λ q flagged.
      elim (cases_eq q p) [
        | inl e ↦ subst (λ (r : ℕ). Contains (places ++ p ∷ []) r) (sym e) (Contains-push places p)
        | inr ne ↦ Contains-append_left places (p ∷ []) q (listed.0 q (sym (get_or-set_other flags p q true false ne) ∙ flagged))
      ],
  λ q held.
      rw length-set
      (elim (Contains-push_cases places p q held) [
        | inl before ↦ listed.1 q before
        | inr e ↦ subst (λ (r : ℕ). r < length flags) e inside
      ]),
)

pub taken : (flags : List Bool) (places : List ℕ) (p : ℕ) → IsListed flags (places ++ p ∷ []) → IsListed (set flags p false) places
taken flags places p listed = (
  λ q flagged.
      elim (cases_eq q p) [
        | inl e ↦
            absurd (false≢true (sym (get_or-set_same flags p false false (listed.1 p (Contains-push places p)))
            ∙ subst (λ (r : ℕ). get_or (set flags p false) r false ≡ true) e flagged))
        | inr ne ↦
            elim (Contains-push_cases places p q (listed.0 q (sym (get_or-set_other flags p q false false ne) ∙ flagged))) [
              | inl before ↦ before
              | inr e ↦ absurd (ne (sym e))
            ]
      ],
  λ q held. rw length-set (listed.1 q (Contains-append_left places (p ∷ []) q held)),
)

pub adds : (a b : Pending) (p : ℕ) → b.0 ≡ a.0 → b.1 ≡ a.1 ++ p ∷ [] → Adds a p b
adds a b p size items = record {
  size = size;
  added = rw items (Contains-push a.1 p);
  kept = rw items (λ q. Contains-append_left a.1 (p ∷ []) q);
  only = rw items (λ q. Contains-push_cases a.1 p q);
  one = rw (items, length-append) (omega arith);
}
