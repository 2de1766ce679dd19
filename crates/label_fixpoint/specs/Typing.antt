-- Typings of a flow, and which of them is the least consistent one.
use Rattle.std.specs.Prelude.{◌≡◌, ℕ, ◌<◌, List, Contains, Option, Some, None, slice_index_or}
use Rattle.label_fixpoint.specs.declared.edge.Edge.{Edge}
use Rattle.label_fixpoint.specs.Meaning.{Meaning}

-- a state, or none, for each place
abbrev pub Typing : Type 0 → Type 0
Typing S = ℕ → Option S

-- from the states of the places in order
abbrev pub typing_of : {S : Type 0} → List (Option S) → Typing S
typing_of states p = slice_index_or states p None

-- the place has a state, and s is below it
abbrev pub HasAbove : {S : Type 0} → Meaning S → Typing S → ℕ → S → Type 0
HasAbove {S} m t p s = (above : S) × (t p ≡ Some above) × m.IsBelow s above

-- all that comes to a place is below its state: the first state to the entry, and the edges of each place that has a state to their targets
pub record IsConsistent {S : Type 0} (m : Meaning S) (t : Typing S) : Type 0 where
  pub fits : (p : ℕ) (s : S) → p < m.place_count → t p ≡ Some s → m.IsFit s
  pub enters : HasAbove m t m.entry_place m.first_state
  pub follows : (p : ℕ) (s : S) (e : Edge S) → p < m.place_count → t p ≡ Some s → Contains (m.edges_of p s) e → HasAbove m t e.target e.state

-- at each place, where no state is below every state
abbrev pub IsBelowTyping : {S : Type 0} → Meaning S → Typing S → Typing S → Type 0
IsBelowTyping {S} m t u = (p : ℕ) (s : S) → p < m.place_count → t p ≡ Some s → HasAbove m u p s

-- t is consistent, and below every consistent typing
pub record IsLeast {S : Type 0} (m : Meaning S) (t : Typing S) : Type 0 where
  pub consistent : IsConsistent m t
  pub least : (u : Typing S) → IsConsistent m u → IsBelowTyping m t u
