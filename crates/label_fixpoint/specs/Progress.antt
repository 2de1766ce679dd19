-- How far the search for the least typing has come: no contract of a public function speaks of it.
use Rattle.std.specs.Prelude.{◌≡◌, ◌⊎◌, ℕ, ◌+◌, ◌<◌, ◌≤◌, Bool, true, false, List, Contains, Option, Some, None, length, slice_set}
use Rattle.label_fixpoint.specs.declared.edge.Edge.{Edge}
use Rattle.label_fixpoint.specs.Meaning.{Meaning, LeadsAbove}
use Rattle.label_fixpoint.specs.Typing.{Typing, typing_of, HasAbove, IsConsistent, IsBelowTyping}

-- what an agenda is seen as: how many places there are, and those that are pending
abbrev pub Pending : Type 0
Pending = ℕ × List ℕ

-- place p is pending in b, beside what is so in a
pub record Adds (a : Pending) (p : ℕ) (b : Pending) : Type 0 where
  pub size : b.0 ≡ a.0
  pub added : Contains b.1 p
  pub kept : (q : ℕ) → Contains a.1 q → Contains b.1 q
  pub only : (q : ℕ) → Contains b.1 q → Contains a.1 q ⊎ (p ≡ q)
  pub one : length b.1 ≤ length a.1 + 1

-- a place with `old` has `slot` once s is joined in
pub record Raises {S : Type 0} (m : Meaning S) (old : Option S) (s : S) (slot : Option S) (changed : Bool) : Type 0 where
  pub top : S
  pub is : slot ≡ Some top
  pub fits : m.IsFit top
  pub above_old : (r : S) → old ≡ Some r → m.IsBelow r top
  pub above_new : m.IsBelow s top
  pub least : (c : S) → m.IsFit c → ((r : S) → old ≡ Some r → m.IsBelow r c) → m.IsBelow s c → m.IsBelow top c
  pub unchanged : changed ≡ false → (r : S) × (old ≡ Some r) × m.IsBelow top r
  pub changes : changed ≡ true → (r : S) → old ≡ Some r → m.IsBelow top r → ⊥

-- edge e is taken in
pub record Takes {S : Type 0} (m : Meaning S) (states : List (Option S)) (a : Pending) (e : Edge S) (after : List (Option S)) (b : Pending) : Type 0 where
  pub slot : Option S
  pub changed : Bool
  pub raised : Raises m (typing_of states e.target) e.state slot changed
  pub written : after ≡ slice_set states e.target slot
  pub same : changed ≡ false → b ≡ a
  pub added : changed ≡ true → Adds a e.target b

-- how often the state of a place can have risen
abbrev pub weight : {S : Type 0} → Meaning S → Option S → ℕ
weight m None = 0
weight m (Some s) = m.rank s + 1

-- of the states so far, the pending places, and the edges that are still to be taken in
pub record Progress {S : Type 0} (m : Meaning S) (states : List (Option S)) (agenda : Pending) (edges : List (Edge S)) : Type 0 where
  pub size : length states ≡ m.place_count
  pub agenda_size : agenda.0 ≡ m.place_count
  pub fits : (p : ℕ) (s : S) → p < m.place_count → typing_of states p ≡ Some s → m.IsFit s
  pub edge_targets : (e : Edge S) → Contains edges e → e.target < m.place_count
  pub edges_fit : (e : Edge S) → Contains edges e → m.IsFit e.state
  pub least : (u : Typing S) → IsConsistent m u → IsBelowTyping m (typing_of states) u
  pub edges_least : (u : Typing S) → IsConsistent m u → (e : Edge S) → Contains edges e → HasAbove m u e.target e.state
  pub enters : HasAbove m (typing_of states) m.entry_place m.first_state ⊎ LeadsAbove m edges m.entry_place m.first_state
  pub follows : (p : ℕ) (s : S) (e : Edge S) → p < m.place_count → typing_of states p ≡ Some s → Contains (m.edges_of p s) e
      → Contains agenda.1 p ⊎ (HasAbove m (typing_of states) e.target e.state ⊎ LeadsAbove m edges e.target e.state)
  pub pending : (p : ℕ) → Contains agenda.1 p → (p < m.place_count) × (s : S) × (typing_of states p ≡ Some s)
