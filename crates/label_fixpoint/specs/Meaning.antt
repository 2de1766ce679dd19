-- What a flow means, and which laws hold of it.
use Rattle.std.specs.Prelude.{◌≡◌, ℕ, ◌<◌, ◌≤◌, List, Contains}
use Rattle.label_fixpoint.specs.declared.edge.Edge.{Edge}

-- of states S: the places, where the flow begins and with which state, which states fit, their order, the edges that lead on, the rank of a state, and a number above all ranks
pub record Meaning (S : Type 0) : Type 1 where
  pub place_count : ℕ
  pub entry_place : ℕ
  pub first_state : S
  pub IsFit : S → Type 0
  pub IsBelow : S → S → Type 0
  pub edges_of : ℕ → S → List (Edge S)
  pub rank : S → ℕ
  pub height : ℕ

-- one of the edges leads to this place, with a state above this one
abbrev pub LeadsAbove : {S : Type 0} → Meaning S → List (Edge S) → ℕ → S → Type 0
LeadsAbove {S} m edges target state = (e : Edge S) × Contains edges e × (e.target ≡ target) × m.IsBelow state e.state

pub record IsLawful {S : Type 0} (m : Meaning S) : Type 0 where
  pub first_fits : m.IsFit m.first_state
  pub entry_is_place : m.entry_place < m.place_count
  pub reflexive : (a : S) → m.IsFit a → m.IsBelow a a
  pub transitive : (a b c : S) → m.IsFit a → m.IsFit b → m.IsFit c → m.IsBelow a b → m.IsBelow b c → m.IsBelow a c
  pub targets : (p : ℕ) (a : S) (e : Edge S) → p < m.place_count → m.IsFit a → Contains (m.edges_of p a) e → e.target < m.place_count
  pub edges_fit : (p : ℕ) (a : S) (e : Edge S) → p < m.place_count → m.IsFit a → Contains (m.edges_of p a) e → m.IsFit e.state
  pub monotone : (p : ℕ) (a b : S) (e : Edge S) → p < m.place_count → m.IsFit a → m.IsFit b → m.IsBelow a b → Contains (m.edges_of p a) e → LeadsAbove m (m.edges_of p b) e.target e.state
  pub rank_bound : (a : S) → m.IsFit a → m.rank a < m.height
  pub rank_keeps : (a b : S) → m.IsFit a → m.IsFit b → m.IsBelow a b → m.rank a ≤ m.rank b
  pub rank_rises : (a b : S) → m.IsFit a → m.IsFit b → m.IsBelow a b → (m.IsBelow b a → ⊥) → m.rank a < m.rank b
