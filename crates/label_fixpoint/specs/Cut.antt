-- A flow that is cut into blocks: places in a row, of which the first alone is entered from elsewhere.
use Rattle.std.specs.Prelude.{◌≡◌, ℕ, zero, suc, ◌+◌, ◌-◌, ◌<◌, ◌≤◌, List, [], ◌∷◌, ◌++◌, Contains, map, Option, Some, None, option_and_then}
use Rattle.label_fixpoint.specs.declared.edge.Edge.{Edge}
use Rattle.label_fixpoint.specs.Meaning.{Meaning}
use Rattle.label_fixpoint.specs.Typing.{Typing}

-- how many blocks there are; the place where each begins, and behind them the number of places; the block of each place; the edges of a place that lead to blocks; and the state with which it leads to the next place, if it does
pub record Cut (S : Type 0) : Type 0 where
  pub count : ℕ
  pub head : ℕ → ℕ
  pub block : ℕ → ℕ
  pub jumps : ℕ → S → List (Edge S)
  pub goes : ℕ → S → Option S

-- ---- lists that are read off states

abbrev pub at_state : {A S : Type 0} → (S → List A) → Option S → List A
at_state f None = []
at_state f (Some s) = f s

-- the edge to a place that is entered with a state
abbrev pub onward : {S : Type 0} → ℕ → Option S → List (Edge S)
onward place None = []
onward place (Some s) = record { target = place; state = s } ∷ []

-- the same edge to another place
abbrev pub aimed : {S : Type 0} → (ℕ → ℕ) → Edge S → Edge S
aimed place e = record { target = place e.target; state = e.state }

-- ---- from place to place

-- the state so many places on
abbrev pub along : {S : Type 0} → (ℕ → S → Option S) → ℕ → ℕ → S → Option S
along goes place zero s = Some s
along goes place (suc more) s = option_and_then (goes (place + more)) (along goes place more s)

-- what is read off the states of so many places, in order
abbrev pub gathered : {A S : Type 0} → (ℕ → S → Option S) → (ℕ → S → List A) → ℕ → ℕ → S → List A
gathered goes f place zero s = []
gathered goes f place (suc more) s = gathered goes f place more s ++ at_state (f (place + more)) (along goes place more s)

-- what is read off the states of all places, in order; or off those of all blocks
abbrev pub read : {A S : Type 0} → Typing S → (ℕ → S → List A) → ℕ → List A
read t f zero = []
read t f (suc places) = read t f places ++ at_state (f places) (t places)

-- ---- blocks

abbrev pub size_of : {S : Type 0} → Cut S → ℕ → ℕ
size_of c block = c.head (block + 1) - c.head block

-- of a block that is followed to its end: the edges that lead to blocks, and the one to the next block, which is entered with the state behind the last place
abbrev pub block_edges : {S : Type 0} → Cut S → ℕ → S → List (Edge S)
block_edges c block s = gathered c.goes c.jumps (c.head block) (size_of c block) s ++ onward (block + 1) (along c.goes (c.head block) (size_of c block) s)

-- what is read off the states of the places of a block
abbrev pub block_read : {A S : Type 0} → Cut S → (ℕ → S → List A) → ℕ → S → List A
block_read c f block s = gathered c.goes f (c.head block) (size_of c block) s

-- the flow whose places are the blocks
abbrev pub blocks_of : {S : Type 0} → Meaning S → Cut S → Meaning S
blocks_of m c = record {
  place_count = c.count;
  entry_place = c.block m.entry_place;
  first_state = m.first_state;
  IsFit = m.IsFit;
  IsBelow = m.IsBelow;
  edges_of = block_edges c;
  rank = m.rank;
  height = m.height;
}

-- the typing of places that a typing of blocks gives when each block is followed
abbrev pub spread : {S : Type 0} → Cut S → Typing S → Typing S
spread c t place = option_and_then (along c.goes (c.head (c.block place)) (place - c.head (c.block place))) (t (c.block place))

-- c cuts this flow: each place is in its block, edges lead to where blocks begin or to the next place, and so the flow begins where a block begins
pub record IsCut {S : Type 0} (m : Meaning S) (c : Cut S) : Type 0 where
  pub rises : (block : ℕ) → block < c.count → c.head block < c.head (block + 1)
  pub end : c.head c.count ≡ m.place_count
  pub within : (place : ℕ) → place < m.place_count → c.block place < c.count
  pub from : (place : ℕ) → place < m.place_count → c.head (c.block place) ≤ place
  pub to : (place : ℕ) → place < m.place_count → place < c.head (c.block place + 1)
  pub entry : c.head (c.block m.entry_place) ≡ m.entry_place
  pub targets : (place : ℕ) (s : S) (e : Edge S) → place < m.place_count → m.IsFit s → Contains (c.jumps place s) e → e.target < c.count
  pub edges : (place : ℕ) (s : S) → place < m.place_count → m.IsFit s → m.edges_of place s ≡ map (aimed c.head) (c.jumps place s) ++ onward (place + 1) (c.goes place s)
