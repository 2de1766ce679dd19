-- The least typing of a flow as it is found by rounds: what comes to a place is joined into its state, again and again.
use Rattle.std.specs.Prelude.{ℕ, zero, suc, ◌*◌, ◌==◌, if◌then◌else◌, List, [], ◌∷◌, ◌++◌, Option, Some, None}
use Rattle.label_fixpoint.specs.declared.edge.Edge.{Edge}
use Rattle.label_fixpoint.specs.Meaning.{Meaning}
use Rattle.label_fixpoint.specs.Typing.{Typing}

-- a place with no state takes the one that comes
abbrev pub joined_at : {S : Type 0} → (S → S → S) → Option S → S → Option S
joined_at join None s = Some s
joined_at join (Some r) s = Some (join r s)

abbrev pub take_in : {S : Type 0} → (S → S → S) → Edge S → Typing S → Typing S
take_in join e t p = if p == e.target then joined_at join (t p) e.state else t p

-- one edge after another
abbrev pub take_all : {S : Type 0} → (S → S → S) → List (Edge S) → Typing S → Typing S
take_all join [] t = t
take_all join (e ∷ es) t = take_all join es (take_in join e t)

-- none lead on from a place with no state
abbrev pub edges_of_state : {S : Type 0} → Meaning S → ℕ → Option S → List (Edge S)
edges_of_state m p None = []
edges_of_state m p (Some s) = m.edges_of p s

-- those of the first n places, in order
abbrev pub edges_before : {S : Type 0} → Meaning S → Typing S → ℕ → List (Edge S)
edges_before m t zero = []
edges_before m t (suc n) = edges_before m t n ++ edges_of_state m n (t n)

-- each edge that leads on is taken in
abbrev pub one_round : {S : Type 0} → Meaning S → (S → S → S) → Typing S → Typing S
one_round m join t = take_all join (edges_before m t m.place_count) t

-- the entry has the first state, and no other place has one
abbrev pub first_typing : {S : Type 0} → Meaning S → Typing S
first_typing m p = if p == m.entry_place then Some m.first_state else None

-- the typing after so many rounds
abbrev pub rounds : {S : Type 0} → Meaning S → (S → S → S) → ℕ → Typing S
rounds m join zero = first_typing m
rounds m join (suc n) = one_round m join (rounds m join n)

-- after so many rounds one has raised nothing, since the state of a place rises at most as often as the height says
unfoldable pub least_typing : {S : Type 0} → Meaning S → (S → S → S) → Typing S
least_typing m join = rounds m join (m.place_count * m.height)
