-- Where the edges of a block come from, and which edges of its places it has.
use Rattle.std.proofs.Common.{◌≡◌, ◌∙◌, ◌⊎◌, ℕ, zero, suc, ◌+◌, ◌-◌, ◌<◌, ◌≤◌, List, [], ◌++◌, map, Contains, Option, Some, None, option_and_then, refl, sym, ap, subst, inl, inr, arith}
use Rattle.std.proofs.lemmas.Bool.{cases_lt}
use Rattle.std.proofs.lemmas.Option.{none-some, same_Some}
use Rattle.std.proofs.lemmas.List.Elements.{Contains-push, Contains-append_left, Contains-append_right, Contains-append_cases}
use Rattle.label_fixpoint.specs.declared.edge.Edge.{Edge}
use Rattle.label_fixpoint.specs.Meaning.{Meaning, IsLawful}
use Rattle.label_fixpoint.specs.Singles.{nothing_in, only_in}
use Rattle.label_fixpoint.specs.Mapped.{mapped_from, mapped_held}
use Rattle.label_fixpoint.specs.Cut.{Cut, IsCut, at_state, onward, aimed, along, gathered, size_of, block_edges}

abbrev pub edge : {S : Type 0} → ℕ → S → Edge S
edge target s = record { target = target; state = s }

-- ---- what is gathered

pub onward_from : {S : Type 0} (place : ℕ) (o : Option S) (e : Edge S) → Contains (onward place o) e → (s : S) × (o ≡ Some s) × (edge place s ≡ e)
onward_from place None e held = nothing_in e held
onward_from place (Some s) e held = (s, refl, only_in (edge place s) e held)

pub onward_in : {S : Type 0} (place : ℕ) (o : Option S) (s : S) → o ≡ Some s → Contains (onward place o) (edge place s)
onward_in {S} place o s is = subst (λ (r : Option S). Contains (onward place r) (edge place s)) (sym is) (Contains-push [] (edge place s))

read_from : {A S : Type 0} (f : S → List A) (o : Option S) (x : A) → Contains (at_state f o) x → (s : S) × (o ≡ Some s) × Contains (f s) x
read_from f None x held = nothing_in x held
read_from f (Some s) x held = (s, refl, held)

read_in : {A S : Type 0} (f : S → List A) (o : Option S) (s : S) (x : A) → o ≡ Some s → Contains (f s) x → Contains (at_state f o) x
read_in {A} {S} f o s x is held = subst (λ (r : Option S). Contains (at_state f r) x) (sym is) held

module _ {A S : Type 0} (goes : ℕ → S → Option S) (f : ℕ → S → List A) (p : ℕ) (s : S) where
  pub gathered_from : (n : ℕ) (x : A) → Contains (gathered goes f p n s) x → (k : ℕ) × (r : S) × (k < n) × (along goes p k s ≡ Some r) × Contains (f (p + k) r) x
  gathered_from zero x held = nothing_in x held
  gathered_from (suc n) x held =
      elim (Contains-append_cases (gathered goes f p n s) (at_state (f (p + n)) (along goes p n s)) x held) [
        | inl before ↦ let was = gathered_from n x before in let low = was.2 in (was.0, was.1, omega (arith, low), was.3, was.4)
        | inr last ↦ let was = read_from (f (p + n)) (along goes p n s) x last in (n, was.0, omega arith, was.1, was.2)
      ]

  pub gathered_in : (n k : ℕ) (r : S) (x : A) → k < n → along goes p k s ≡ Some r → Contains (f (p + k) r) x → Contains (gathered goes f p n s) x
  gathered_in zero k r x inside is held = absurd (omega (arith, inside))
  gathered_in (suc n) k r x inside is held =
      elim (cases_lt k n) [
        | inl before ↦ Contains-append_left (gathered goes f p n s) (at_state (f (p + n)) (along goes p n s)) x (gathered_in n k r x before is held)
        | inr last ↦
            let same : k ≡ n = omega (arith, inside, last) in
            let here : Contains (at_state (f (p + k)) (along goes p k s)) x = read_in (f (p + k)) (along goes p k s) r x is held in
            Contains-append_right (gathered goes f p n s) (at_state (f (p + n)) (along goes p n s)) x (subst (λ (j : ℕ). Contains (at_state (f (p + j)) (along goes p j s)) x) same here)
      ]

-- the state one place before
pub along_last : {S : Type 0} (goes : ℕ → S → Option S) (p k : ℕ) (s t : S) → along goes p (suc k) s ≡ Some t → (r : S) × (along goes p k s ≡ Some r) × (goes (p + k) r ≡ Some t)
along_last {S} goes p k s t is = go (along goes p k s) refl is where
  go : (o : Option S) → along goes p k s ≡ o → option_and_then (goes (p + k)) o ≡ Some t → (r : S) × (along goes p k s ≡ Some r) × (goes (p + k) r ≡ Some t)
  go None was now = absurd (none-some t now)
  go (Some r) was now = (r, was, now)

pub along_next : {S : Type 0} (goes : ℕ → S → Option S) (p k : ℕ) (s r t : S) → along goes p k s ≡ Some r → goes (p + k) r ≡ Some t → along goes p (suc k) s ≡ Some t
along_next {S} goes p k s r t was now = ap (option_and_then (goes (p + k))) was ∙ now

module _ (S : Type 0) (m : Meaning S) (c : Cut S) (law : IsLawful m) (cut : IsCut m c) where
  -- ---- where blocks begin

  head_at_most : (a b : ℕ) → a ≤ b → b ≤ c.count → c.head a ≤ c.head b
  head_at_most a zero low inside = let same : c.head a ≡ c.head 0 = ap c.head (omega (arith, low)) in omega (arith, same)
  head_at_most a (suc b) low inside =
      elim (cases_lt b a) [
        | inl over ↦ let same : c.head a ≡ c.head (suc b) = ap c.head (omega (arith, low, over)) in omega (arith, same)
        | inr under ↦
            let before = head_at_most a b under (omega (arith, inside)) in
            let step = cut.rises b (omega (arith, inside)) in
            let next : c.head (b + 1) ≡ c.head (suc b) = ap c.head (omega arith) in
            omega (arith, before, step, next)
      ]

  pub end_inside : (b : ℕ) → b < c.count → c.head (b + 1) ≤ m.place_count
  end_inside b inside = let most = head_at_most (b + 1) c.count (omega (arith, inside)) (omega arith) in let end = cut.end in omega (arith, most, end)

  pub head_inside : (b : ℕ) → b < c.count → c.head b < m.place_count
  head_inside b inside = let step = cut.rises b inside in let most = end_inside b inside in omega (arith, step, most)

  pub block_is : (b p : ℕ) → b < c.count → c.head b ≤ p → p < c.head (b + 1) → c.block p ≡ b
  block_is b p inside low high =
      let most = end_inside b inside in
      let place : p < m.place_count = omega (arith, high, most) in
      let own = cut.within p place in
      let from = cut.from p place in
      let to = cut.to p place in
      elim (cases_lt (c.block p) b) [
        | inl before ↦ let far = head_at_most (c.block p + 1) b (omega (arith, before)) (omega (arith, inside)) in absurd (omega (arith, far, to, low))
        | inr after ↦
            elim (cases_lt b (c.block p)) [
              | inl behind ↦ let far = head_at_most (b + 1) (c.block p) (omega (arith, behind)) (omega (arith, own)) in absurd (omega (arith, far, from, high))
              | inr other ↦ omega (arith, after, other)
            ]
      ]

  pub block_of_head : (b : ℕ) → b < c.count → c.block (c.head b) ≡ b
  block_of_head b inside = block_is b (c.head b) inside (omega arith) (cut.rises b inside)

  same_head : (a b : ℕ) → a < c.count → b < c.count → c.head a ≡ c.head b → a ≡ b
  same_head a b first second same = sym (block_of_head a first) ∙ (ap c.block same ∙ block_of_head b second)

  -- none begins inside of another
  no_head : (a b : ℕ) → a < c.count → b < c.count → c.head b < c.head a → c.head a < c.head (b + 1) → ⊥
  no_head a b first second low high =
      elim (cases_lt b a) [
        | inl after ↦ let far = head_at_most (b + 1) a (omega (arith, after)) (omega (arith, first)) in omega (arith, far, high)
        | inr before ↦ let far = head_at_most a b before (omega (arith, second)) in omega (arith, far, low)
      ]

  -- where a block ends, the next one begins
  pub next_block : (b : ℕ) → b < c.count → c.head (b + 1) < m.place_count → b + 1 < c.count
  next_block b inside low =
      elim (cases_lt (b + 1) c.count) [
        | inl before ↦ before
        | inr last ↦ let same : c.head (b + 1) ≡ c.head c.count = ap c.head (omega (arith, inside, last)) in let end = cut.end in absurd (omega (arith, same, end, low))
      ]

  -- ---- the edges of a place

  module _ (p : ℕ) (s : S) (inside : p < m.place_count) (fit : m.IsFit s) where
    abbrev parts : List (Edge S)
    parts = map (aimed c.head) (c.jumps p s) ++ onward (p + 1) (c.goes p s)

    pub jump_leads : (j : Edge S) → Contains (c.jumps p s) j → Contains (m.edges_of p s) (aimed c.head j)
    jump_leads j held =
        let first = Contains-append_left (map (aimed c.head) (c.jumps p s)) (onward (p + 1) (c.goes p s)) (aimed c.head j) (mapped_held (aimed c.head) (c.jumps p s) j held) in
        subst (λ (es : List (Edge S)). Contains es (aimed c.head j)) (sym (cut.edges p s inside fit)) first

    pub go_leads : (t : S) → c.goes p s ≡ Some t → Contains (m.edges_of p s) (edge (p + 1) t)
    go_leads t is =
        let last = Contains-append_right (map (aimed c.head) (c.jumps p s)) (onward (p + 1) (c.goes p s)) (edge (p + 1) t) (onward_in (p + 1) (c.goes p s) t is) in
        subst (λ (es : List (Edge S)). Contains es (edge (p + 1) t)) (sym (cut.edges p s inside fit)) last

    pub edge_cases : (e : Edge S) → Contains (m.edges_of p s) e → ((j : Edge S) × Contains (c.jumps p s) j × (aimed c.head j ≡ e)) ⊎ ((t : S) × (c.goes p s ≡ Some t) × (edge (p + 1) t ≡ e))
    edge_cases e held =
        let either = subst (λ (es : List (Edge S)). Contains es e) (cut.edges p s inside fit) held in
        elim (Contains-append_cases (map (aimed c.head) (c.jumps p s)) (onward (p + 1) (c.goes p s)) e either) [
          | inl jump ↦ inl (mapped_from (aimed c.head) (c.jumps p s) e jump)
          | inr on ↦ inr (onward_from (p + 1) (c.goes p s) e on)
        ]

    pub go_fits : (t : S) → c.goes p s ≡ Some t → m.IsFit t
    go_fits t is = law.edges_fit p s (edge (p + 1) t) inside fit (go_leads t is)

    pub go_stays : (t : S) → c.goes p s ≡ Some t → p + 1 < m.place_count
    go_stays t is = law.targets p s (edge (p + 1) t) inside fit (go_leads t is)

  -- ---- along a block

  pub along_fits : (p k : ℕ) (s t : S) → p + k ≤ m.place_count → m.IsFit s → along c.goes p k s ≡ Some t → m.IsFit t
  along_fits p zero s t inside fit is = subst m.IsFit (same_Some s t is) fit
  along_fits p (suc k) s t inside fit is =
      let last = along_last c.goes p k s t is in
      go_fits (p + k) last.0 (omega (arith, inside)) (along_fits p k s last.0 (omega (arith, inside)) fit last.1) t last.2

  module _ (b : ℕ) (within : b < c.count) where
    abbrev first : ℕ
    first = c.head b

    size_is : first + size_of c b ≡ c.head (b + 1)
    size_is = let step = cut.rises b within in omega (arith, step)

    pub place_inside : (k : ℕ) → k < size_of c b → first + k < m.place_count
    place_inside k inside = let size = size_is in let most = end_inside b within in omega (arith, size, most, inside)

    along_fit : (k : ℕ) (s t : S) → k < size_of c b → m.IsFit s → along c.goes first k s ≡ Some t → m.IsFit t
    along_fit k s t inside fit is = let place = place_inside k inside in along_fits first k s t (omega (arith, place)) fit is

    -- behind its last place is the next block
    last_place : (k : ℕ) → suc k ≡ size_of c b → first + k + 1 ≡ c.head (b + 1)
    last_place k is = let size = size_is in omega (arith, size, is)

    -- an edge of the block is one of a place of it
    pub comes : (s : S) (e : Edge S) → m.IsFit s → Contains (block_edges c b s) e
        → (k : ℕ) × (r : S) × (k < size_of c b) × (along c.goes first k s ≡ Some r) × Contains (m.edges_of (first + k) r) (aimed c.head e) × (e.target < c.count)
    comes s e fit held =
        elim (Contains-append_cases (gathered c.goes c.jumps first (size_of c b) s) (onward (b + 1) (along c.goes first (size_of c b) s)) e held) [
          | inl jump ↦
              let was = gathered_from c.goes c.jumps first s (size_of c b) e jump in
              let place = place_inside was.0 was.2 in
              let fit_there = along_fit was.0 s was.1 was.2 fit was.3 in
              (was.0, was.1, was.2, was.3, jump_leads (first + was.0) was.1 place fit_there e was.4, cut.targets (first + was.0) was.1 e place fit_there was.4)
          | inr on ↦ let was = onward_from (b + 1) (along c.goes first (size_of c b) s) e on in ends (size_of c b) refl was.0 was.1 was.2
        ] where
          ends : (n : ℕ) → size_of c b ≡ n → (t : S) → along c.goes first (size_of c b) s ≡ Some t → edge (b + 1) t ≡ e
              → (k : ℕ) × (r : S) × (k < size_of c b) × (along c.goes first k s ≡ Some r) × Contains (m.edges_of (first + k) r) (aimed c.head e) × (e.target < c.count)
          ends zero size t is same = let step = cut.rises b within in absurd (omega (arith, step, size))
          ends (suc k) size t is same =
              let last = along_last c.goes first k s t (subst (λ (n : ℕ). along c.goes first n s ≡ Some t) size is) in
              let inside : k < size_of c b = omega (arith, size) in
              let place = place_inside k inside in
              let fit_there = along_fit k s last.0 inside fit last.1 in
              let at = last_place k (sym size) in
              let leads = subst (λ (q : ℕ). Contains (m.edges_of (first + k) last.0) (edge q t)) at (go_leads (first + k) last.0 place fit_there t last.2) in
              let low = subst (λ (q : ℕ). q < m.place_count) at (go_stays (first + k) last.0 place fit_there t last.2) in
              let found : Contains (m.edges_of (first + k) last.0) (aimed c.head e) = subst (λ (x : Edge S). Contains (m.edges_of (first + k) last.0) (aimed c.head x)) same leads in
              let target : e.target < c.count = subst (λ (x : Edge S). x.target < c.count) same (next_block b within low) in
              (k, last.0, inside, last.1, found, target)

    -- an edge of a place of the block to where a block begins is one of the block
    pub lands : (s : S) (k : ℕ) (r : S) (e : Edge S) (i : ℕ) → m.IsFit s → k < size_of c b → along c.goes first k s ≡ Some r → Contains (m.edges_of (first + k) r) e → c.head i ≡ e.target → i < c.count
        → Contains (block_edges c b s) (edge i e.state)
    lands s k r e i fit inside is held at low =
        elim (edge_cases (first + k) r (place_inside k inside) (along_fit k s r inside fit is) e held) [
          | inl jump ↦
              let j = jump.0 in
              let target = cut.targets (first + k) r j (place_inside k inside) (along_fit k s r inside fit is) jump.1 in
              let same : j.target ≡ i = same_head j.target i target low (ap (λ (x : Edge S). x.target) jump.2 ∙ sym at) in
              let whole : j ≡ edge i e.state = ap (λ (n : ℕ). edge n j.state) same ∙ ap (λ (x : Edge S). edge i x.state) jump.2 in
              let put = gathered_in c.goes c.jumps first s (size_of c b) k r j inside is jump.1 in
              Contains-append_left (gathered c.goes c.jumps first (size_of c b) s) (onward (b + 1) (along c.goes first (size_of c b) s)) (edge i e.state)
              (subst (λ (x : Edge S). Contains (gathered c.goes c.jumps first (size_of c b) s) x) whole put)
          | inr on ↦
              let target : first + k + 1 ≡ e.target = ap (λ (x : Edge S). x.target) on.2 in
              let state : on.0 ≡ e.state = ap (λ (x : Edge S). x.state) on.2 in
              let size = size_is in
              let end : c.head i ≡ c.head (b + 1) = elim (cases_lt (c.head i) (c.head (b + 1))) [
                | inl strictly ↦ absurd (no_head i b low within (omega (arith, at, target)) strictly)
                | inr over ↦ omega (arith, over, at, target, size, inside)
              ] in
              let place = head_inside i low in
              let next = same_head i (b + 1) low (next_block b within (omega (arith, place, end))) end in
              let last : suc k ≡ size_of c b = omega (arith, size, end, at, target) in
              let there = subst (λ (n : ℕ). along c.goes first n s ≡ Some on.0) last (along_next c.goes first k s r on.0 is on.1) in
              let put = onward_in (b + 1) (along c.goes first (size_of c b) s) on.0 there in
              let whole : edge (b + 1) on.0 ≡ edge i e.state = ap (λ (n : ℕ). edge n on.0) (sym next) ∙ ap (λ (x : S). edge i x) state in
              Contains-append_right (gathered c.goes c.jumps first (size_of c b) s) (onward (b + 1) (along c.goes first (size_of c b) s)) (edge i e.state)
              (subst (λ (x : Edge S). Contains (onward (b + 1) (along c.goes first (size_of c b) s)) x) whole put)
        ]

    -- a greater state leads on as far inside of the block, to a greater one
    pub along_rises : (k : ℕ) (s t r : S) → k < size_of c b → m.IsFit s → m.IsFit t → m.IsBelow s t → along c.goes first k s ≡ Some r → (q : S) × (along c.goes first k t ≡ Some q) × m.IsBelow r q
    along_rises zero s t r inside fit_s fit_t below is = (t, refl, subst (λ (x : S). m.IsBelow x t) (same_Some s r is) below)
    along_rises (suc k) s t r inside fit_s fit_t below is =
        let last = along_last c.goes first k s r is in
        let less : k < size_of c b = omega (arith, inside) in
        let up = along_rises k s t last.0 less fit_s fit_t below last.1 in
        let place = place_inside k less in
        let fit_last = along_fit k s last.0 less fit_s last.1 in
        let fit_up = along_fit k t up.0 less fit_t up.1 in
        let grown = law.monotone (first + k) last.0 up.0 (edge (first + k + 1) r) place fit_last fit_up up.2 (go_leads (first + k) last.0 place fit_last r last.2) in
        elim (edge_cases (first + k) up.0 place fit_up grown.0 grown.1) [
          | inl jump ↦
              let target = cut.targets (first + k) up.0 jump.0 place fit_up jump.1 in
              let at : c.head jump.0.target ≡ first + k + 1 = ap (λ (x : Edge S). x.target) jump.2 ∙ grown.2 in
              let size = size_is in
              absurd (no_head jump.0.target b target within (omega (arith, at)) (omega (arith, at, size, inside)))
          | inr on ↦
              let state : on.0 ≡ grown.0.state = ap (λ (x : Edge S). x.state) on.2 in
              (on.0, along_next c.goes first k t up.0 on.0 up.1 on.1, subst (m.IsBelow r) (sym state) grown.3)
        ]
