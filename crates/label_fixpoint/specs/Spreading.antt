-- The least typing of the blocks, followed from where each begins, is the least typing of the places.
use Rattle.std.proofs.Common.{◌≡◌, ◌∙◌, ℕ, zero, suc, ◌+◌, ◌-◌, ◌<◌, ◌≤◌, Contains, List, [], ◌++◌, Option, Some, None, option_and_then, refl, sym, ap, subst, inl, inr, arith, append_assoc}
use Rattle.std.proofs.lemmas.Bool.{cases_lt}
use Rattle.std.proofs.lemmas.List.{append-nil}
use Rattle.std.proofs.lemmas.Option.{none-some, same_Some}
use Rattle.label_fixpoint.specs.declared.edge.Edge.{Edge}
use Rattle.label_fixpoint.specs.Meaning.{Meaning, IsLawful}
use Rattle.label_fixpoint.specs.Typing.{Typing, HasAbove, IsConsistent, IsLeast}
use Rattle.label_fixpoint.specs.Passing.{passed}
use Rattle.label_fixpoint.specs.Cut.{Cut, IsCut, at_state, aimed, along, gathered, read, size_of, block_edges, block_read, blocks_of, spread}
use Rattle.label_fixpoint.specs.Leaving.{edge, along_fits, along_last, along_next, block_is, block_of_head, comes, edge_cases, end_inside, go_fits, go_leads, go_stays, head_inside, lands, next_block, place_inside}

module _ (S : Type 0) (m : Meaning S) (c : Cut S) (law : IsLawful m) (cut : IsCut m c) where
  -- ---- typings of places where blocks begin

  abbrev at_heads : Typing S → Typing S
  at_heads u b = u (c.head b)

  module _ (u : Typing S) (consistent : IsConsistent m u) where
    carried : (p k : ℕ) (s r : S) → p + k < m.place_count → m.IsFit s → HasAbove m u p s → along c.goes p k s ≡ Some r → HasAbove m u (p + k) r
    carried p zero s r inside fit has is =
        let here : HasAbove m u p r = subst (HasAbove m u p) (same_Some s r is) has in
        subst (λ (q : ℕ). HasAbove m u q r) (omega arith) here
    carried p (suc k) s r inside fit has is =
        let last = along_last c.goes p k s r is in
        let place : p + k < m.place_count = omega (arith, inside) in
        let fit_last = along_fits S m c law cut p k s last.0 (omega (arith, place)) fit last.1 in
        let before = carried p k s last.0 place fit has last.1 in
        let next = passed S m law u consistent (p + k) last.0 (edge (p + k + 1) r) place fit_last before (go_leads S m c law cut (p + k) last.0 place fit_last r last.2) in
        subst (λ (q : ℕ). HasAbove m u q r) (omega arith) next

    pub heads_consistent : IsConsistent (blocks_of m c) (at_heads u)
    heads_consistent = record {
      fits = λ b s inside is. consistent.fits (c.head b) s (head_inside S m c law cut b inside) is;
      enters = subst (λ (p : ℕ). HasAbove m u p m.first_state) (sym cut.entry) consistent.enters;
      follows = λ b s e inside is held.
          let place = head_inside S m c law cut b inside in
          let fit = consistent.fits (c.head b) s place is in
          let was = comes S m c law cut b inside s e fit held in
          let there = place_inside S m c law cut b inside was.0 was.2 in
          let fit_there = along_fits S m c law cut (c.head b) was.0 s was.1 (omega (arith, there)) fit was.3 in
          let has = carried (c.head b) was.0 s was.1 there fit (s, is, law.reflexive s fit) was.3 in
          passed S m law u consistent (c.head b + was.0) was.1 (aimed c.head e) there fit_there has was.4;
    }

  -- ---- what a typing of blocks gives

  module _ (t : Typing S) where
    -- the state of a place that is so far behind where its block begins
    pub spread_at : (b k : ℕ) → b < c.count → k < size_of c b → spread c t (c.head b + k) ≡ option_and_then (along c.goes (c.head b) k) (t b)
    spread_at b k within inside =
        let step = cut.rises b within in
        let own = block_is S m c law cut b (c.head b + k) within (omega arith) (omega (arith, step, inside)) in
        let back : c.head b + k - c.head b ≡ k = omega arith in
        ap (λ (i : ℕ). option_and_then (along c.goes (c.head i) (c.head b + k - c.head i)) (t i)) own
        ∙ ap (λ (n : ℕ). option_and_then (along c.goes (c.head b) n) (t b)) back

    itself : (o : Option S) (p : ℕ) → option_and_then (along c.goes p 0) o ≡ o
    itself None p = refl
    itself (Some s) p = refl

    pub spread_head : (b : ℕ) → b < c.count → spread c t (c.head b) ≡ t b
    spread_head b within =
        let step = cut.rises b within in
        let same : c.head b ≡ c.head b + 0 = omega arith in
        ap (spread c t) same ∙ (spread_at b 0 within (omega (arith, step)) ∙ itself (t b) (c.head b))

    -- where the state of a place comes from
    spread_from : (p : ℕ) (s : S) → spread c t p ≡ Some s → (r : S) × (t (c.block p) ≡ Some r) × (along c.goes (c.head (c.block p)) (p - c.head (c.block p)) r ≡ Some s)
    spread_from p s is = go (t (c.block p)) refl is where
      go : (o : Option S) → t (c.block p) ≡ o → option_and_then (along c.goes (c.head (c.block p)) (p - c.head (c.block p))) o ≡ Some s
          → (r : S) × (t (c.block p) ≡ Some r) × (along c.goes (c.head (c.block p)) (p - c.head (c.block p)) r ≡ Some s)
      go None was now = absurd (none-some s now)
      go (Some r) was now = (r, was, now)

  module _ (t : Typing S) (consistent : IsConsistent (blocks_of m c) t) where
    met_at_head : (b : ℕ) (s : S) → b < c.count → HasAbove (blocks_of m c) t b s → HasAbove m (spread c t) (c.head b) s
    met_at_head b s within has = (has.0, spread_head t b within ∙ has.1, has.2)

    -- an edge of a place leads on below what its target has
    module _ (p : ℕ) (s : S) (e : Edge S) (inside : p < m.place_count) (is : spread c t p ≡ Some s) (held : Contains (m.edges_of p s) e) where
      abbrev b : ℕ
      b = c.block p

      abbrev k : ℕ
      k = p - c.head b

      within : b < c.count
      within = cut.within p inside

      place : c.head b + k ≡ p
      place = let from = cut.from p inside in omega (arith, from)

      short : k < size_of c b
      short = let from = cut.from p inside in let to = cut.to p inside in omega (arith, from, to)

      root : (r : S) × (t b ≡ Some r) × (along c.goes (c.head b) k r ≡ Some s)
      root = spread_from t p s is

      fit_root : m.IsFit root.0
      fit_root = consistent.fits b root.0 within root.1

      fit : m.IsFit s
      fit = along_fits S m c law cut (c.head b) k root.0 s (let at = place in omega (arith, at, inside)) fit_root root.2

      to_head : (i : ℕ) → i < c.count → c.head i ≡ e.target → HasAbove m (spread c t) e.target e.state
      to_head i low at =
          let there = subst (λ (q : ℕ). Contains (m.edges_of q s) e) (sym place) held in
          let put = lands S m c law cut b within root.0 k s e i fit_root short root.2 there at low in
          let met = consistent.follows b root.0 (edge i e.state) within root.1 put in
          subst (λ (q : ℕ). HasAbove m (spread c t) q e.state) at (met_at_head i e.state low met)

      to_next : (r : S) → c.goes p s ≡ Some r → edge (p + 1) r ≡ e → HasAbove m (spread c t) e.target e.state
      to_next r on same =
          let fit_next = go_fits S m c law cut p s inside fit r on in
          let low = go_stays S m c law cut p s inside fit r on in
          let at = place in
          let to = cut.to p inside in
          let step = cut.rises b within in
          elim (cases_lt (k + 1) (size_of c b)) [
            | inl inner ↦
                let onto = along_next c.goes (c.head b) k root.0 s r root.2 (subst (λ (q : ℕ). c.goes q s ≡ Some r) (sym place) on) in
                let count : suc k ≡ k + 1 = omega arith in
                let next : c.head b + (k + 1) ≡ p + 1 = omega (arith, at) in
                let is_there : spread c t (p + 1) ≡ Some r =
                ap (spread c t) (sym next) ∙ (spread_at t b (k + 1) within inner ∙ (ap (option_and_then (along c.goes (c.head b) (k + 1))) root.1 ∙ (ap (λ (n : ℕ). along c.goes (c.head b) n root.0) (sym count) ∙ onto))) in
                subst (λ (x : Edge S). HasAbove m (spread c t) x.target x.state) same (r, is_there, law.reflexive r fit_next)
            | inr last ↦
                let end : c.head (b + 1) ≡ p + 1 = omega (arith, at, to, last, step) in
                let there : c.head (b + 1) ≡ e.target = end ∙ ap (λ (x : Edge S). x.target) same in
                to_head (b + 1) (next_block S m c law cut b within (omega (arith, end, low))) there
          ]

      pub leads_below : HasAbove m (spread c t) e.target e.state
      leads_below =
          elim (edge_cases S m c law cut p s inside fit e held) [
            | inl jump ↦ to_head jump.0.target (cut.targets p s jump.0 inside fit jump.1) (ap (λ (x : Edge S). x.target) jump.2)
            | inr on ↦ to_next on.0 on.1 on.2
          ]

    spread_fits : (p : ℕ) (s : S) → p < m.place_count → spread c t p ≡ Some s → m.IsFit s
    spread_fits p s inside is =
        let was = spread_from t p s is in
        let from = cut.from p inside in
        along_fits S m c law cut (c.head (c.block p)) (p - c.head (c.block p)) was.0 s (omega (arith, from, inside)) (consistent.fits (c.block p) was.0 (cut.within p inside) was.1) was.2

    pub spread_consistent : IsConsistent m (spread c t)
    spread_consistent = record {
      fits = spread_fits;
      enters = subst (λ (p : ℕ). HasAbove m (spread c t) p m.first_state) cut.entry (met_at_head (c.block m.entry_place) m.first_state (cut.within m.entry_place law.entry_is_place) consistent.enters);
      follows = leads_below;
    }

  pub spread_least : (t : Typing S) → IsLeast (blocks_of m c) t → IsLeast m (spread c t)
  spread_least t least = record {
    consistent = spread_consistent t least.consistent;
    least = λ u consistent p s inside is.
        let was = spread_from t p s is in
        let within = cut.within p inside in
        let from = cut.from p inside in
        let place : c.head (c.block p) + (p - c.head (c.block p)) ≡ p = omega (arith, from) in
        let has = least.least (at_heads u) (heads_consistent u consistent) (c.block p) was.0 within was.1 in
        let fit = least.consistent.fits (c.block p) was.0 within was.1 in
        let there = carried u consistent (c.head (c.block p)) (p - c.head (c.block p)) was.0 s (omega (arith, from, inside)) fit has was.2 in
        subst (λ (q : ℕ). HasAbove m u q s) place there;
  }

  -- ---- what is read off

  module _ {A : Type 0} (t : Typing S) (f : ℕ → S → List A) where
    one_more : (b k : ℕ) (o : Option S) → at_state (λ s. gathered c.goes f (c.head b) k s) o ++ at_state (f (c.head b + k)) (option_and_then (along c.goes (c.head b) k) o) ≡ at_state (λ s. gathered c.goes f (c.head b) (suc k) s) o
    one_more b k None = refl
    one_more b k (Some s) = refl

    none_yet : (b : ℕ) (o : Option S) → at_state (λ s. gathered c.goes f (c.head b) 0 s) o ≡ []
    none_yet b None = refl
    none_yet b (Some s) = refl

    read_into : (b k : ℕ) → b < c.count → k ≤ size_of c b → read (spread c t) f (c.head b + k) ≡ read (spread c t) f (c.head b) ++ at_state (λ s. gathered c.goes f (c.head b) k s) (t b)
    read_into b zero within inside =
        let same : c.head b + 0 ≡ c.head b = omega arith in
        ap (read (spread c t) f) same ∙ (sym (append-nil (read (spread c t) f (c.head b))) ∙ ap (λ (xs : List A). read (spread c t) f (c.head b) ++ xs) (sym (none_yet b (t b))))
    read_into b (suc k) within inside =
        let next : c.head b + suc k ≡ suc (c.head b + k) = omega arith in
        let before = read_into b k within (omega (arith, inside)) in
        let here = spread_at t b k within (omega (arith, inside)) in
        ap (read (spread c t) f) next
        ∙ (ap (λ (xs : List A). xs ++ at_state (f (c.head b + k)) (spread c t (c.head b + k))) before
        ∙ (ap (λ (o : Option S). (read (spread c t) f (c.head b) ++ at_state (λ s. gathered c.goes f (c.head b) k s) (t b)) ++ at_state (f (c.head b + k)) o) here
        ∙ (append_assoc (read (spread c t) f (c.head b)) (at_state (λ s. gathered c.goes f (c.head b) k s) (t b)) (at_state (f (c.head b + k)) (option_and_then (along c.goes (c.head b) k) (t b)))
        ∙ ap (λ (xs : List A). read (spread c t) f (c.head b) ++ xs) (one_more b k (t b)))))

    read_blocks : (b : ℕ) → c.head 0 ≡ 0 → b ≤ c.count → read (spread c t) f (c.head b) ≡ read t (block_read c f) b
    read_blocks zero begins inside = ap (read (spread c t) f) begins
    read_blocks (suc b) begins inside =
        let within : b < c.count = omega (arith, inside) in
        let step = cut.rises b within in
        let count : suc b ≡ b + 1 = omega arith in
        let size : c.head (b + 1) ≡ c.head b + size_of c b = omega (arith, step) in
        let next : c.head (suc b) ≡ c.head b + size_of c b = ap c.head count ∙ size in
        ap (read (spread c t) f) next
        ∙ (read_into b (size_of c b) within (omega arith)
        ∙ ap (λ (xs : List A). xs ++ at_state (block_read c f b) (t b)) (read_blocks b begins (omega (arith, within))))

    -- place by place or block by block
    pub read_by_blocks : c.head 0 ≡ 0 → read (spread c t) f m.place_count ≡ read t (block_read c f) c.count
    read_by_blocks begins = ap (read (spread c t) f) (sym cut.end) ∙ read_blocks c.count begins (omega arith)
