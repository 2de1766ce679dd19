-- What is found by rounds is the least typing.
use Rattle.std.proofs.Common.{◌≡◌, ◌∙◌, ◌⊎◌, ℕ, zero, suc, ◌+◌, ◌*◌, ◌<◌, ◌≤◌, ◌==◌, Bool, true, false, if◌then◌else◌, List, [], ◌∷◌, Contains, Option, Some, None, refl, sym, ap, subst, inl, inr, eq-eqb, eqb-true, arith}
use Rattle.std.proofs.lemmas.Bool.{cases_eq, cases_lt, false≢true}
use Rattle.std.proofs.lemmas.Option.{none-some, same_Some}
use Rattle.std.proofs.lemmas.List.Elements.{Contains-push, Contains-append_left, Contains-append_right, Contains-append_cases}
use Rattle.label_fixpoint.specs.declared.edge.Edge.{Edge}
use Rattle.label_fixpoint.specs.Meaning.{Meaning, IsLawful}
use Rattle.label_fixpoint.specs.Singles.{nothing_in, only_in}
use Rattle.label_fixpoint.specs.Typing.{Typing, HasAbove, IsConsistent, IsBelowTyping, IsLeast}
use Rattle.label_fixpoint.specs.Progress.{weight}
use Rattle.label_fixpoint.specs.Passing.{passed}
use Rattle.label_fixpoint.specs.Rounds.{joined_at, take_in, take_all, edges_of_state, edges_before, one_round, first_typing, rounds, least_typing}

-- join gives least upper bounds of states that fit, and a state above another of no lower rank is below it
pub record HasJoins {S : Type 0} (m : Meaning S) (join : S → S → S) : Type 0 where
  pub fits : (a b : S) → m.IsFit a → m.IsFit b → m.IsFit (join a b)
  pub first : (a b : S) → m.IsFit a → m.IsFit b → m.IsBelow a (join a b)
  pub second : (a b : S) → m.IsFit a → m.IsFit b → m.IsBelow b (join a b)
  pub least : (a b c : S) → m.IsFit a → m.IsFit b → m.IsFit c → m.IsBelow a c → m.IsBelow b c → m.IsBelow (join a b) c
  pub falls_back : (a b : S) → m.IsFit a → m.IsFit b → m.IsBelow a b → m.rank b ≤ m.rank a → m.IsBelow b a

-- what fits weighs no more than the height
pub weight_le : (S : Type 0) (m : Meaning S) → IsLawful m → (slot : Option S) → ((s : S) → slot ≡ Some s → m.IsFit s) → weight m slot ≤ m.height
weight_le S m law None fits = omega arith
weight_le S m law (Some s) fits = let low = law.rank_bound s (fits s refl) in omega (arith, low)

module _ (S : Type 0) (m : Meaning S) (join : S → S → S) (law : IsLawful m) (joins : HasJoins m join) where
  abbrev FitsIn : Option S → Type 0
  FitsIn o = (s : S) → o ≡ Some s → m.IsFit s

  abbrev Over : Option S → S → Type 0
  Over o s = (above : S) × (o ≡ Some above) × m.IsBelow s above

  abbrev Fitting : Typing S → Type 0
  Fitting t = (p : ℕ) (s : S) → p < m.place_count → t p ≡ Some s → m.IsFit s

  abbrev FitEdge : Edge S → Type 0
  FitEdge e = (e.target < m.place_count) × m.IsFit e.state

  abbrev FitEdges : List (Edge S) → Type 0
  FitEdges es = (e : Edge S) → Contains es e → FitEdge e

  -- ---- a state comes to a place

  joined_fits : (o : Option S) (s : S) → FitsIn o → m.IsFit s → FitsIn (joined_at join o s)
  joined_fits None s fits fit r is = subst m.IsFit (same_Some s r is) fit
  joined_fits (Some q) s fits fit r is = subst m.IsFit (same_Some (join q s) r is) (joins.fits q s (fits q refl) fit)

  joined_old : (o : Option S) (s : S) → FitsIn o → m.IsFit s → (r : S) → o ≡ Some r → Over (joined_at join o s) r
  joined_old None s fits fit r is = absurd (none-some r is)
  joined_old (Some q) s fits fit r is = (join q s, refl, subst (λ (x : S). m.IsBelow x (join q s)) (same_Some q r is) (joins.first q s (fits q refl) fit))

  joined_new : (o : Option S) (s : S) → FitsIn o → m.IsFit s → Over (joined_at join o s) s
  joined_new None s fits fit = (s, refl, law.reflexive s fit)
  joined_new (Some q) s fits fit = (join q s, refl, joins.second q s (fits q refl) fit)

  joined_least : (o : Option S) (s c : S) → FitsIn o → m.IsFit s → m.IsFit c → ((r : S) → o ≡ Some r → m.IsBelow r c) → m.IsBelow s c
      → (r : S) → joined_at join o s ≡ Some r → m.IsBelow r c
  joined_least None s c fits fit fit_c old new r is = subst (λ (x : S). m.IsBelow x c) (same_Some s r is) new
  joined_least (Some q) s c fits fit fit_c old new r is =
      subst (λ (x : S). m.IsBelow x c) (same_Some (join q s) r is) (joins.least q s c (fits q refl) fit fit_c (old q refl) new)

  -- ---- typings above one another

  -- what is below a state of t is below one of u
  below_through : (t u : Typing S) → Fitting t → Fitting u → IsBelowTyping m t u → (p : ℕ) (s : S) → p < m.place_count → m.IsFit s → HasAbove m t p s → HasAbove m u p s
  below_through t u fits upper below p s inside fit has =
      let top = below p has.0 inside has.1 in
      (top.0, top.1, law.transitive s has.0 top.0 fit (fits p has.0 inside has.1) (upper p top.0 inside top.1) has.2 top.2)

  below_by : (t u v : Typing S) → Fitting t → Fitting u → Fitting v → IsBelowTyping m t u → IsBelowTyping m u v → IsBelowTyping m t v
  below_by t u v fits_t fits_u fits_v first second p s inside is = below_through u v fits_u fits_v second p s inside (fits_t p s inside is) (first p s inside is)

  below_itself : (t : Typing S) → Fitting t → IsBelowTyping m t t
  below_itself t fits p s inside is = (s, is, law.reflexive s (fits p s inside is))

  -- ---- an edge is taken in

  module _ (e : Edge S) (t : Typing S) (edge : FitEdge e) (fits : Fitting t) where
    taken_fits : Fitting (take_in join e t)
    taken_fits p s inside is = go (p == e.target) is
      where
        go : (b : Bool) → (if b then joined_at join (t p) e.state else t p) ≡ Some s → m.IsFit s
        go true now = joined_fits (t p) e.state (λ r was. fits p r inside was) edge.1 s now
        go false now = fits p s inside now

    taken_grows : IsBelowTyping m t (take_in join e t)
    taken_grows p s inside is = go (p == e.target)
      where
        go : (b : Bool) → Over (if b then joined_at join (t p) e.state else t p) s
        go true = joined_old (t p) e.state (λ r was. fits p r inside was) edge.1 s is
        go false = below_itself t fits p s inside is

    taken_meets : HasAbove m (take_in join e t) e.target e.state
    taken_meets = go (e.target == e.target) (eq-eqb e.target e.target refl)
      where
        go : (b : Bool) → b ≡ true → Over (if b then joined_at join (t e.target) e.state else t e.target) e.state
        go true here = joined_new (t e.target) e.state (λ r was. fits e.target r edge.0 was) edge.1
        go false here = absurd (false≢true here)

    taken_least : (u : Typing S) → Fitting u → IsBelowTyping m t u → HasAbove m u e.target e.state → IsBelowTyping m (take_in join e t) u
    taken_least u upper below met p s inside is = go (p == e.target) refl is
      where
        under : (top : S) → u p ≡ Some top → (r : S) → t p ≡ Some r → m.IsBelow r top
        under top there r was = let has = below p r inside was in subst (m.IsBelow r) (same_Some has.0 top (sym has.1 ∙ there)) has.2

        go : (b : Bool) → (p == e.target) ≡ b → (if b then joined_at join (t p) e.state else t p) ≡ Some s → HasAbove m u p s
        go true here now =
            let top = subst (λ (q : ℕ). HasAbove m u q e.state) (sym (eqb-true p e.target here)) met in
            (top.0, top.1, joined_least (t p) e.state top.0 (λ r was. fits p r inside was) edge.1 (upper p top.0 inside top.1) (under top.0 top.1) top.2 s now)
        go false here now = below p s inside now

  -- ---- edges are taken in

  head_of : (e : Edge S) (es : List (Edge S)) → Contains (e ∷ es) e
  head_of e es = Contains-append_left (e ∷ []) es e (Contains-push [] e)

  tail_of : (e : Edge S) (es : List (Edge S)) → FitEdges (e ∷ es) → FitEdges es
  tail_of e es edges d held = edges d (Contains-append_right (e ∷ []) es d held)

  all_fit : (es : List (Edge S)) (t : Typing S) → FitEdges es → Fitting t → Fitting (take_all join es t)
  all_fit [] t edges fits = fits
  all_fit (e ∷ es) t edges fits = all_fit es (take_in join e t) (tail_of e es edges) (taken_fits e t (edges e (head_of e es)) fits)

  all_grow : (es : List (Edge S)) (t : Typing S) → FitEdges es → Fitting t → IsBelowTyping m t (take_all join es t)
  all_grow [] t edges fits = below_itself t fits
  all_grow (e ∷ es) t edges fits =
      let edge = edges e (head_of e es) in
      let rest = tail_of e es edges in
      let now = taken_fits e t edge fits in
      below_by t (take_in join e t) (take_all join es (take_in join e t)) fits now (all_fit es (take_in join e t) rest now) (taken_grows e t edge fits) (all_grow es (take_in join e t) rest now)

  all_meet : (es : List (Edge S)) (t : Typing S) → FitEdges es → Fitting t → (d : Edge S) → Contains es d → HasAbove m (take_all join es t) d.target d.state
  all_meet [] t edges fits d held = nothing_in d held
  all_meet (e ∷ es) t edges fits d held =
      let edge = edges e (head_of e es) in
      let rest = tail_of e es edges in
      let now = taken_fits e t edge fits in
      elim (Contains-append_cases (e ∷ []) es d held) [
        | inl here ↦
            let met = taken_meets e t edge fits in
            let all = below_through (take_in join e t) (take_all join es (take_in join e t)) now (all_fit es (take_in join e t) rest now) (all_grow es (take_in join e t) rest now)
            e.target e.state edge.0 edge.1 met in
            subst (λ (x : Edge S). HasAbove m (take_all join es (take_in join e t)) x.target x.state) (only_in e d here) all
        | inr later ↦ all_meet es (take_in join e t) rest now d later
      ]

  all_least : (es : List (Edge S)) (t u : Typing S) → FitEdges es → Fitting t → Fitting u → IsBelowTyping m t u → ((e : Edge S) → Contains es e → HasAbove m u e.target e.state)
      → IsBelowTyping m (take_all join es t) u
  all_least [] t u edges fits upper below met = below
  all_least (e ∷ es) t u edges fits upper below met =
      let edge = edges e (head_of e es) in
      let now = taken_fits e t edge fits in
      all_least es (take_in join e t) u (tail_of e es edges) now upper
      (taken_least e t edge fits u upper below (met e (head_of e es)))
      (λ d held. met d (Contains-append_right (e ∷ []) es d held))

  -- ---- the edges that lead on

  -- which state leads on
  led_from : (n : ℕ) (o : Option S) (e : Edge S) → Contains (edges_of_state m n o) e → (s : S) × (o ≡ Some s) × Contains (m.edges_of n s) e
  led_from n None e held = nothing_in e held
  led_from n (Some s) e held = (s, refl, held)

  listed_from : (t : Typing S) (n : ℕ) (e : Edge S) → Contains (edges_before m t n) e → (p : ℕ) × (s : S) × (p < n) × (t p ≡ Some s) × Contains (m.edges_of p s) e
  listed_from t zero e held = nothing_in e held
  listed_from t (suc n) e held =
      elim (Contains-append_cases (edges_before m t n) (edges_of_state m n (t n)) e held) [
        | inl before ↦ let was = listed_from t n e before in let low = was.2 in (was.0, was.1, omega (arith, low), was.3, was.4)
        | inr last ↦ let was = led_from n (t n) e last in (n, was.0, omega arith, was.1, was.2)
      ]

  listed : (t : Typing S) (n p : ℕ) (s : S) (e : Edge S) → p < n → t p ≡ Some s → Contains (m.edges_of p s) e → Contains (edges_before m t n) e
  listed t zero p s e inside is held = absurd (omega (arith, inside))
  listed t (suc n) p s e inside is held =
      elim (cases_eq p n) [
        | inl here ↦
            let last : Contains (edges_of_state m p (t p)) e = subst (λ (o : Option S). Contains (edges_of_state m p o) e) (sym is) held in
            Contains-append_right (edges_before m t n) (edges_of_state m n (t n)) e (subst (λ (q : ℕ). Contains (edges_of_state m q (t q)) e) here last)
        | inr other ↦ Contains-append_left (edges_before m t n) (edges_of_state m n (t n)) e (listed t n p s e (omega (arith, inside, other)) is held)
      ]

  -- ---- a round

  edges_fit : (t : Typing S) → Fitting t → FitEdges (edges_before m t m.place_count)
  edges_fit t fits e held =
      let was = listed_from t m.place_count e held in
      let fit = fits was.0 was.1 was.2 was.3 in
      (law.targets was.0 was.1 e was.2 fit was.4, law.edges_fit was.0 was.1 e was.2 fit was.4)

  round_fits : (t : Typing S) → Fitting t → Fitting (one_round m join t)
  round_fits t fits = all_fit (edges_before m t m.place_count) t (edges_fit t fits) fits

  round_grows : (t : Typing S) → Fitting t → IsBelowTyping m t (one_round m join t)
  round_grows t fits = all_grow (edges_before m t m.place_count) t (edges_fit t fits) fits

  round_meets : (t : Typing S) → Fitting t → (p : ℕ) (s : S) (e : Edge S) → p < m.place_count → t p ≡ Some s → Contains (m.edges_of p s) e → HasAbove m (one_round m join t) e.target e.state
  round_meets t fits p s e inside is held = all_meet (edges_before m t m.place_count) t (edges_fit t fits) fits e (listed t m.place_count p s e inside is held)

  -- what leads on from a state of t is below what u has, where u is consistent and above t
  followed : (t u : Typing S) → Fitting t → IsConsistent m u → IsBelowTyping m t u → (p : ℕ) (s : S) (e : Edge S) → p < m.place_count → t p ≡ Some s → Contains (m.edges_of p s) e
      → HasAbove m u e.target e.state
  followed t u fits consistent below p s e inside is held = passed S m law u consistent p s e inside (fits p s inside is) (below p s inside is) held

  round_least : (t u : Typing S) → Fitting t → IsConsistent m u → IsBelowTyping m t u → IsBelowTyping m (one_round m join t) u
  round_least t u fits consistent below =
      all_least (edges_before m t m.place_count) t u (edges_fit t fits) fits consistent.fits below
      (λ e held. let was = listed_from t m.place_count e held in followed t u fits consistent below was.0 was.1 e was.2 was.3 was.4)

  -- ---- the rounds

  first_state_is : (p : ℕ) (s : S) → first_typing m p ≡ Some s → (p ≡ m.entry_place) × (m.first_state ≡ s)
  first_state_is p s is = go (p == m.entry_place) refl is
    where
      go : (b : Bool) → (p == m.entry_place) ≡ b → (if b then Some m.first_state else None) ≡ Some s → (p ≡ m.entry_place) × (m.first_state ≡ s)
      go true here now = (eqb-true p m.entry_place here, same_Some m.first_state s now)
      go false here now = absurd (none-some s now)

  first_enters : HasAbove m (first_typing m) m.entry_place m.first_state
  first_enters = go (m.entry_place == m.entry_place) (eq-eqb m.entry_place m.entry_place refl)
    where
      go : (b : Bool) → b ≡ true → Over (if b then Some m.first_state else None) m.first_state
      go true here = (m.first_state, refl, law.reflexive m.first_state law.first_fits)
      go false here = absurd (false≢true here)

  rounds_fit : (n : ℕ) → Fitting (rounds m join n)
  rounds_fit zero p s inside is = subst m.IsFit (first_state_is p s is).1 law.first_fits
  rounds_fit (suc n) p s inside is = round_fits (rounds m join n) (rounds_fit n) p s inside is

  rounds_least : (u : Typing S) → IsConsistent m u → (n : ℕ) → IsBelowTyping m (rounds m join n) u
  rounds_least u consistent zero p s inside is =
      let entry = first_state_is p s is in
      subst (λ (x : S). HasAbove m u p x) entry.1 (subst (λ (q : ℕ). HasAbove m u q m.first_state) (sym entry.0) consistent.enters)
  rounds_least u consistent (suc n) p s inside is = round_least (rounds m join n) u (rounds_fit n) consistent (rounds_least u consistent n) p s inside is

  rounds_grow : (n k : ℕ) → n ≤ k → IsBelowTyping m (rounds m join n) (rounds m join k)
  rounds_grow n zero low = let none : n ≡ 0 = omega (arith, low) in subst (λ (k : ℕ). IsBelowTyping m (rounds m join n) (rounds m join k)) none (below_itself (rounds m join n) (rounds_fit n))
  rounds_grow n (suc k) low =
      elim (cases_lt k n) [
        | inl over ↦ let same : n ≡ suc k = omega (arith, low, over) in subst (λ (j : ℕ). IsBelowTyping m (rounds m join n) (rounds m join j)) same (below_itself (rounds m join n) (rounds_fit n))
        | inr under ↦
            below_by (rounds m join n) (rounds m join k) (rounds m join (suc k)) (rounds_fit n) (rounds_fit k) (rounds_fit (suc k)) (rounds_grow n k under) (round_grows (rounds m join k) (rounds_fit k))
      ]

  rounds_enter : (n : ℕ) → HasAbove m (rounds m join n) m.entry_place m.first_state
  rounds_enter n =
      below_through (first_typing m) (rounds m join n) (rounds_fit zero) (rounds_fit n) (rounds_grow zero n (omega arith)) m.entry_place m.first_state law.entry_is_place law.first_fits first_enters

  -- ---- what the states of the first n places weigh

  abbrev total : Typing S → ℕ → ℕ
  total t zero = 0
  total t (suc n) = total t n + weight m (t n)

  total_bound : (t : Typing S) → Fitting t → (n : ℕ) → n ≤ m.place_count → total t n ≤ n * m.height
  total_bound t fits zero inside = omega arith
  total_bound t fits (suc n) inside =
      let before = total_bound t fits n (omega (arith, inside)) in
      let last = weight_le S m law (t n) (λ s is. fits n s (omega (arith, inside)) is) in
      omega (arith, before, last)

  -- a place with a state weighs
  total_some : (t : Typing S) (n p : ℕ) (s : S) → p < n → t p ≡ Some s → 0 < total t n
  total_some t zero p s inside is = absurd (omega (arith, inside))
  total_some t (suc n) p s inside is =
      elim (cases_eq p n) [
        | inl here ↦ let last : weight m (t n) ≡ m.rank s + 1 = ap (λ (q : ℕ). weight m (t q)) (sym here) ∙ ap (λ (o : Option S). weight m o) is in omega (arith, last)
        | inr other ↦ let before = total_some t n p s (omega (arith, inside, other)) is in omega (arith, before)
      ]

  -- t is below u
  module _ (t u : Typing S) (fits : Fitting t) (upper : Fitting u) (below : IsBelowTyping m t u) where
    weight_keeps : (p : ℕ) → p < m.place_count → weight m (t p) ≤ weight m (u p)
    weight_keeps p inside = go (t p) refl
      where
        go : (o : Option S) → t p ≡ o → weight m o ≤ weight m (u p)
        go None is = omega arith
        go (Some s) is =
            let top = below p s inside is in
            let keeps = law.rank_keeps s top.0 (fits p s inside is) (upper p top.0 inside top.1) top.2 in
            let over : weight m (u p) ≡ m.rank top.0 + 1 = ap (λ (o : Option S). weight m o) top.1 in
            omega (arith, keeps, over)

    total_keeps : (n : ℕ) → n ≤ m.place_count → total t n ≤ total u n
    total_keeps zero inside = omega arith
    total_keeps (suc n) inside = let before = total_keeps n (omega (arith, inside)) in let last = weight_keeps n (omega (arith, inside)) in omega (arith, before, last)

    -- where all together weighs no more, no place does
    total_even : (n : ℕ) → n ≤ m.place_count → total u n ≤ total t n → (p : ℕ) → p < n → weight m (u p) ≤ weight m (t p)
    total_even zero inside even p low = absurd (omega (arith, low))
    total_even (suc n) inside even p low =
        let before = total_keeps n (omega (arith, inside)) in
        let last = weight_keeps n (omega (arith, inside)) in
        elim (cases_eq p n) [
          | inl here ↦ let same : weight m (u n) ≤ weight m (t n) = omega (arith, even, before, last) in subst (λ (q : ℕ). weight m (u q) ≤ weight m (t q)) (sym here) same
          | inr other ↦ total_even n (omega (arith, inside)) (omega (arith, even, before, last)) p (omega (arith, low, other))
        ]

    back : (p : ℕ) (s : S) → p < m.place_count → weight m (u p) ≤ weight m (t p) → u p ≡ Some s → HasAbove m t p s
    back p s inside even is = go (t p) refl even
      where
        heavy : weight m (u p) ≡ m.rank s + 1
        heavy = ap (λ (o : Option S). weight m o) is

        go : (o : Option S) → t p ≡ o → weight m (u p) ≤ weight m o → HasAbove m t p s
        go None was low = absurd (omega (arith, heavy, low))
        go (Some r) was low =
            let top = below p r inside was in
            let under : m.IsBelow r s = subst (m.IsBelow r) (same_Some top.0 s (sym top.1 ∙ is)) top.2 in
            (r, was, joins.falls_back r s (fits p r inside was) (upper p s inside is) under (omega (arith, heavy, low)))

    settled : total u m.place_count ≤ total t m.place_count → IsBelowTyping m u t
    settled even p s inside is = back p s inside (total_even m.place_count (omega arith) even p inside) is

    -- t is consistent where u is, and u is below t
    as_consistent : IsConsistent m u → IsBelowTyping m u t → IsConsistent m t
    as_consistent consistent above = record {
      fits = fits;
      enters = below_through u t upper fits above m.entry_place m.first_state law.entry_is_place law.first_fits consistent.enters;
      follows = λ p s e inside is held.
          let fit = fits p s inside is in
          below_through u t upper fits above e.target e.state (law.targets p s e inside fit held) (law.edges_fit p s e inside fit held) (followed t u fits consistent below p s e inside is held);
    }

  -- ---- a round comes that raises nothing

  abbrev height_after : ℕ → ℕ
  height_after n = total (rounds m join n) m.place_count

  -- it is among the first k ones, or each of them raised something
  settles_or_rises : (k : ℕ) → ((n : ℕ) × (n < k) × (height_after (suc n) ≤ height_after n)) ⊎ (k < height_after k)
  settles_or_rises zero = let entry = first_enters in inr (total_some (first_typing m) m.place_count m.entry_place entry.0 law.entry_is_place entry.1)
  settles_or_rises (suc k) =
      elim (settles_or_rises k) [
        | inl before ↦ let low = before.1 in inl (before.0, omega (arith, low), before.2)
        | inr rose ↦ elim (cases_lt (height_after k) (height_after (suc k))) [ inl more ↦ inr (omega (arith, rose, more)) | inr rests ↦ inl (k, omega arith, rests) ]
      ]

  abbrev last : ℕ
  last = m.place_count * m.height

  settles : (n : ℕ) × (n < last) × (height_after (suc n) ≤ height_after n)
  settles =
      elim (settles_or_rises last) [
        | inl before ↦ before
        | inr rose ↦ let bound = total_bound (rounds m join last) (rounds_fit last) m.place_count (omega arith) in absurd (omega (arith, rose, bound))
      ]

  settled_consistent : (n : ℕ) → height_after (suc n) ≤ height_after n → IsConsistent m (rounds m join n)
  settled_consistent n even =
      let fits = rounds_fit n in
      let next = rounds_fit (suc n) in
      let down = settled (rounds m join n) (rounds m join (suc n)) fits next (round_grows (rounds m join n) fits) even in
      record {
        fits = fits;
        enters = rounds_enter n;
        follows = λ p s e inside is held.
            let fit = fits p s inside is in
            below_through (rounds m join (suc n)) (rounds m join n) next fits down e.target e.state (law.targets p s e inside fit held) (law.edges_fit p s e inside fit held)
            (round_meets (rounds m join n) fits p s e inside is held);
      }

  last_is_least : IsLeast m (rounds m join last)
  last_is_least =
      let n = settles.0 in
      let low = settles.1 in
      let consistent = settled_consistent n settles.2 in
      record {
        consistent = as_consistent (rounds m join last) (rounds m join n) (rounds_fit last) (rounds_fit n) (rounds_least (rounds m join n) consistent last) consistent (rounds_grow n last (omega (arith, low)));
        least = λ u other. rounds_least u other last;
      }

pub rounds_find_least : (S : Type 0) (m : Meaning S) (join : S → S → S) → IsLawful m → HasJoins m join → IsLeast m (least_typing m join)
unfolding least_typing
rounds_find_least S m join law joins = last_is_least S m join law joins
