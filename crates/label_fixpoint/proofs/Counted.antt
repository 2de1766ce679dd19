-- How many visits the search can make: each pending place is paid for by a state that rose.
use Rattle.std.proofs.Common.{◌≡◌, ◌∙◌, ◌⊎◌, ℕ, zero, suc, ◌+◌, ◌*◌, ◌<◌, ◌≤◌, Bool, true, false, List, [], ◌∷◌, ◌++◌, Option, Some, None, length, replicate, sum_by, refl, sym, ap, subst, inl, inr, length-append, arith}
use Rattle.std.proofs.lemmas.List.{get_or_default}
use Rattle.std.proofs.lemmas.List.Elements.{Contains-push}
use Rattle.std.proofs.lemmas.List.Sums.{sum_by-cons, sum_by-set, sum_by-le, get_or-le-sum_by}
use Rattle.label_fixpoint.specs.declared.edge.Edge.{Edge}
use Rattle.label_fixpoint.specs.Meaning.{Meaning, IsLawful}
use Rattle.label_fixpoint.specs.Singles.{nothing_in}
use Rattle.label_fixpoint.specs.Typing.{typing_of, HasAbove}
use Rattle.label_fixpoint.specs.Progress.{Pending, Takes, Progress, weight}
use Rattle.label_fixpoint.specs.RoundLaws.{weight_le}

pub taken_size : (before after : List ℕ) (p : ℕ) → before ≡ after ++ p ∷ [] → length before ≡ length after + 1
taken_size before after p taken = ap length taken ∙ length-append after (p ∷ [])

module _ (S : Type 0) (m : Meaning S) (law : IsLawful m) where
  pub untyped_sum : (n : ℕ) → sum_by (weight m) (replicate n None) ≡ 0
  untyped_sum zero = refl
  untyped_sum (suc n) = let first = sum_by-cons (weight m) None (replicate n None) in let rest = untyped_sum n in omega (arith, first, rest)

  pub sum_bound : (states : List (Option S)) (agenda : Pending) (edges : List (Edge S)) → Progress m states agenda edges → sum_by (weight m) states ≤ m.place_count * m.height
  sum_bound states agenda edges so =
      subst (λ (n : ℕ). sum_by (weight m) states ≤ n * m.height) so.size
      (sum_by-le (weight m) m.height states (λ p d inside.
      rw (get_or_default states p d None inside)
      (weight_le S m law (typing_of states p) (λ s is. so.fits p s (subst (λ (n : ℕ). p < n) so.size inside) is))))

  -- what a visit of a pending place counts
  pub visit_bound : (states : List (Option S)) (before after : Pending) (p start steps : ℕ) → Progress m states before [] → before.1 ≡ after.1 ++ p ∷ [] → steps + length before.1 ≤ start + sum_by (weight m) states
      → steps + 1 ≤ start + m.place_count * m.height
  visit_bound states before after p start steps so taken count =
      let size = taken_size before.1 after.1 p taken in
      let bound = sum_bound states before [] so in
      omega (arith, size, bound, count)

  -- something is pending at the start, since the entry has a state
  pub begins : (states : List (Option S)) (agenda : Pending) → Progress m states agenda [] → (sum_by (weight m) states ≡ 0) ⊎ (0 < length agenda.1) → 0 < length agenda.1
  begins states agenda so was =
      elim was [
        | inr waits ↦ waits
        | inl none ↦
            let has : HasAbove m (typing_of states) m.entry_place m.first_state = elim so.enters [ inl has ↦ has | inr leads ↦ nothing_in leads.0 leads.1 ] in
            let inside : m.entry_place < length states = subst (λ (n : ℕ). m.entry_place < n) (sym so.size) law.entry_is_place in
            let low = get_or-le-sum_by (weight m) states m.entry_place None inside in
            let some : weight m (typing_of states m.entry_place) ≡ m.rank has.0 + 1 = ap (λ (o : Option S). weight m o) has.1 in
            absurd (omega (arith, low, some, none))
      ]

  -- edge e is taken in
  module _ (states : List (Option S)) (agenda : Pending) (rest : List (Edge S)) (e : Edge S) (states' : List (Option S)) (agenda' : Pending) (so : Progress m states agenda (rest ++ e ∷ []))
      (takes : Takes m states agenda e states' agenda') where
    target : e.target < m.place_count
    target = so.edge_targets e (Contains-push rest e)

    within : e.target < length states
    within = subst (λ (n : ℕ). e.target < n) (sym so.size) target

    abbrev old : Option S
    old = typing_of states e.target

    weighed : sum_by (weight m) states' + weight m old ≡ sum_by (weight m) states + weight m takes.slot
    weighed = ap (λ (xs : List (Option S)). sum_by (weight m) xs + weight m old) takes.written ∙ sum_by-set (weight m) states e.target takes.slot None within

    slot_is : weight m takes.slot ≡ m.rank takes.raised.top + 1
    slot_is = ap (λ (o : Option S). weight m o) takes.raised.is

    heavier : takes.changed ≡ true → weight m old + 1 ≤ weight m takes.slot
    heavier is = subst (λ (n : ℕ). weight m old + 1 ≤ n) (sym slot_is) (from old refl)
      where
        from : (o : Option S) → old ≡ o → weight m o + 1 ≤ m.rank takes.raised.top + 1
        from None was = omega arith
        from (Some r) was = let rises = law.rank_rises r takes.raised.top (so.fits e.target r target was) takes.raised.fits (takes.raised.above_old r was) (takes.raised.changes is r was) in omega (arith, rises)

    as_heavy : takes.changed ≡ false → weight m takes.slot ≡ weight m old
    as_heavy is =
        let was = takes.raised.unchanged is in
        let fit = so.fits e.target was.0 target was.1 in
        let up = law.rank_keeps was.0 takes.raised.top fit takes.raised.fits (takes.raised.above_old was.0 was.1) in
        let down = law.rank_keeps takes.raised.top was.0 takes.raised.fits fit was.2 in
        let old_is : weight m old ≡ m.rank was.0 + 1 = ap (λ (o : Option S). weight m o) was.1 in
        omega (arith, slot_is, old_is, up, down)

    same_sum : takes.changed ≡ false → sum_by (weight m) states' ≡ sum_by (weight m) states
    same_sum is = let even = as_heavy is in omega (arith, weighed, even)

    pub paid : length agenda'.1 + sum_by (weight m) states ≤ length agenda.1 + sum_by (weight m) states'
    paid = by takes.changed refl
      where
        by : (b : Bool) → takes.changed ≡ b → length agenda'.1 + sum_by (weight m) states ≤ length agenda.1 + sum_by (weight m) states'
        by true is = let one = (takes.added is).one in let rises = heavier is in omega (arith, one, rises, weighed)
        by false is = let kept : length agenda'.1 ≡ length agenda.1 = ap (λ (a : Pending). length a.1) (takes.same is) in let even = same_sum is in omega (arith, kept, even)

    -- nothing rose so far, or something is pending
    pub begun : (n : ℕ) → (sum_by (weight m) states ≡ n) ⊎ (0 < length agenda.1) → (sum_by (weight m) states' ≡ n) ⊎ (0 < length agenda'.1)
    begun n was = by takes.changed refl
      where
        by : (b : Bool) → takes.changed ≡ b → (sum_by (weight m) states' ≡ n) ⊎ (0 < length agenda'.1)
        by true is = let held = (takes.added is).added in let inside = held.1 in inr (omega (arith, inside))
        by false is = elim was [ inl even ↦ inl (same_sum is ∙ even) | inr waits ↦ inr (subst (λ (a : Pending). 0 < length a.1) (sym (takes.same is)) waits) ]
