-- How the search for the least typing goes on: from its start over each edge and each visit to its end.
use Rattle.std.proofs.Common.{◌≡◌, ◌≢◌, ◌∙◌, ◌⊎◌, ℕ, zero, suc, ◌<◌, Bool, true, false, List, [], ◌∷◌, ◌++◌, Contains, Option, Some, None, length, get_or, replicate, refl, sym, ap, subst, inl, inr, length-set, get_or-set_same, get_or-set_other}
use Rattle.std.proofs.lemmas.List.{length-replicate}
use Rattle.std.specs.List.{AllZip}
use Rattle.std.proofs.lemmas.Bool.{cases_eq}
use Rattle.std.proofs.lemmas.Option.{none-some, same_Some}
use Rattle.std.proofs.lemmas.List.Elements.{Contains-get_or, Contains-push, Contains-push_cases, Contains-append_left, AllZip-get_or, length_all_zip}
use Rattle.label_fixpoint.specs.declared.edge.Edge.{Edge}
use Rattle.label_fixpoint.specs.Meaning.{Meaning, LeadsAbove, IsLawful}
use Rattle.label_fixpoint.specs.Singles.{nothing_in, only_in}
use Rattle.label_fixpoint.specs.Edges.{IsSameEdge, Appends}
use Rattle.label_fixpoint.specs.Typing.{Typing, typing_of, HasAbove, IsLeast}
use Rattle.label_fixpoint.specs.Progress.{Pending, Takes, Progress}

-- where nothing has a state
pub untyped_at : {S : Type 0} (n p : ℕ) → typing_of (replicate {A = Option S} n None) p ≡ None
untyped_at zero p = refl
untyped_at (suc n) zero = refl
untyped_at (suc n) (suc p) = untyped_at n p

module _ (S : Type 0) (m : Meaning S) (law : IsLawful m) where
  -- an edge that was put has the meaning of a wanted one, and each wanted one was put
  pub wanted_of : (added wanted : List (Edge S)) (e : Edge S) → AllZip (IsSameEdge m) added wanted → Contains added e → (d : Edge S) × Contains wanted d × IsSameEdge m e d
  wanted_of added wanted e same held =
      let inside : held.0 < length wanted = subst (λ (n : ℕ). held.0 < n) (length_all_zip (IsSameEdge m) added wanted same) held.1 in
      let d = get_or wanted held.0 e in
      (d, Contains-get_or wanted held.0 e inside, subst (λ (x : Edge S). IsSameEdge m x d) held.2 (AllZip-get_or (IsSameEdge m) added wanted held.0 e e same held.1))

  pub put_for : (added wanted : List (Edge S)) (d : Edge S) → AllZip (IsSameEdge m) added wanted → Contains wanted d → (e : Edge S) × Contains added e × IsSameEdge m e d
  put_for added wanted d same held =
      let inside : held.0 < length added = subst (λ (n : ℕ). held.0 < n) (sym (length_all_zip (IsSameEdge m) added wanted same)) held.1 in
      let e = get_or added held.0 d in
      (e, Contains-get_or added held.0 d inside, subst (λ (x : Edge S). IsSameEdge m e x) held.2 (AllZip-get_or (IsSameEdge m) added wanted held.0 d d same inside))

  -- what is below a state is below those above it
  lowered : (t : Typing S) (p : ℕ) (r s : S) → m.IsFit r → m.IsFit s → ((above : S) → t p ≡ Some above → m.IsFit above) → m.IsBelow r s → HasAbove m t p s → HasAbove m t p r
  lowered t p r s fit_r fit_s fits below has = (has.0, has.1, law.transitive r s has.0 fit_r fit_s (fits has.0 has.1) below has.2)

  leads_lower : (edges : List (Edge S)) (p : ℕ) (r s : S) → m.IsFit r → m.IsFit s → ((e : Edge S) → Contains edges e → m.IsFit e.state) → m.IsBelow r s → LeadsAbove m edges p s → LeadsAbove m edges p r
  leads_lower edges p r s fit_r fit_s fits below has = (has.0, has.1, has.2, law.transitive r s has.0.state fit_r fit_s (fits has.0 has.1) below has.3)

  pub started : (n : ℕ) (e : Edge S) → n ≡ m.place_count → e.target ≡ m.entry_place → m.IsFit e.state → m.IsBelow e.state m.first_state → m.IsBelow m.first_state e.state
      → Progress m (replicate n None) (n, []) (e ∷ [])
  started n e size target fit below above = record {
    size = length-replicate n None ∙ size;
    agenda_size = size;
    fits = λ p s inside is. absurd (none-some s (sym (untyped_at n p) ∙ is));
    edge_targets = λ d held. subst (λ (x : Edge S). x.target < m.place_count) (only_in e d held) (subst (λ (p : ℕ). p < m.place_count) (sym target) law.entry_is_place);
    edges_fit = λ d held. subst (λ (x : Edge S). m.IsFit x.state) (only_in e d held) fit;
    least = λ u consistent p s inside is. absurd (none-some s (sym (untyped_at n p) ∙ is));
    edges_least = λ u consistent d held.
        let at_entry : HasAbove m u m.entry_place e.state =
        lowered u m.entry_place e.state m.first_state fit law.first_fits (λ above is. consistent.fits m.entry_place above law.entry_is_place is) below consistent.enters in
        subst (λ (x : Edge S). HasAbove m u x.target x.state) (only_in e d held) (subst (λ (p : ℕ). HasAbove m u p e.state) (sym target) at_entry);
    enters = inr (e, Contains-push [] e, target, above);
    follows = λ p s d inside is held. absurd (none-some s (sym (untyped_at n p) ∙ is));
    pending = λ p held. nothing_in p held;
  }

  pub ended : (states : List (Option S)) (agenda : Pending) → Progress m states agenda [] → agenda.1 ≡ [] → IsLeast m (typing_of states)
  ended states agenda so empty =
      let enters : HasAbove m (typing_of states) m.entry_place m.first_state = elim so.enters [ inl has ↦ has | inr leads ↦ nothing_in leads.0 leads.1 ] in
      record {
        consistent = record {
          fits = so.fits;
          enters = enters;
          follows = λ p s e inside is held.
              elim (so.follows p s e inside is held) [
                | inl waits ↦ nothing_in p (subst (λ (ps : List ℕ). Contains ps p) empty waits)
                | inr met ↦ elim met [ inl has ↦ has | inr leads ↦ nothing_in leads.0 leads.1 ]
              ];
        };
        least = so.least;
      }

  -- place p is visited
  module _ (states : List (Option S)) (before after : Pending) (p : ℕ) (s : S) (edges : List (Edge S)) (so : Progress m states before []) (size : after.0 ≡ before.0)
      (taken : before.1 ≡ after.1 ++ p ∷ []) (is : typing_of states p ≡ Some s) (put : Appends m [] (m.edges_of p s) edges) where
    inside : p < m.place_count
    inside = (so.pending p (rw taken (Contains-push after.1 p))).0

    fit : m.IsFit s
    fit = so.fits p s inside is

    wanted : (e : Edge S) → Contains edges e → (d : Edge S) × Contains (m.edges_of p s) d × IsSameEdge m e d
    wanted e held = wanted_of put.0 (m.edges_of p s) e put.2 (subst (λ (es : List (Edge S)). Contains es e) put.1 held)

    pub visited : Progress m states after edges
    visited = record {
      size = so.size;
      agenda_size = size ∙ so.agenda_size;
      fits = so.fits;
      edge_targets = λ e held. let w = wanted e held in subst (λ (q : ℕ). q < m.place_count) (sym w.2.target) (law.targets p s w.0 inside fit w.1);
      edges_fit = λ e held. (wanted e held).2.fits;
      least = so.least;
      edges_least = λ u consistent e held.
          let w = wanted e held in let d = w.0 in let same = w.2 in
          let top = so.least u consistent p s inside is in
          let fit_top = consistent.fits p top.0 inside top.1 in
          let grown = law.monotone p s top.0 d inside fit fit_top top.2 w.1 in
          let target = law.targets p top.0 grown.0 inside fit_top grown.1 in
          let fit_d = law.edges_fit p s d inside fit w.1 in
          let fit_grown = law.edges_fit p top.0 grown.0 inside fit_top grown.1 in
          let below = law.transitive e.state d.state grown.0.state same.fits fit_d fit_grown same.below grown.3 in
          let met = lowered u grown.0.target e.state grown.0.state same.fits fit_grown (λ above has. consistent.fits grown.0.target above target has) below (consistent.follows p top.0 grown.0 inside top.1 grown.1) in
          subst (λ (q : ℕ). HasAbove m u q e.state) (grown.2 ∙ sym same.target) met;
      enters = elim so.enters [ inl has ↦ inl has | inr leads ↦ nothing_in leads.0 leads.1 ];
      follows = λ q r d inside_q is_q held.
          elim (cases_eq q p) [
            | inl e ↦
                let here : Some s ≡ Some r = sym is ∙ subst (λ (x : ℕ). typing_of states x ≡ Some r) e is_q in
                let held_here : Contains (m.edges_of p s) d = subst (λ (x : S). Contains (m.edges_of p x) d) (sym (same_Some s r here)) (subst (λ (x : ℕ). Contains (m.edges_of x r) d) e held) in
                let f = put_for put.0 (m.edges_of p s) d put.2 held_here in
                inr (inr (f.0, subst (λ (es : List (Edge S)). Contains es f.0) (sym put.1) f.1, f.2.target, f.2.above))
            | inr ne ↦
                elim (so.follows q r d inside_q is_q held) [
                  | inl waits ↦
                      elim (Contains-push_cases after.1 p q (subst (λ (ps : List ℕ). Contains ps q) taken waits)) [ inl still ↦ inl still | inr e ↦ absurd (ne (sym e)) ]
                  | inr met ↦ elim met [ inl has ↦ inr (inl has) | inr leads ↦ nothing_in leads.0 leads.1 ]
                ]
          ];
      pending = λ q held. so.pending q (rw taken (Contains-append_left after.1 (p ∷ []) q held));
    }

  -- edge e is taken in
  module _ (states : List (Option S)) (agenda : Pending) (rest : List (Edge S)) (e : Edge S) (states' : List (Option S)) (agenda' : Pending) (so : Progress m states agenda (rest ++ e ∷ []))
      (takes : Takes m states agenda e states' agenda') where
    target : e.target < m.place_count
    target = so.edge_targets e (Contains-push rest e)

    within : e.target < length states
    within = subst (λ (n : ℕ). e.target < n) (sym so.size) target

    fit_new : m.IsFit e.state
    fit_new = so.edges_fit e (Contains-push rest e)

    abbrev top : S
    top = takes.raised.top

    fit_top : m.IsFit top
    fit_top = takes.raised.fits

    risen : typing_of states' e.target ≡ Some top
    risen = ap (λ (xs : List (Option S)). typing_of xs e.target) takes.written ∙ get_or-set_same states e.target takes.slot None within ∙ takes.raised.is

    other : (p : ℕ) → p ≢ e.target → typing_of states' p ≡ typing_of states p
    other p ne = ap (λ (xs : List (Option S)). typing_of xs p) takes.written ∙ get_or-set_other states e.target p takes.slot None ne

    -- the state of a place is the old one, or that of the target
    known : (p : ℕ) (s : S) → typing_of states' p ≡ Some s → ((p ≡ e.target) × (top ≡ s)) ⊎ (typing_of states p ≡ Some s)
    known p s is =
        elim (cases_eq p e.target) [
          | inl here ↦ inl (here, same_Some top s (sym risen ∙ subst (λ (q : ℕ). typing_of states' q ≡ Some s) here is))
          | inr ne ↦ inr (sym (other p ne) ∙ is)
        ]

    fits : (p : ℕ) (s : S) → p < m.place_count → typing_of states' p ≡ Some s → m.IsFit s
    fits p s inside is = elim (known p s is) [ inl here ↦ subst (λ (x : S). m.IsFit x) here.1 fit_top | inr old ↦ so.fits p s inside old ]

    -- each state is still there or has risen
    grown : (p : ℕ) (s : S) → p < m.place_count → typing_of states p ≡ Some s → HasAbove m (typing_of states') p s
    grown p s inside is =
        elim (cases_eq p e.target) [
          | inl here ↦
              (top, ap (λ (q : ℕ). typing_of states' q) here ∙ risen, takes.raised.above_old s (subst (λ (q : ℕ). typing_of states q ≡ Some s) here is))
          | inr ne ↦ (s, other p ne ∙ is, law.reflexive s (so.fits p s inside is))
        ]

    has_still : (p : ℕ) (s : S) → p < m.place_count → m.IsFit s → HasAbove m (typing_of states) p s → HasAbove m (typing_of states') p s
    has_still p s inside fit has =
        lowered (typing_of states') p s has.0 fit (so.fits p has.0 inside has.1) (λ above is. fits p above inside is) has.2 (grown p has.0 inside has.1)

    met : (p : ℕ) (s : S) → p < m.place_count → m.IsFit s → HasAbove m (typing_of states) p s ⊎ LeadsAbove m (rest ++ e ∷ []) p s → HasAbove m (typing_of states') p s ⊎ LeadsAbove m rest p s
    met p s inside fit was =
        elim was [
          | inl has ↦ inl (has_still p s inside fit has)
          | inr leads ↦
              elim (Contains-push_cases rest e leads.0 leads.1) [
                | inl left ↦ inr (leads.0, left, leads.2, leads.3)
                | inr here ↦
                    let at_target : e.target ≡ p = ap (λ (x : Edge S). x.target) here ∙ leads.2 in
                    let below : m.IsBelow s e.state = subst (λ (x : Edge S). m.IsBelow s x.state) (sym here) leads.3 in
                    inl (top, sym (ap (λ (q : ℕ). typing_of states' q) at_target) ∙ risen, law.transitive s e.state top fit fit_new fit_top below takes.raised.above_new)
              ]
        ]

    waits_still : (p : ℕ) → Contains agenda.1 p → Contains agenda'.1 p
    waits_still p held = still takes.changed refl
      where
        still : (b : Bool) → takes.changed ≡ b → Contains agenda'.1 p
        still true is = (takes.added is).kept p held
        still false is = subst (λ (a : Pending). Contains a.1 p) (sym (takes.same is)) held

    -- an edge from the state that the target has now
    follows_here : (d : Edge S) → Contains (m.edges_of e.target top) d → Contains agenda'.1 e.target ⊎ (HasAbove m (typing_of states') d.target d.state ⊎ LeadsAbove m rest d.target d.state)
    follows_here d held = here takes.changed refl
      where
        here : (b : Bool) → takes.changed ≡ b → Contains agenda'.1 e.target ⊎ (HasAbove m (typing_of states') d.target d.state ⊎ LeadsAbove m rest d.target d.state)
        here true is = inl (takes.added is).added
        here false is =
            let old = takes.raised.unchanged is in
            let fit_old = so.fits e.target old.0 target old.1 in
            let f = law.monotone e.target top old.0 d target fit_top fit_old old.2 held in
            let inside = law.targets e.target old.0 f.0 target fit_old f.1 in
            let fit_d = law.edges_fit e.target top d target fit_top held in
            let fit_f = law.edges_fit e.target old.0 f.0 target fit_old f.1 in
            elim (so.follows e.target old.0 f.0 target old.1 f.1) [
              | inl waits ↦ inl (waits_still e.target waits)
              | inr was ↦
                  elim (met f.0.target f.0.state inside fit_f was) [
                    | inl has ↦
                        inr (inl (subst (λ (q : ℕ). HasAbove m (typing_of states') q d.state) f.2
                        (lowered (typing_of states') f.0.target d.state f.0.state fit_d fit_f (λ above has'. fits f.0.target above inside has') f.3 has)))
                    | inr leads ↦
                        inr (inr (subst (λ (q : ℕ). LeadsAbove m rest q d.state) f.2
                        (leads_lower rest f.0.target d.state f.0.state fit_d fit_f (λ x held'. so.edges_fit x (Contains-append_left rest (e ∷ []) x held')) f.3 leads)))
                  ]
            ]

    pending : (p : ℕ) → Contains agenda'.1 p → (p < m.place_count) × (s : S) × (typing_of states' p ≡ Some s)
    pending p held = from takes.changed refl
      where
        old : Contains agenda.1 p → (p < m.place_count) × (s : S) × (typing_of states' p ≡ Some s)
        old waits = let was = so.pending p waits in let now = grown p was.1 was.0 was.2 in (was.0, now.0, now.1)

        from : (b : Bool) → takes.changed ≡ b → (p < m.place_count) × (s : S) × (typing_of states' p ≡ Some s)
        from true is = elim ((takes.added is).only p held) [ inl waits ↦ old waits | inr here ↦ (subst (λ (q : ℕ). q < m.place_count) here target, top, sym (ap (λ (q : ℕ). typing_of states' q) here) ∙ risen) ]
        from false is = old (subst (λ (a : Pending). Contains a.1 p) (takes.same is) held)

    agenda_kept : agenda'.0 ≡ agenda.0
    agenda_kept = kept takes.changed refl
      where
        kept : (b : Bool) → takes.changed ≡ b → agenda'.0 ≡ agenda.0
        kept true is = (takes.added is).size
        kept false is = ap (λ (a : Pending). a.0) (takes.same is)

    pub carried : Progress m states' agenda' rest
    carried = record {
      size = ap length takes.written ∙ length-set states e.target takes.slot ∙ so.size;
      agenda_size = agenda_kept ∙ so.agenda_size;
      fits = fits;
      edge_targets = λ d held. so.edge_targets d (Contains-append_left rest (e ∷ []) d held);
      edges_fit = λ d held. so.edges_fit d (Contains-append_left rest (e ∷ []) d held);
      least = λ u consistent p s inside is.
          elim (known p s is) [
            | inl here ↦
                let has = so.edges_least u consistent e (Contains-push rest e) in
                let old_below : (r : S) → typing_of states e.target ≡ Some r → m.IsBelow r has.0 = λ r was.
                let over = so.least u consistent e.target r target was in
                subst (λ (x : S). m.IsBelow r x) (same_Some over.0 has.0 (sym over.1 ∙ has.1)) over.2 in
                let below = takes.raised.least has.0 (consistent.fits e.target has.0 target has.1) old_below has.2 in
                (has.0, ap u here.0 ∙ has.1, subst (λ (x : S). m.IsBelow x has.0) here.1 below)
            | inr old ↦ so.least u consistent p s inside old
          ];
      edges_least = λ u consistent d held. so.edges_least u consistent d (Contains-append_left rest (e ∷ []) d held);
      enters = met m.entry_place m.first_state law.entry_is_place law.first_fits so.enters;
      follows = λ p s d inside is held.
          elim (known p s is) [
            | inl here ↦
                subst (λ (q : ℕ). Contains agenda'.1 q ⊎ (HasAbove m (typing_of states') d.target d.state ⊎ LeadsAbove m rest d.target d.state)) (sym here.0)
                (follows_here d (subst (λ (x : S). Contains (m.edges_of e.target x) d) (sym here.1) (subst (λ (q : ℕ). Contains (m.edges_of q s) d) here.0 held)))
            | inr old ↦
                let fit = so.fits p s inside old in
                elim (so.follows p s d inside old held) [
                  | inl waits ↦ inl (waits_still p waits)
                  | inr was ↦ inr (met d.target d.state (law.targets p s d inside fit held) (law.edges_fit p s d inside fit held) was)
                ]
          ];
      pending = pending;
    }
