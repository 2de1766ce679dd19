use Rattle.std.proofs.Common.{◌≡◌, ◌∙◌, ◌⊎◌, ◌<◌, [], length, sum_by, refl, ap, inl, inr, arith}
use Rattle.std.proofs.lemmas.List.{append-nil}
use Rattle.std.proofs.lemmas.List.Elements.{Contains-push}
use Rattle.label_fixpoint.specs.Progress.{Pending, weight}
use Rattle.label_fixpoint.proofs.Carried.{started, visited, ended}
use Rattle.label_fixpoint.proofs.Counted.{taken_size, untyped_sum, sum_bound, visit_bound, begins}
use Rattle.label_fixpoint.proofs.solving.solve.Goals as goal

pub spread-requires : goal.spread-requires
spread-requires g c =
    let S = g.row.F-State.Denot in
    let m = g.F.Flow.meaning c.args.flow.now in
    rw (c.in_ok-states.ensures, c.places.ensures, c.in_ok-agenda.ensures, c.places-2.ensures, c.in_ok-push.ensures.ok, c.new-edges.ensures)
    (started S m (g.met.F.Flow.lawful c.args.flow.now) m.place_count _ refl c.entry.ensures c.in_ok-first.ensures.fit c.in_ok-first.ensures.below c.in_ok-first.ensures.above)

pub loop-place-init : goal.loop-place-init
loop-place-init g c =
    let S = g.row.F-State.Denot in
    let m = g.F.Flow.meaning c.args.flow.now in
    let law = g.met.F.Flow.lawful c.args.flow.now in
    let after = c.in_ok-spread.ensures in
    let none : sum_by (weight m) c.in_ok-states.states.items ≡ 0 = rw c.in_ok-states.ensures (untyped_sum S m law c.places.result) in
    let empty : length c.in_ok-agenda.agenda.1 ≡ 0 = ap (λ (a : Pending). length a.1) c.in_ok-agenda.ensures in
    let begun : (sum_by (weight m) c.spread.new.states.items ≡ 0) ⊎ (0 < length c.spread.new.agenda.1) = elim after.begins [ inl same ↦ inl (same ∙ none) | inr waits ↦ inr waits ] in
    let count = after.count in
    record {
      progress = after.progress;
      empty = after.edges;
      grows = omega arith;
      count = omega (arith, count, empty);
      begun = inr (begins S m law c.spread.new.states.items c.spread.new.agenda after.progress begun);
    }

pub visit-requires-clause-place : goal.visit-requires-clause-place
visit-requires-clause-place g c =
    (c.loop-place.invariant.progress.pending c.in-Some.place (rw c.in-Some.ensures.taken (Contains-push c.pop.new.self.1 c.in-Some.place))).0

pub visit-requires-clause-state : goal.visit-requires-clause-state
visit-requires-clause-state g c =
    let so = c.loop-place.invariant.progress in
    let here = so.pending c.in-Some.place (rw c.in-Some.ensures.taken (Contains-push c.pop.new.self.1 c.in-Some.place)) in
    (here.1, rw c.deref.ensures.value here.2, so.fits c.in-Some.place here.1 here.0 here.2)

pub returns-in_err-visit-clause-at_most : goal.returns-in_err-visit-clause-at_most
returns-in_err-visit-clause-at_most g c =
    let so = c.loop-place.invariant in
    rw c.visit.ensures.count
    (visit_bound g.row.F-State.Denot (g.F.Flow.meaning c.args.flow.now) (g.met.F.Flow.lawful c.args.flow.now) c.loop-place.states.items c.loop-place.agenda c.pop.new.self c.in-Some.place c.args.steps.now c.loop-place.steps so.progress c.in-Some.ensures.taken so.count)

pub spread-requires-in-Some : goal.spread-requires-in-Some
spread-requires-in-Some g c =
    let so = c.loop-place.invariant.progress in
    let here = so.pending c.in-Some.place (rw c.in-Some.ensures.taken (Contains-push c.pop.new.self.1 c.in-Some.place)) in
    let put = c.in_ok-visit.ensures.ok here.1 (rw c.deref.ensures.value here.2) in
    visited g.row.F-State.Denot (g.F.Flow.meaning c.args.flow.now) (g.met.F.Flow.lawful c.args.flow.now) c.loop-place.states.items c.loop-place.agenda c.pop.new.self c.in-Some.place here.1 c.visit.new.edges so
    c.pop.ensures.size c.in-Some.ensures.taken here.2 (rw c.loop-place.invariant.empty at put)

pub loop-place-smaller : goal.loop-place-smaller
loop-place-smaller g c =
    let so = c.loop-place.invariant in
    let bound = visit_bound g.row.F-State.Denot (g.F.Flow.meaning c.args.flow.now) (g.met.F.Flow.lawful c.args.flow.now) c.loop-place.states.items c.loop-place.agenda c.pop.new.self c.in-Some.place c.args.steps.now c.loop-place.steps so.progress c.in-Some.ensures.taken so.count in
    let count = c.visit.ensures.count in
    omega (arith, bound, count)

pub loop-place-preserved : goal.loop-place-preserved
loop-place-preserved g c =
    let before = c.loop-place.invariant in
    let after = c.in_ok-spread-2.ensures in
    let size = taken_size c.loop-place.agenda.1 c.pop.new.self.1 c.in-Some.place c.in-Some.ensures.taken in
    let one = c.visit.ensures.count in
    let grows = before.grows in
    let count = before.count in
    let paid = after.count in
    record {
      progress = after.progress;
      empty = after.edges;
      grows = omega (arith, one, grows);
      count = omega (arith, one, size, count, paid);
      begun = inl (omega (arith, one, grows));
    }

pub returns-in_err-spread-2-clause-at_most : goal.returns-in_err-spread-2-clause-at_most
returns-in_err-spread-2-clause-at_most g c =
    let so = c.loop-place.invariant in
    rw c.visit.ensures.count
    (visit_bound g.row.F-State.Denot (g.F.Flow.meaning c.args.flow.now) (g.met.F.Flow.lawful c.args.flow.now) c.loop-place.states.items c.loop-place.agenda c.pop.new.self c.in-Some.place c.args.steps.now c.loop-place.steps so.progress c.in-Some.ensures.taken so.count)

pub returns-clause-least : goal.returns-clause-least
returns-clause-least g c =
    let empty : c.loop-place.agenda.1 ≡ [] = c.in_default.ensures.taken ∙ append-nil c.pop.new.self.1 ∙ c.in_default.ensures.none in
    rw c.from.ensures
    (ended g.row.F-State.Denot (g.F.Flow.meaning c.args.flow.now) (g.met.F.Flow.lawful c.args.flow.now) c.loop-place.states.items c.loop-place.agenda c.loop-place.invariant.progress empty)

pub returns-clause-at_most : goal.returns-clause-at_most
returns-clause-at_most g c =
    let so = c.loop-place.invariant in
    let bound = sum_bound g.row.F-State.Denot (g.F.Flow.meaning c.args.flow.now) (g.met.F.Flow.lawful c.args.flow.now) c.loop-place.states.items c.loop-place.agenda [] so.progress in
    let count = so.count in
    omega (arith, bound, count)
