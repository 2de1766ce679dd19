use Rattle.std.proofs.Common.{ℕ, ◌<◌, sym, subst, arith}
use Rattle.std.proofs.lemmas.List.Elements.{Contains-push}
use Rattle.label_fixpoint.proofs.Carried.{carried}
use Rattle.label_fixpoint.proofs.Counted.{paid, begun}
use Rattle.label_fixpoint.proofs.spreading.spread.Goals as goal

pub take_in-requires-clause-target : goal.take_in-requires-clause-target
take_in-requires-clause-target g c =
    let so = rw c.in-Some.ensures.taken at c.loop-edge.invariant.progress in
    subst (λ (n : ℕ). c.in-Some.edge.target < n) (sym so.size) (so.edge_targets c.in-Some.edge (Contains-push c.pop.new.self c.in-Some.edge))

pub take_in-requires-clause-place : goal.take_in-requires-clause-place
take_in-requires-clause-place g c =
    let so = rw c.in-Some.ensures.taken at c.loop-edge.invariant.progress in
    subst (λ (n : ℕ). c.in-Some.edge.target < n) (sym so.agenda_size) (so.edge_targets c.in-Some.edge (Contains-push c.pop.new.self c.in-Some.edge))

pub take_in-requires-clause-slot : goal.take_in-requires-clause-slot
take_in-requires-clause-slot g c =
    let so = rw c.in-Some.ensures.taken at c.loop-edge.invariant.progress in
    λ s is. so.fits c.in-Some.edge.target s (so.edge_targets c.in-Some.edge (Contains-push c.pop.new.self c.in-Some.edge)) is

pub take_in-requires-clause-state : goal.take_in-requires-clause-state
take_in-requires-clause-state g c =
    let so = rw c.in-Some.ensures.taken at c.loop-edge.invariant.progress in
    so.edges_fit c.in-Some.edge (Contains-push c.pop.new.self c.in-Some.edge)

pub loop-edge-preserved : goal.loop-edge-preserved
loop-edge-preserved g c =
    let S = g.row.F-State.Denot in
    let m = g.F.Flow.meaning c.args.flow.now in
    let law = g.met.F.Flow.lawful c.args.flow.now in
    let so = rw c.in-Some.ensures.taken at c.loop-edge.invariant.progress in
    let takes = c.in_ok-take_in.ensures.ok in
    let pays = paid S m law c.loop-edge.states.items c.loop-edge.agenda c.pop.new.self c.in-Some.edge c.take_in.new.states.items c.take_in.new.agenda so takes in
    let before = c.loop-edge.invariant.count in
    record {
      progress = carried S m law c.loop-edge.states.items c.loop-edge.agenda c.pop.new.self c.in-Some.edge c.take_in.new.states.items c.take_in.new.agenda so takes;
      count = omega (arith, pays, before);
      begun = begun S m law c.loop-edge.states.items c.loop-edge.agenda c.pop.new.self c.in-Some.edge c.take_in.new.states.items c.take_in.new.agenda so takes _ c.loop-edge.invariant.begun;
    }
