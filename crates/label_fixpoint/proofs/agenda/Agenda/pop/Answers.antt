use Rattle.std.proofs.Common.{rules}
use Rattle.std.proofs.lemmas.List.Elements.{Contains-push}
use Rattle.label_fixpoint.proofs.Listed.{taken}
use Rattle.label_fixpoint.proofs.agenda.Agenda.pop.Goals as goal

pub index_mut-requires : goal.index_mut-requires
index_mut-requires c =
    let listed = rw c.in_ok-place.ensures.items at c.self.invariant in
    let inside = listed.1 c.in_ok-place.place (Contains-push c.pop.new.self.items c.in_ok-place.place) in
    search rules

pub invariant_of-self-2 : goal.invariant_of-self-2
invariant_of-self-2 c = taken c.self.inside.flags.items c.pop.new.self.items c.in_ok-place.place (rw c.in_ok-place.ensures.items at c.self.invariant)
