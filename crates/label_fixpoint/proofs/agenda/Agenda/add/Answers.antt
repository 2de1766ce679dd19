use Rattle.std.proofs.Common.{length-set}
use Rattle.label_fixpoint.proofs.Listed.{added, adds}
use Rattle.label_fixpoint.proofs.agenda.Agenda.add.Goals as goal

pub invariant_of-self : goal.invariant_of-self
invariant_of-self c = rw c.in_err-push.ensures.items c.self.invariant

pub invariant_of-self-2 : goal.invariant_of-self-2
invariant_of-self-2 c = rw c.in_ok-push.ensures.items (added c.self.inside.flags.items c.self.inside.places.items c.args.place (rw (← c.self.view_is) at c.requires) c.self.invariant)

pub returns : goal.returns
returns c = record {
  ok =
      rw (← c.self.view_is)
      (adds _ _ c.args.place (length-set c.self.inside.flags.items c.args.place _) c.in_ok-push.ensures.items);
}
