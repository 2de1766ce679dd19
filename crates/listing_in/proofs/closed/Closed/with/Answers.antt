use Rattle.std.proofs.Common.{subst, sym}
use Rattle.listing_in.specs.Seen.{HasIds}
use Rattle.listing_in.proofs.SeenIds.{ids_more}
use Rattle.listing_in.proofs.closed.Closed.with.Goals as goal

pub invariant_of-result : goal.invariant_of-result
invariant_of-result c =
    subst (HasIds c.insert.new.self.keys) (sym c.in_ok-push.ensures.ok)
    (ids_more c.self.inside.seen.keys c.insert.new.self.keys c.self.inside.file (c.args.id, c.args.value) c.self.invariant c.in_ok-insert.ensures.updates.0)
