use Rattle.std.proofs.Common.{◌∙◌, ap}
use Rattle.listing_in.specs.Step.{is_seen}
use Rattle.listing_in.proofs.closed.Closed.has.Goals as goal

pub returns : goal.returns
returns c = c.contains.ensures ∙ c.self.invariant c.args.id.0 ∙ ap (is_seen c.args.id) c.self.view_is
