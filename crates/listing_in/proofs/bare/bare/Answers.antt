use Rattle.std.proofs.Common.{◌∙◌, sym, ap}
use Rattle.listing_out.specs.Listing.{trimmed}
use Rattle.listing_in.proofs.Trimming.{comment_at, comment_none}
use Rattle.listing_in.proofs.bare.bare.Goals as goal

pub returns-in-Some : goal.returns-in-Some
returns-in-Some c = c.trimmed.ensures ∙ ap trimmed (sym (comment_at c.args.line.now c.in-Some.end c.in-Some.ensures.0 c.in-Some.ensures.1))

pub returns-in-None : goal.returns-in-None
returns-in-None c = c.trimmed-in-None.ensures ∙ ap trimmed (sym (comment_none c.args.line.now c.in-None.ensures))
