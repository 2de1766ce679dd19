use Rattle.std.proofs.Common.{◌≡◌, ◌≤◌, length, take}
use Rattle.listing_out.specs.Listing.{trimmed}
use Rattle.listing_in.proofs.bare.trimmed.Given as goal

abbrev pub invariant-spaces : goal.invariant-spaces
invariant-spaces l = record {
  same : trimmed (take l.end l.line) ≡ trimmed l.line;
  within : l.end ≤ length l.line;
}

abbrev pub decreases-spaces : goal.decreases-spaces
decreases-spaces l = l.end
