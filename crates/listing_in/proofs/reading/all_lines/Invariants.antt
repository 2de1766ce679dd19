use Rattle.std.proofs.Common.{◌≡◌, ◌+◌, ◌≤◌, length}
use Rattle.listing_out.specs.Listing.{raw_lines}
use Rattle.listing_in.specs.Held.{state_of}
use Rattle.listing_in.specs.Reading.{after_lines, next_raw, numbered}
use Rattle.listing_in.specs.State.{Start}
use Rattle.listing_in.proofs.reading.all_lines.Given as goal

abbrev pub invariant-lines : goal.invariant-lines
invariant-lines l = record {
  read : after_lines next_raw numbered l.number (state_of l.sofar) l.lines ≡ after_lines next_raw numbered 1 Start (raw_lines l.s);
  fits : l.number + length l.lines ≤ length l.s + 2;
}

abbrev pub decreases-lines : goal.decreases-lines
decreases-lines l = length l.lines
