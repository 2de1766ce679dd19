-- What is held between two lines, and what stops at a text that is not read.
use Rattle.bk_parse.specs.declared.refusal.TextRefusal.{TextRefusal}
use Rattle.bk_parse.specs.declared.refusal.TextRefusal.TheVariants as texts
use Rattle.listing_in.specs.declared.refusal.ListingWhy.{ListingWhy}
use Rattle.listing_in.specs.declared.sofar.Sofar.{Sofar}
use Rattle.listing_in.specs.declared.sofar.Sofar.TheVariants as sofars
use Rattle.listing_in.specs.declared.stop.LineStop.{LineStop}
use Rattle.listing_in.specs.declared.stop.LineStop.TheVariants as stops
use Rattle.listing_in.specs.Open.{filling, coding}
use Rattle.listing_in.specs.State.{State, Start, Begun}

-- what was read up to now
abbrev pub state_of : Sofar → State
state_of sofars.Start = Start
state_of sofars.Begun = Begun
state_of (sofars.Filling p) = filling p
state_of (sofars.Coding c) = coding c

-- a text that is not read is wrong for this reason
abbrev pub stop_for : ListingWhy → TextRefusal → LineStop
stop_for why texts.Wrong = stops.Wrong why
stop_for why texts.NoMemory = stops.NoMemory
