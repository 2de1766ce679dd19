use Rattle.listing_in.proofs.OneLine.{one_stop, stop_is_no_listing}
use Rattle.listing_in.proofs.laws.one_stop.Goals as goal

pub returns-clause-one : goal.returns-clause-one
returns-clause-one c = one_stop

pub returns-clause-none : goal.returns-clause-none
returns-clause-none c = stop_is_no_listing
