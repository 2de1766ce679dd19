use Rattle.beam_cli.proofs.saying.say_listing.Goals as goal

pub returns-in-NoMemory : goal.returns-in-NoMemory
returns-in-NoMemory g c = rw c.in-NoMemory.is c.say_about-in-NoMemory.ensures
