use Rattle.std.proofs.Common.{◌∙◌}
use Rattle.beam_cli.proofs.saying.say_stop.Goals as goal

pub returns-in-TooLarge : goal.returns-in-TooLarge
returns-in-TooLarge g c = rw (c.in-TooLarge.is, ← (c.as_bytes-most.ensures.value ∙ c.format.ensures.text)) c.say_about-in-TooLarge.ensures

pub returns-in-NoMemory : goal.returns-in-NoMemory
returns-in-NoMemory g c = rw c.in-NoMemory.is c.say.ensures
