use Rattle.std.proofs.Common.{◌∙◌, append-nil}
use Rattle.beam_cli.proofs.saying.say_term.Goals as goal

pub returns-in-Depth : goal.returns-in-Depth
returns-in-Depth g c = rw (c.in-Depth.is, ← (c.as_bytes-at-in-Depth.ensures.value ∙ c.format-in-Depth.ensures.text)) (rw append-nil at c.say_about-in-Depth.ensures)

pub returns-in-AtomText : goal.returns-in-AtomText
returns-in-AtomText g c = rw (c.in-AtomText.is, ← (c.as_bytes-at-in-AtomText.ensures.value ∙ c.format-in-AtomText.ensures.text)) (rw append-nil at c.say_about-in-AtomText.ensures)

pub returns-in-BitTail : goal.returns-in-BitTail
returns-in-BitTail g c = rw (c.in-BitTail.is, ← (c.as_bytes-at-in-BitTail.ensures.value ∙ c.format-in-BitTail.ensures.text)) (rw append-nil at c.say_about-in-BitTail.ensures)

pub returns-in-NoMemory : goal.returns-in-NoMemory
returns-in-NoMemory g c = rw c.in-NoMemory.is c.say_about-in-NoMemory.ensures
