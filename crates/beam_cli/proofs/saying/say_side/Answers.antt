use Rattle.std.proofs.Common.{◌∙◌, append-nil}
use Rattle.beam_cli.proofs.saying.say_side.Goals as goal

pub returns-in-FileIndex : goal.returns-in-FileIndex
returns-in-FileIndex g c = rw (c.in-FileIndex.is, ← (c.as_bytes-item-in-FileIndex.ensures.value ∙ c.format-in-FileIndex.ensures.text)) (rw append-nil at c.say_about-in-FileIndex.ensures)

pub returns-in-NoMemory : goal.returns-in-NoMemory
returns-in-NoMemory g c = rw c.in-NoMemory.is c.say_about-in-NoMemory.ensures
