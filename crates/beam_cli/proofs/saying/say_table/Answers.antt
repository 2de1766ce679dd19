use Rattle.std.proofs.Common.{◌∙◌, append-nil}
use Rattle.beam_cli.proofs.saying.say_table.Goals as goal

pub returns-in-AtomUtf8 : goal.returns-in-AtomUtf8
returns-in-AtomUtf8 g c = rw (c.in-AtomUtf8.is, ← (c.as_bytes-n.ensures.value ∙ c.format.ensures.text)) c.say_about-in-AtomUtf8.ensures

pub returns-in-AtomIndex : goal.returns-in-AtomIndex
returns-in-AtomIndex g c = rw (c.in-AtomIndex.is, ← (c.as_bytes-entry.ensures.value ∙ c.format-in-AtomIndex.ensures.text)) (rw append-nil at c.say_about-in-AtomIndex.ensures)

pub returns-in-NoMemory : goal.returns-in-NoMemory
returns-in-NoMemory g c = rw c.in-NoMemory.is c.say_about-in-NoMemory.ensures
