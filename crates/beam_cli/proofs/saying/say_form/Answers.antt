use Rattle.std.proofs.Common.{◌∙◌, append-nil}
use Rattle.beam_cli.proofs.saying.say_form.Goals as goal

pub returns-in-NotBeam : goal.returns-in-NotBeam
returns-in-NotBeam g c = rw c.in-NotBeam.is c.say_about-in-NotBeam.ensures

pub returns-in-ChunkCut : goal.returns-in-ChunkCut
returns-in-ChunkCut g c = rw (c.in-ChunkCut.is, ← (c.as_bytes-at.ensures.value ∙ c.format-in-ChunkCut.ensures.text)) (rw append-nil at c.say_about-in-ChunkCut.ensures)

pub returns-in-NoMemory : goal.returns-in-NoMemory
returns-in-NoMemory g c = rw c.in-NoMemory.is c.say_about-in-NoMemory.ensures
