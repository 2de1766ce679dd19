use Rattle.std.proofs.Common.{◌∙◌, append-nil}
use Rattle.beam_cli.proofs.saying.say_refusal.Goals as goal

pub returns-in-Missing : goal.returns-in-Missing
returns-in-Missing g c = rw (c.in-Missing.is, ← (c.as_bytes.ensures ∙ c.new.ensures)) (rw append-nil at c.say_about.ensures)

pub returns-in-Functions : goal.returns-in-Functions
returns-in-Functions g c = rw c.in-Functions.is c.say_functions.ensures

pub returns-in-NoMemory : goal.returns-in-NoMemory
returns-in-NoMemory g c = rw c.in-NoMemory.is c.say_about-in-NoMemory.ensures
