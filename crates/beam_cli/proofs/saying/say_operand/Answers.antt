use Rattle.std.proofs.Common.{◌∙◌, append-nil}
use Rattle.beam_cli.proofs.saying.say_operand.Goals as goal

pub returns-in-Cut : goal.returns-in-Cut
returns-in-Cut g c = rw c.in-Cut.is c.say_about.ensures

pub returns-in-Inner : goal.returns-in-Inner
returns-in-Inner g c = rw c.in-Inner.is c.say_about-in-Inner.ensures

pub returns-in-Wide : goal.returns-in-Wide
returns-in-Wide g c = rw (c.in-Wide.is, ← (c.as_bytes-tag.ensures.value ∙ c.format.ensures.text)) (rw append-nil at c.say_about-in-Wide.ensures)

pub returns-in-Negative : goal.returns-in-Negative
returns-in-Negative g c = rw (c.in-Negative.is, ← (c.as_bytes-tag-in-Negative.ensures.value ∙ c.format-in-Negative.ensures.text)) (rw append-nil at c.say_about-in-Negative.ensures)

pub returns-in-Extended : goal.returns-in-Extended
returns-in-Extended g c = rw (c.in-Extended.is, ← (c.as_bytes-value.ensures.value ∙ c.format-in-Extended.ensures.text)) (rw append-nil at c.say_about-in-Extended.ensures)

pub returns-in-Nested : goal.returns-in-Nested
returns-in-Nested g c = rw c.in-Nested.is c.say_about-in-Nested.ensures

pub returns-in-NoMemory : goal.returns-in-NoMemory
returns-in-NoMemory g c = rw c.in-NoMemory.is c.say_about-in-NoMemory.ensures
