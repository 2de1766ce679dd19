use Rattle.std.proofs.Common.{◌∙◌, append-nil}
use Rattle.beam_cli.proofs.saying.say_code.Goals as goal

pub returns-in-Header : goal.returns-in-Header
returns-in-Header g c = rw c.in-Header.is c.say_about.ensures

pub returns-in-Opcode : goal.returns-in-Opcode
returns-in-Opcode g c = rw (c.in-Opcode.is, ← (c.as_bytes-op.ensures.value ∙ c.format.ensures.text), ← (c.as_bytes-at.ensures.value ∙ c.format-in-Opcode.ensures.text)) (rw append-nil at c.say_about-in-Opcode.ensures)

pub returns-in-Operand : goal.returns-in-Operand
returns-in-Operand g c = rw (c.in-Operand.is, ← (c.as_bytes.ensures.value ∙ c.format-in-Operand.ensures.text)) c.say_operand.ensures

pub returns-in-NoMemory : goal.returns-in-NoMemory
returns-in-NoMemory g c = rw c.in-NoMemory.is c.say_about-in-NoMemory.ensures
