use Rattle.std.proofs.Common.{◌∙◌, append-nil}
use Rattle.beam_cli.proofs.saying.say_functions.Goals as goal

pub returns : goal.returns
returns g c = rw (← c.function_why_text.ensures, ← (c.as_bytes-at.ensures.value ∙ c.format.ensures.text)) (rw append-nil at c.say_about.ensures)
