-- The exit status of the process.
use Rattle.std.specs.Prelude.{ℕ}
use Rattle.beam_cli.specs.declared.status.Status.{Status}
use Rattle.beam_cli.specs.declared.status.Status.TheVariants.{Done, Refused, Usage, Grammar, ReadFault, WriteFault, TooLarge, NoMemory}

abbrev pub code_of : Status → ℕ
code_of Done = 0
code_of Refused = 1
code_of Usage = 2
code_of Grammar = 3
code_of ReadFault = 4
code_of WriteFault = 5
code_of TooLarge = 6
code_of NoMemory = 7
