use Rattle.op_table.proofs.Named.{name_word}
use Rattle.op_table.proofs.laws.names_are_words.Goals as goal

pub returns : goal.returns
returns c = name_word
