use Rattle.beam_module.proofs.Names.{name_accepted, name_refused}
use Rattle.beam_module.proofs.laws.names_are_exact.Goals as goal

pub returns-clause-accepted : goal.returns-clause-accepted
returns-clause-accepted c = name_accepted c.reading_is_exact.ensures.atoms

pub returns-clause-refused : goal.returns-clause-refused
returns-clause-refused c = name_refused c.reading_is_exact.ensures.atoms
