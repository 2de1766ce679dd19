use Rattle.compact_term.proofs.Shortest.{number_small, integer_small}
use Rattle.compact_term.proofs.laws.canonical_numbers_are_short.Goals as goal

pub returns-clause-number : goal.returns-clause-number
returns-clause-number c = number_small

pub returns-clause-integer : goal.returns-clause-integer
returns-clause-integer c = integer_small
