use Rattle.code_chunk.proofs.Opcodes.{read_next, refused_next, shorter_next}
use Rattle.code_chunk.proofs.laws.instructions_are_read_in_order.Goals as goal

pub returns-clause-next : goal.returns-clause-next
returns-clause-next c = read_next

pub returns-clause-refused : goal.returns-clause-refused
returns-clause-refused c = refused_next

pub returns-clause-shorter : goal.returns-clause-shorter
returns-clause-shorter c = shorter_next
