use Rattle.module_gen.proofs.Opening.{can_be_written, is_module}
use Rattle.module_gen.proofs.laws.generated_files_open.Goals as goal

pub returns-clause-writable : goal.returns-clause-writable
returns-clause-writable c n some small = can_be_written c.canonical_numbers_are_short.ensures.number n small

pub returns-clause-module : goal.returns-clause-module
returns-clause-module c n some small =
    is_module
    c.canonical_numbers_are_short.ensures.number
    c.canonical_code_is_spelled.ensures
    c.spelled_code_is_bytes.ensures
    c.canonical_is_a_form.ensures
    c.written_tables_are_spelled.ensures.atoms
    c.written_tables_are_spelled.ensures.imports
    c.written_tables_are_spelled.ensures.exports
    n
    small
