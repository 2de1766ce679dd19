use Rattle.beam_module.proofs.OneModule.{one_module_lem}
use Rattle.beam_module.proofs.laws.one_module.Goals as goal

pub returns : goal.returns
returns c =
    one_module_lem
    c.one_form.ensures
    c.one_code.ensures
    (λ code f g. c.one_split.ensures code.labels code.instrs f g)
    c.atoms_are_decided.ensures
    c.entries_are_decided.ensures.imports
    c.entries_are_decided.ensures.funs
    c.one_literal_table.ensures
