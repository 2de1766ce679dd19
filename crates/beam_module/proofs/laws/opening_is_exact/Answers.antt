use Rattle.beam_module.proofs.Openings.{module_is_exact}
use Rattle.beam_module.proofs.laws.opening_is_exact.Goals as goal

pub returns : goal.returns
returns c =
    module_is_exact
    c.reading_is_exact.ensures.exact
    c.payloads_are_bytes.ensures
    c.reading_is_exact-2.ensures.exact
    (λ code s. c.splitting_is_exact.ensures.accepted code.labels code.functions code.instrs s)
    c.reading_is_exact-3.ensures.atoms
    c.reading_is_exact-3.ensures.imports
    c.reading_is_exact-3.ensures.exports
    c.reading_is_exact-3.ensures.funs
    c.reading_is_exact-4.ensures.literals
