use Rattle.std.proofs.Common.{◌∙◌, ap}
use Rattle.std.specs.Option.{ok_or}
use Rattle.std.proofs.lemmas.Result.{err_from_is_err_and}
use Rattle.beam_module.specs.declared.refusal.ModuleRefusal.TheVariants.{Missing}
use Rattle.beam_module.specs.Name.{atoms_id}
use Rattle.beam_module.proofs.Names.{answer_found, answer_only, refusal_only}
use Rattle.beam_module.proofs.naming.module_name.Goals as goal

pub returns-in_err-atoms-clause-only : goal.returns-in_err-atoms-clause-only
returns-in_err-atoms-clause-only c =
    let p = err_from_is_err_and c.from_residual.result c.from_residual.ensures.1 in
    rw (p.1, p.2) (refusal_only c.args.form.now c.in_err-atoms.field-0.0 c.in_err-atoms.ensures.only)

pub returns-clause-found : goal.returns-clause-found
returns-clause-found c =
    answer_found c.args.form.now c.in_ok-atoms.atoms c.ok_or.result c.in_ok-atoms.ensures.found (c.ok_or.ensures.value ∙ ap (λ o. ok_or o (Missing atoms_id)) c.first.ensures)

pub returns-clause-only : goal.returns-clause-only
returns-clause-only c =
    answer_only c.args.form.now c.in_ok-atoms.atoms c.ok_or.result c.in_ok-atoms.ensures.only (c.ok_or.ensures.value ∙ ap (λ o. ok_or o (Missing atoms_id)) c.first.ensures)
