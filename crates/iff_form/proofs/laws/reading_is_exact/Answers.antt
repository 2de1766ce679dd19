use Rattle.iff_form.proofs.Refusals.{form_is_exact, refuses_from, refused_by}
use Rattle.iff_form.proofs.laws.reading_is_exact.Goals as goal

pub returns-clause-exact : goal.returns-clause-exact
returns-clause-exact c = form_is_exact

pub returns-clause-refused : goal.returns-clause-refused
returns-clause-refused c = λ bytes e fits. (refuses_from bytes e fits, refused_by bytes e fits)
