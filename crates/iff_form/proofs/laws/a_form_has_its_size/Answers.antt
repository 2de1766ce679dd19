use Rattle.iff_form.proofs.Canon.{form_fits, form_len}
use Rattle.iff_form.proofs.laws.a_form_has_its_size.Goals as goal

pub returns-clause-long : goal.returns-clause-long
returns-clause-long c = form_len

pub returns-clause-fits : goal.returns-clause-fits
returns-clause-fits c = form_fits
