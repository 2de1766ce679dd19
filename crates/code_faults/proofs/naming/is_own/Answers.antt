use Rattle.std.proofs.Common.{◌∙◌}
use Rattle.func_split.specs.Marks.{marks_of}
use Rattle.code_faults.proofs.Labelled.{own_label}
use Rattle.code_faults.proofs.naming.is_own.Goals as goal

pub returns : goal.returns
returns c = c.is_some.ensures ∙ own_label c.args.label (marks_of c.args.f.now.instrs) c.place_of.result c.place_of.ensures
