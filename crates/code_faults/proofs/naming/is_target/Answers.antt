use Rattle.std.proofs.Common.{◌==◌, ◌∙◌, ap}
use Rattle.code_faults.proofs.Labelled.{target, no_target}
use Rattle.code_faults.proofs.naming.is_target.Goals as goal

pub returns-in-Some : goal.returns-in-Some
returns-in-Some c = ap (λ n. n == c.args.arity) c.from.ensures ∙ target c.args.m.now.code.functions c.args.label c.args.arity c.in-Some.own c.entry_of.result c.entry_of.ensures c.in-Some.is

pub returns-in-None : goal.returns-in-None
returns-in-None c = no_target c.args.m.now.code.functions c.args.label c.args.arity c.entry_of.result c.entry_of.ensures c.in-None.is
