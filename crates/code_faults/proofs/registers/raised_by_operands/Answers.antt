use Rattle.std.proofs.Common.{sym, ◌∙◌}
use Rattle.std.specs.Iterator.Adapters.{zip_first, zip_second}
use Rattle.std.specs.Slice.Iter.{iter_rest}
use Rattle.std.proofs.lemmas.Slice.Zip.{Zip-more, either_empty_from_Zip}
use Rattle.op_table.specs.Rules.{named}
use Rattle.code_faults.specs.Registers.{raised_by}
use Rattle.code_faults.proofs.Raising.{raised_operand, none_named}
use Rattle.code_faults.proofs.registers.raised_by_operands.Goals as goal

pub loop-role-preserved : goal.loop-role-preserved
loop-role-preserved c =
    let before = c.loop-role.role-iterator in
    let after = c.next.new.self in
    let more = Zip-more before after c.next.result (c.in-Some.role, c.in-Some.operand) c.in-Some.is c.next.ensures.steps in
    raised_operand (raised_by c.args.bound (named c.args.roles.now c.args.operands.now)) c.loop-role.bound c.raised_by_operand-bound.result (iter_rest (zip_first before)) (iter_rest (zip_first after)) c.in-Some.role.now (iter_rest (zip_second before)) (iter_rest (zip_second after)) c.in-Some.operand.now c.loop-role.invariant more.0 more.1 c.raised_by_operand-bound.ensures

pub returns : goal.returns
returns c =
    let before = c.loop-role.role-iterator in
    let none = either_empty_from_Zip before c.next.new.self c.next.result c.in-None.is c.next.ensures.steps in
    none_named c.loop-role.bound (iter_rest (zip_first before)) (iter_rest (zip_second before)) none ∙ sym c.loop-role.invariant
