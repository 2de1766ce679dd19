use Rattle.std.proofs.Common.{refl}
use Rattle.op_table.specs.Table.{table}
use Rattle.op_table.specs.Planning.{plan_of}
use Rattle.func_split.specs.Reading.{split_of}
use Rattle.code_faults.specs.Operands.{instruction_fault}
use Rattle.flow_rules.proofs.Exhibited.{stuck}
use Rattle.flow_rules.proofs.outcome_laws.each_need_can_fail.Goals as goal

pub returns-clause-new_slot : goal.returns-clause-new_slot
unfolding table plan_of split_of instruction_fault
returns-clause-new_slot c = stuck c.splitting_is_exact.ensures.accepted refl refl refl refl refl refl

pub returns-clause-kept : goal.returns-clause-kept
unfolding table plan_of split_of instruction_fault
returns-clause-kept c = stuck c.splitting_is_exact.ensures.accepted refl refl refl refl refl refl

pub returns-clause-kept_by_a_call : goal.returns-clause-kept_by_a_call
unfolding table plan_of split_of instruction_fault
returns-clause-kept_by_a_call c = stuck c.splitting_is_exact.ensures.accepted refl refl refl refl refl refl

pub returns-clause-read : goal.returns-clause-read
unfolding table plan_of split_of instruction_fault
returns-clause-read c = stuck c.splitting_is_exact.ensures.accepted refl refl refl refl refl refl

pub returns-clause-read_of_a_slot : goal.returns-clause-read_of_a_slot
unfolding table plan_of split_of instruction_fault
returns-clause-read_of_a_slot c = stuck c.splitting_is_exact.ensures.accepted refl refl refl refl refl refl

pub returns-clause-read_of_a_handler : goal.returns-clause-read_of_a_handler
unfolding table plan_of split_of instruction_fault
returns-clause-read_of_a_handler c = stuck c.splitting_is_exact.ensures.accepted refl refl refl refl refl refl

pub returns-clause-read_without_a_frame : goal.returns-clause-read_without_a_frame
unfolding table plan_of split_of instruction_fault
returns-clause-read_without_a_frame c = stuck c.splitting_is_exact.ensures.accepted refl refl refl refl refl refl

pub returns-clause-live : goal.returns-clause-live
unfolding table plan_of split_of instruction_fault
returns-clause-live c = stuck c.splitting_is_exact.ensures.accepted refl refl refl refl refl refl

pub returns-clause-full : goal.returns-clause-full
unfolding table plan_of split_of instruction_fault
returns-clause-full c = stuck c.splitting_is_exact.ensures.accepted refl refl refl refl refl refl

pub returns-clause-full_at_a_call : goal.returns-clause-full_at_a_call
unfolding table plan_of split_of instruction_fault
returns-clause-full_at_a_call c = stuck c.splitting_is_exact.ensures.accepted refl refl refl refl refl refl

pub returns-clause-heap_is_reserved_anew : goal.returns-clause-heap_is_reserved_anew
unfolding table plan_of split_of instruction_fault
returns-clause-heap_is_reserved_anew c = stuck c.splitting_is_exact.ensures.accepted refl refl refl refl refl refl

pub returns-clause-heap_for_a_fun : goal.returns-clause-heap_for_a_fun
unfolding table plan_of split_of instruction_fault
returns-clause-heap_for_a_fun c = stuck c.splitting_is_exact.ensures.accepted refl refl refl refl refl refl

pub returns-clause-write_to_a_handler : goal.returns-clause-write_to_a_handler
unfolding table plan_of split_of instruction_fault
returns-clause-write_to_a_handler c = stuck c.splitting_is_exact.ensures.accepted refl refl refl refl refl refl

pub returns-clause-swap_of_nothing : goal.returns-clause-swap_of_nothing
unfolding table plan_of split_of instruction_fault
returns-clause-swap_of_nothing c = stuck c.splitting_is_exact.ensures.accepted refl refl refl refl refl refl

pub returns-clause-second_frame : goal.returns-clause-second_frame
unfolding table plan_of split_of instruction_fault
returns-clause-second_frame c = stuck c.splitting_is_exact.ensures.accepted refl refl refl refl refl refl

pub returns-clause-call_without_a_frame : goal.returns-clause-call_without_a_frame
unfolding table plan_of split_of instruction_fault
returns-clause-call_without_a_frame c = stuck c.splitting_is_exact.ensures.accepted refl refl refl refl refl refl

pub returns-clause-trim_of_another_size : goal.returns-clause-trim_of_another_size
unfolding table plan_of split_of instruction_fault
returns-clause-trim_of_another_size c = stuck c.splitting_is_exact.ensures.accepted refl refl refl refl refl refl

pub returns-clause-trim_of_a_handler : goal.returns-clause-trim_of_a_handler
unfolding table plan_of split_of instruction_fault
returns-clause-trim_of_a_handler c = stuck c.splitting_is_exact.ensures.accepted refl refl refl refl refl refl

pub returns-clause-other_kind_of_handler : goal.returns-clause-other_kind_of_handler
unfolding table plan_of split_of instruction_fault
returns-clause-other_kind_of_handler c = stuck c.splitting_is_exact.ensures.accepted refl refl refl refl refl refl

pub returns-clause-nothing_was_caught : goal.returns-clause-nothing_was_caught
unfolding table plan_of split_of instruction_fault
returns-clause-nothing_was_caught c = stuck c.splitting_is_exact.ensures.accepted refl refl refl refl refl refl

pub returns-clause-nothing_has_landed : goal.returns-clause-nothing_has_landed
unfolding table plan_of split_of instruction_fault
returns-clause-nothing_has_landed c = stuck c.splitting_is_exact.ensures.accepted refl refl refl refl refl refl

pub returns-clause-unsupported : goal.returns-clause-unsupported
unfolding table plan_of split_of instruction_fault
returns-clause-unsupported c = stuck c.splitting_is_exact.ensures.accepted refl refl refl refl refl refl

pub returns-clause-operand : goal.returns-clause-operand
unfolding table plan_of split_of instruction_fault
returns-clause-operand c = stuck c.splitting_is_exact.ensures.accepted refl refl refl refl refl refl

pub returns-clause-index : goal.returns-clause-index
unfolding table plan_of split_of instruction_fault
returns-clause-index c = stuck c.splitting_is_exact.ensures.accepted refl refl refl refl refl refl

pub returns-clause-label_elsewhere : goal.returns-clause-label_elsewhere
unfolding table plan_of split_of instruction_fault
returns-clause-label_elsewhere c = stuck c.splitting_is_exact.ensures.accepted refl refl refl refl refl refl

pub returns-clause-target : goal.returns-clause-target
unfolding table plan_of split_of instruction_fault
returns-clause-target c = stuck c.splitting_is_exact.ensures.accepted refl refl refl refl refl refl
