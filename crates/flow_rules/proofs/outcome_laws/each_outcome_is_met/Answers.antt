use Rattle.std.proofs.Common.{refl}
use Rattle.op_table.specs.Table.{table}
use Rattle.op_table.specs.Planning.{plan_of}
use Rattle.func_split.specs.Reading.{split_of}
use Rattle.code_faults.specs.Operands.{instruction_fault}
use Rattle.flow_rules.proofs.Exhibited.{alike, shown}
use Rattle.flow_rules.proofs.outcome_laws.each_outcome_is_met.Goals as goal

pub returns-clause-call_is_entered : goal.returns-clause-call_is_entered
unfolding table plan_of split_of instruction_fault
returns-clause-call_is_entered c = shown c.splitting_is_exact.ensures.accepted refl refl refl refl refl refl (λ empty. alike refl refl refl refl refl refl empty (λ i. refl) refl refl refl refl)

pub returns-clause-call_returns : goal.returns-clause-call_returns
unfolding table plan_of split_of instruction_fault
returns-clause-call_returns c = shown c.splitting_is_exact.ensures.accepted refl refl refl refl refl refl (λ empty. alike refl refl refl refl refl refl empty (λ i. refl) refl refl refl refl)

pub returns-clause-tail_call_is_entered : goal.returns-clause-tail_call_is_entered
unfolding table plan_of split_of instruction_fault
returns-clause-tail_call_is_entered c = shown c.splitting_is_exact.ensures.accepted refl refl refl refl refl refl (λ empty. alike refl refl refl refl refl refl empty (λ i. refl) refl refl refl refl)

pub returns-clause-tail_call_returns : goal.returns-clause-tail_call_returns
unfolding table plan_of split_of instruction_fault
returns-clause-tail_call_returns c = shown c.splitting_is_exact.ensures.accepted refl refl refl refl refl refl (λ empty. alike refl refl refl refl refl refl empty (λ i. refl) refl refl refl refl)

pub returns-clause-last_return_ends : goal.returns-clause-last_return_ends
unfolding table plan_of split_of instruction_fault
returns-clause-last_return_ends c = shown c.splitting_is_exact.ensures.accepted refl refl refl refl refl refl (λ empty. tt)

pub returns-clause-failure_writes_nothing : goal.returns-clause-failure_writes_nothing
unfolding table plan_of split_of instruction_fault
returns-clause-failure_writes_nothing c = shown c.splitting_is_exact.ensures.accepted refl refl refl refl refl refl (λ empty. alike refl refl refl refl refl refl empty (λ i. refl) refl refl refl refl)

pub returns-clause-success_writes : goal.returns-clause-success_writes
unfolding table plan_of split_of instruction_fault
returns-clause-success_writes c = shown c.splitting_is_exact.ensures.accepted refl refl refl refl refl refl (λ empty. alike refl refl refl refl refl refl empty (λ i. refl) refl refl refl refl)

pub returns-clause-raise_reaches_a_handler : goal.returns-clause-raise_reaches_a_handler
unfolding table plan_of split_of instruction_fault
returns-clause-raise_reaches_a_handler c = shown c.splitting_is_exact.ensures.accepted refl refl refl refl refl refl (λ empty. alike refl refl refl refl refl refl empty (λ i. refl) refl refl refl refl)

pub returns-clause-handler_of_try : goal.returns-clause-handler_of_try
unfolding table plan_of split_of instruction_fault
returns-clause-handler_of_try c = shown c.splitting_is_exact.ensures.accepted refl refl refl refl refl refl (λ empty. alike refl refl refl refl refl refl empty (λ i. refl) refl refl refl refl)

pub returns-clause-handler_of_catch : goal.returns-clause-handler_of_catch
unfolding table plan_of split_of instruction_fault
returns-clause-handler_of_catch c = shown c.splitting_is_exact.ensures.accepted refl refl refl refl refl refl (λ empty. alike refl refl refl refl refl refl empty (λ i. refl) refl refl refl refl)

pub returns-clause-lowest_handler : goal.returns-clause-lowest_handler
unfolding table plan_of split_of instruction_fault
returns-clause-lowest_handler c = shown c.splitting_is_exact.ensures.accepted refl refl refl refl refl refl (λ empty. alike refl refl refl refl refl refl empty (λ i. refl) refl refl refl refl)

pub returns-clause-raise_ends : goal.returns-clause-raise_ends
unfolding table plan_of split_of instruction_fault
returns-clause-raise_ends c = shown c.splitting_is_exact.ensures.accepted refl refl refl refl refl refl (λ empty. tt)

pub returns-clause-raise_ends_past_a_call : goal.returns-clause-raise_ends_past_a_call
unfolding table plan_of split_of instruction_fault
returns-clause-raise_ends_past_a_call c = shown c.splitting_is_exact.ensures.accepted refl refl refl refl refl refl (λ empty. tt)

pub returns-clause-call_outside_raises : goal.returns-clause-call_outside_raises
unfolding table plan_of split_of instruction_fault
returns-clause-call_outside_raises c = shown c.splitting_is_exact.ensures.accepted refl refl refl refl refl refl (λ empty. tt)

pub returns-clause-call_outside_returns : goal.returns-clause-call_outside_returns
unfolding table plan_of split_of instruction_fault
returns-clause-call_outside_returns c = shown c.splitting_is_exact.ensures.accepted refl refl refl refl refl refl (λ empty. alike refl refl refl refl refl refl empty (λ i. refl) refl refl refl refl)

pub returns-clause-tail_outside_raises : goal.returns-clause-tail_outside_raises
unfolding table plan_of split_of instruction_fault
returns-clause-tail_outside_raises c = shown c.splitting_is_exact.ensures.accepted refl refl refl refl refl refl (λ empty. alike refl refl refl refl refl refl empty (λ i. refl) refl refl refl refl)

pub returns-clause-tail_outside_returns : goal.returns-clause-tail_outside_returns
unfolding table plan_of split_of instruction_fault
returns-clause-tail_outside_returns c = shown c.splitting_is_exact.ensures.accepted refl refl refl refl refl refl (λ empty. alike refl refl refl refl refl refl empty (λ i. refl) refl refl refl refl)

pub returns-clause-tail_outside_ends : goal.returns-clause-tail_outside_ends
unfolding table plan_of split_of instruction_fault
returns-clause-tail_outside_ends c = shown c.splitting_is_exact.ensures.accepted refl refl refl refl refl refl (λ empty. tt)

pub returns-clause-second_label : goal.returns-clause-second_label
unfolding table plan_of split_of instruction_fault
returns-clause-second_label c = shown c.splitting_is_exact.ensures.accepted refl refl refl refl refl refl (λ empty. alike refl refl refl refl refl refl empty (λ i. refl) refl refl refl refl)

pub returns-clause-no_label_of_the_list : goal.returns-clause-no_label_of_the_list
unfolding table plan_of split_of instruction_fault
returns-clause-no_label_of_the_list c = shown c.splitting_is_exact.ensures.accepted refl refl refl refl refl refl (λ empty. alike refl refl refl refl refl refl empty (λ i. refl) refl refl refl refl)

pub returns-clause-jump : goal.returns-clause-jump
unfolding table plan_of split_of instruction_fault
returns-clause-jump c = shown c.splitting_is_exact.ensures.accepted refl refl refl refl refl refl (λ empty. alike refl refl refl refl refl refl empty (λ i. refl) refl refl refl refl)

pub returns-clause-copy : goal.returns-clause-copy
unfolding table plan_of split_of instruction_fault
returns-clause-copy c = shown c.splitting_is_exact.ensures.accepted refl refl refl refl refl refl (λ empty. alike refl refl refl refl refl refl empty (λ i. refl) refl refl refl refl)

pub returns-clause-copy_of_context : goal.returns-clause-copy_of_context
unfolding table plan_of split_of instruction_fault
returns-clause-copy_of_context c = shown c.splitting_is_exact.ensures.accepted refl refl refl refl refl refl (λ empty. alike refl refl refl refl refl refl empty (λ i. refl) refl refl refl refl)

pub returns-clause-copy_by_slot : goal.returns-clause-copy_by_slot
unfolding table plan_of split_of instruction_fault
returns-clause-copy_by_slot c = shown c.splitting_is_exact.ensures.accepted refl refl refl refl refl refl (λ empty. alike refl refl refl refl refl refl empty (λ i. refl) refl refl refl refl)

pub returns-clause-swap : goal.returns-clause-swap
unfolding table plan_of split_of instruction_fault
returns-clause-swap c = shown c.splitting_is_exact.ensures.accepted refl refl refl refl refl refl (λ empty. alike refl refl refl refl refl refl empty (λ i. refl) refl refl refl refl)

pub returns-clause-trim : goal.returns-clause-trim
unfolding table plan_of split_of instruction_fault
returns-clause-trim c = shown c.splitting_is_exact.ensures.accepted refl refl refl refl refl refl (λ empty. alike refl refl refl refl refl refl empty (λ i. refl) refl refl refl refl)

pub returns-clause-heap_is_used : goal.returns-clause-heap_is_used
unfolding table plan_of split_of instruction_fault
returns-clause-heap_is_used c = shown c.splitting_is_exact.ensures.accepted refl refl refl refl refl refl (λ empty. alike refl refl refl refl refl refl empty (λ i. refl) refl refl refl refl)
