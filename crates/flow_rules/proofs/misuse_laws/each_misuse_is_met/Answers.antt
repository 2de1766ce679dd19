use Rattle.std.proofs.Common.{refl, [], ◌∷◌, arith}
use Rattle.op_table.specs.Table.{table}
use Rattle.op_table.specs.Planning.{plan_of}
use Rattle.func_split.specs.Reading.{split_of}
use Rattle.code_faults.specs.Operands.{instruction_fault}
use Rattle.flow_rules.proofs.Misused.{code_split, start, inside, framed, empty, tagged, starts, done}
use Rattle.flow_rules.proofs.misuse_laws.each_misuse_is_met.Goals as goal

pub returns-clause-unset : goal.returns-clause-unset
unfolding table plan_of split_of instruction_fault
returns-clause-unset c = record {
  split = code_split c.splitting_is_exact.ensures.accepted _ refl;
  front = start ∷ [];
  last = inside;
  is_run = (starts _ _ _ (omega arith), ((refl, (done, refl)), tt));
  place_is = refl;
  is_stuck = refl;
}

pub returns-clause-slot : goal.returns-clause-slot
unfolding table plan_of split_of instruction_fault
returns-clause-slot c = record {
  split = code_split c.splitting_is_exact.ensures.accepted _ refl;
  front = start ∷ inside ∷ [];
  last = framed 4 (empty ∷ []);
  is_run = (starts _ _ _ (omega arith), ((refl, (done, refl)), ((refl, (done, refl)), tt)));
  place_is = refl;
  is_stuck = refl;
}

pub returns-clause-no_frame : goal.returns-clause-no_frame
unfolding table plan_of split_of instruction_fault
returns-clause-no_frame c = record {
  split = code_split c.splitting_is_exact.ensures.accepted _ refl;
  front = start ∷ [];
  last = inside;
  is_run = (starts _ _ _ (omega arith), ((refl, (done, refl)), tt));
  place_is = refl;
  is_stuck = refl;
}

pub returns-clause-frame_open : goal.returns-clause-frame_open
unfolding table plan_of split_of instruction_fault
returns-clause-frame_open c = record {
  split = code_split c.splitting_is_exact.ensures.accepted _ refl;
  front = start ∷ inside ∷ [];
  last = framed 4 [];
  is_run = (starts _ _ _ (omega arith), ((refl, (done, refl)), ((refl, (done, refl)), tt)));
  place_is = refl;
  is_stuck = refl;
}

pub returns-clause-frame_size : goal.returns-clause-frame_size
unfolding table plan_of split_of instruction_fault
returns-clause-frame_size c = record {
  split = code_split c.splitting_is_exact.ensures.accepted _ refl;
  front = start ∷ inside ∷ [];
  last = framed 4 (empty ∷ []);
  is_run = (starts _ _ _ (omega arith), ((refl, (done, refl)), ((refl, (done, refl)), tt)));
  place_is = refl;
  is_stuck = refl;
}

pub returns-clause-heap : goal.returns-clause-heap
unfolding table plan_of split_of instruction_fault
returns-clause-heap c = record {
  split = code_split c.splitting_is_exact.ensures.accepted _ refl;
  front = start ∷ [];
  last = inside;
  is_run = (starts _ _ _ (omega arith), ((refl, (done, refl)), tt));
  place_is = refl;
  is_stuck = refl;
}

pub returns-clause-leave : goal.returns-clause-leave
unfolding table plan_of split_of instruction_fault
returns-clause-leave c = record {
  split = code_split c.splitting_is_exact.ensures.accepted _ refl;
  front = start ∷ [];
  last = inside;
  is_run = (starts _ _ _ (omega arith), ((refl, (done, refl)), tt));
  place_is = refl;
  is_stuck = refl;
}

pub returns-clause-open_tag : goal.returns-clause-open_tag
unfolding table plan_of split_of instruction_fault
returns-clause-open_tag c = record {
  split = code_split c.splitting_is_exact.ensures.accepted _ refl;
  front = start ∷ inside ∷ framed 4 (empty ∷ []) ∷ [];
  last = framed 5 (tagged ∷ []);
  is_run = (starts _ _ _ (omega arith), ((refl, (done, refl)), ((refl, (done, refl)), ((refl, (done, refl)), tt))));
  place_is = refl;
  is_stuck = refl;
}

pub returns-clause-order : goal.returns-clause-order
unfolding table plan_of split_of instruction_fault
returns-clause-order c = record {
  split = code_split c.splitting_is_exact.ensures.accepted _ refl;
  front = start ∷ inside ∷ framed 4 (empty ∷ empty ∷ []) ∷ [];
  last = framed 5 (tagged ∷ empty ∷ []);
  is_run = (starts _ _ _ (omega arith), ((refl, (done, refl)), ((refl, (done, refl)), ((refl, (done, refl)), tt))));
  place_is = refl;
  is_stuck = refl;
}

pub returns-clause-innermost : goal.returns-clause-innermost
unfolding table plan_of split_of instruction_fault
returns-clause-innermost c = record {
  split = code_split c.splitting_is_exact.ensures.accepted _ refl;
  front = start ∷ inside ∷ framed 4 (empty ∷ empty ∷ []) ∷ framed 5 (empty ∷ tagged ∷ []) ∷ [];
  last = framed 6 (tagged ∷ tagged ∷ []);
  is_run = (starts _ _ _ (omega arith), ((refl, (done, refl)), ((refl, (done, refl)), ((refl, (done, refl)), ((refl, (done, refl)), tt)))));
  place_is = refl;
  is_stuck = refl;
}
