use Rattle.flow_rules.proofs.Judged.{HasFaults, HavePlans}
use Rattle.flow_rules.proofs.making.judge_all.Given as goal

abbrev pub invariant-instrs : goal.invariant-instrs
invariant-instrs l = record {
  faults : HasFaults l.m l.f l.number l.place l.faults;
  plans : HavePlans l.m l.f l.number l.place l.faults l.plans;
}
