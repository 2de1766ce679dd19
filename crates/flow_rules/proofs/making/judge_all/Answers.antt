use Rattle.std.proofs.Common.{◌≡◌, ◌∙◌, ◌+◌, ◌<◌, ℕ, List, [], ◌∷◌, ◌++◌, Some, None, Ok, length, get_or, sym, ap, subst}
use Rattle.std.proofs.lemmas.List.{append-nil}
use Rattle.op_table.specs.Instruction.{Instruction}
use Rattle.code_faults.specs.declared.fault.Fault.{Fault}
use Rattle.code_faults.specs.Faults.{fault_at, faults_at}
use Rattle.flow_rules.proofs.Judged.{HasFaults, HavePlans, next_faults, next_plan, no_plan}
use Rattle.flow_rules.proofs.making.judge_all.Goals as goal
use Rattle.flow_rules.proofs.making.judge_all.Goals.{in-Sound+in_ok-push-in-Sound, in-Wrong+in_ok-push-in-Wrong}

pub instrs-preserved : goal.instrs-preserved
instrs-preserved c =
    let m = c.args.m.now in
    let f = c.args.f.now in
    let number = c.args.number in
    let place = c.instrs.place in
    let old = c.instrs.faults in
    let instr = c.instr-item.result in
    let below : place < length f.instrs = subst (λ (is : List Instruction). place < length is) c.instrs-instr-items.ensures c.instrs-test.true in
    let at : instr ≡ get_or f.instrs place instr = c.instr-item.is ∙ ap (λ (is : List Instruction). get_or is place instr) c.instrs-instr-items.ensures in
    elim c.match-branch-2.branch [
      | in-Sound+in_ok-push-in-Sound w ↦
          let has = c.in_ok-plan.ensures.sound w.in-Sound.plan (ap Ok w.in-Sound.is) in
          let plans : c.match-branch-2.plans ≡ c.instrs.plans ++ w.in-Sound.plan ∷ [] = w.plans-is ∙ w.in_ok-push-in-Sound.ensures.ok in
          let faults : c.match-branch-2.faults ≡ old ++ [] = w.faults-is ∙ sym (append-nil old) in
          record {
            faults = subst (HasFaults m f number (place + 1)) (sym faults) (next_faults m f number place old instr None below at has.sound c.instrs.invariant.faults);
            plans = subst (λ (fs : List Fault). HavePlans m f number (place + 1) fs c.match-branch-2.plans) (sym w.faults-is)
                (subst (HavePlans m f number (place + 1) old) (sym plans) (next_plan m f number place old c.instrs.plans instr w.in-Sound.plan below at has c.instrs.invariant.plans));
          }
      | in-Wrong+in_ok-push-in-Wrong w ↦
          let wrong = c.in_ok-plan.ensures.wrong w.in-Wrong.reason (ap Ok w.in-Wrong.is) in
          let faults : c.match-branch-2.faults ≡ old ++ faults_at number (f.first + place) (Some w.in-Wrong.reason) =
          w.faults-is ∙ (w.in_ok-push-in-Wrong.ensures.ok ∙ ap (λ (n : ℕ). old ++ fault_at number n w.in-Wrong.reason ∷ []) (ap (λ (first : ℕ). first + place) w.first.ensures)) in
          record {
            faults = subst (HasFaults m f number (place + 1)) (sym faults) (next_faults m f number place old instr (Some w.in-Wrong.reason) below at wrong c.instrs.invariant.faults);
            plans = subst (λ (fs : List Fault). HavePlans m f number (place + 1) fs c.match-branch-2.plans) (sym faults) (no_plan m f number (place + 1) old _ c.match-branch-2.plans);
          }
    ]
