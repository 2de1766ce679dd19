use Rattle.std.proofs.Common.{◌≡◌, None, sym, inl, inr}
use Rattle.code_faults.specs.Operands.{instruction_fault}
use Rattle.flow_rules.proofs.making.judge.Goals as goal

pub returns-in-Err-Unsupported-clause-wrong : goal.returns-in-Err-Unsupported-clause-wrong
returns-in-Err-Unsupported-clause-wrong c why is =
    let sound : instruction_fault c.args.m.now c.args.f.now c.args.instr.now ≡ None = sym c.in_default.ensures.fault in
    let has = c.sound_instructions_have_plans.ensures c.args.m.now c.args.f.now c.args.instr.now c.ends.result sound in
    elim c.in-Err-Unsupported.ensures [
      | inl planned ↦ let found = has.1 in absurd (cc)
      | inr memory ↦ absurd (cc)
    ]

pub returns-in-Err-Shape-clause-wrong : goal.returns-in-Err-Shape-clause-wrong
returns-in-Err-Shape-clause-wrong c why is =
    let sound : instruction_fault c.args.m.now c.args.f.now c.args.instr.now ≡ None = sym c.in_default.ensures.fault in
    let has = c.sound_instructions_have_plans.ensures c.args.m.now c.args.f.now c.args.instr.now c.ends.result sound in
    elim c.in-Err-Shape.ensures [
      | inl planned ↦ let found = has.1 in absurd (cc)
      | inr memory ↦ absurd (cc)
    ]
