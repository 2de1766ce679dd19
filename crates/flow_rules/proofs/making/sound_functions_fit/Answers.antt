use Rattle.flow_rules.proofs.Made.{made_fits}
use Rattle.flow_rules.proofs.making.sound_functions_fit.Goals as goal

pub returns : goal.returns
returns c = made_fits (record {
  labels = c.plans_keep_labels.ensures;
  registers = c.plans_write_named_registers.ensures;
  tags_first = c.plans_tag_first.ensures;
  own = c.sound_instructions_stay_inside.ensures;
  counted = c.named_registers_are_counted.ensures.all;
  three = c.named_registers_are_counted.ensures.three;
  arguments = c.named_registers_are_counted.ensures.arguments;
})
