use Rattle.reg_state.specs.States.{store_of}
use Rattle.label_fixpoint.specs.Typing.{typing_of}
use Rattle.flow_rules.specs.Blocks.{block_faults}
use Rattle.validator.proofs.Covered.{read_next}
use Rattle.validator.proofs.validating.add_blocks.Goals as goal

pub each-preserved : goal.each-preserved
each-preserved c =
    read_next (typing_of c.args.states.now) (λ block s. block_faults c.args.blocks.now.flow.now block (store_of s)) c.each.block c.args.report.now c.each.report c.add_block.new.report c.each.invariant c.in_ok-add_block.ensures
